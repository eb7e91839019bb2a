-- A block and a conversion with three numbers in the place of the tolerances (docs/REFERENCE.md, 'Near tests and tolerances'): `close` for
-- near, `small` for near zero, and `apart` for the distance within which a conversion only relabels. Every definition that has a near test,
-- or that calls one that has, stands here once more, word for word but for the numbers: `Receives`, in Tolerances.antt, says that a
-- player's own tolerances reach each of its near tests, and only those. What isn't written out again has no near test and calls nothing
-- that has one. Definitions only.
use Rattle.std.specs.Prelude.{Bool, true, false, not, ◌&&◌, ◌||◌, cond, List, ℕ, zero, suc, ◌+◌, ◌-◌, ◌==◌, eqb, ltb, nat_lt, get_or, length, Float, Option, None, Some, Result, Ok, Err}
use Rattle.std.specs.Float.{binary64}
use Rattle.std.specs.Float.Ieee.{of_bits, sub, mul, le, ne}
use Rattle.rounding.specs.Rounding.{widen}
use Rattle.rounding.specs.Near.{near, near_zero, float_eq}
use Rattle.seconds.specs.Seconds.{never, float_zero, one, block_end}
use Rattle.buffer.specs.Answers.{answer_of, stored, after_checks}
use Rattle.buffer.specs.declared.Shape.{Shape}
use Rattle.buffer.specs.declared.refusals.Refusal.{Refusal}
use Rattle.buffer.specs.declared.refusals.Refusal.TheVariants as refused
use Rattle.buffer.specs.Limits.{valid_shape, valid_rate, max_frames}
use Rattle.sub_sample.specs.SubSample.{head_of, instant_of, is_idle, begun, enters, wrapped, info_at, advanced}
use Rattle.sub_sample.specs.declared.Settings.{Settings}
use Rattle.sub_sample.specs.declared.Playhead.{Playhead}
use Rattle.sub_sample.specs.declared.PlaybackInfo.{PlaybackInfo}
use Rattle.interpolated.specs.Interpolated.{loop_frame, between}
use Rattle.player.specs.Record.{render_of, moved}
use Rattle.player.specs.Block.{Plan, silent, idle, computed_rate, is_aligned, aligned_plan, has_ended, settings, first_head, ramped_plan, checked, report_of, written}
use Rattle.player.specs.declared.Player.{Player}
use Rattle.player.specs.declared.BlockReport.{BlockReport}
use Rattle.reshape.specs.Converting.{converted_length, resampled_channels}

module _ (close small apart : Float) where
  abbrev pub is_near : Float → Float → Bool
  is_near a b = near a b close

  abbrev pub is_near_zero : Float → Bool
  is_near_zero a = near_zero a small

  -- ---- where the playhead of a sub-sample block stands, sample by sample
  -- before the start is tested: a start near the sample's instant, and an elapsed time near the duration, are taken as equal to it
  unfoldable pub snapped : Settings → Float → Playhead → Playhead
  snapped s now h =
      head_of (cond (not h.started && is_near now h.start_time.0) now h.start_time.0) h.offset.0 h.buffer_time.0
      (cond (is_near h.buffer_time_elapsed.0 s.duration.0) s.duration.0 h.buffer_time_elapsed.0) h.started h.entered_loop

  -- near the loop's end, then near its start, the position is taken as equal to it
  unfoldable pub snapped_to_loop : Settings → Float → Float
  snapped_to_loop s x =
      let y = cond (is_near x s.loop_end.0) s.loop_end.0 x in
      cond (is_near y s.loop_start.0) s.loop_start.0 y

  -- in a loop: once it is entered, the position stays within it
  unfoldable pub turned : Settings → Playhead → Playhead
  turned s h =
      let x = snapped_to_loop s h.buffer_time.0 in
      let entered = h.entered_loop || enters s h.offset.0 x in
      cond s.is_looping
      (head_of h.start_time.0 h.offset.0 (cond entered (wrapped s x) x) h.buffer_time_elapsed.0 h.started entered)
      h

  -- near zero, the position is zero
  unfoldable pub settled : Playhead → Playhead
  settled h =
      head_of h.start_time.0 h.offset.0 (cond (is_near_zero h.buffer_time.0) float_zero h.buffer_time.0)
      h.buffer_time_elapsed.0 h.started h.entered_loop

  -- the playhead of a sample that plays
  unfoldable pub placed : Settings → Float → Playhead → Playhead
  placed s now h = settled (turned s (begun s now h))

  unfoldable pub stepped : Settings → ℕ → Playhead → Playhead
  stepped s i h =
      let now = instant_of s i in
      let k = snapped s now h in
      cond (is_idle s now k) k (advanced s (placed s now k))

  unfoldable pub info_of_sample : Settings → ℕ → Playhead → Option PlaybackInfo
  info_of_sample s i h =
      let now = instant_of s i in
      let k = snapped s now h in
      cond (is_idle s now k) None (info_at s (placed s now k).buffer_time.0)

  -- the playhead before sample i
  unfoldable pub head_at : Settings → Playhead → ℕ → Playhead
  head_at s h zero = h
  head_at s h (suc i) = stepped s i (head_at s h i)

  -- the samples before the starting one
  unfoldable pub before_start : Settings → Playhead → ℕ → ℕ
  before_start s h zero = 0
  before_start s h (suc i) = cond (head_at s h (suc i)).started (before_start s h i) (before_start s h i + 1)

  -- ---- the samples' bits
  -- unlooped, the sample after the last is continued from the last two frames
  unfoldable pub extrapolated : List ℕ → ℕ → Float → Float
  extrapolated channel frame k =
      cond (is_near k one || eqb frame 0) float_zero
      (sub binary64 (mul binary64 (of_bits binary64 0x4000_0000_0000_0000) (widen (get_or channel frame 0)))
      (widen (get_or channel (frame - 1) 0)))

  -- the sample after frame number `frame`
  unfoldable pub following : Settings → List ℕ → ℕ → Float → Float
  following s channel frame k =
      cond (ltb (frame + 1) s.buffer_length) (widen (get_or channel (frame + 1) 0))
      (cond s.is_looping (widen (get_or channel (loop_frame s) 0)) (extrapolated channel frame k))

  -- a sample that plays no frame is 0
  unfoldable pub sample_of : Settings → List ℕ → Option PlaybackInfo → ℕ
  sample_of s channel None = 0
  sample_of s channel (Some info) =
      let frame = info.prev_frame_index.0 in
      between info.k (widen (get_or channel frame 0)) (following s channel frame info.k)

  -- ---- the block: the player after it, its answer, and the output
  unfoldable pub sub_sample_plan : ℕ → Player → Float → Float → Float → Plan
  sub_sample_plan n p time rate computed =
      let s = settings p time rate computed in
      let h = first_head p time in
      let l = head_at s h n in
      let ended = has_ended n p time computed l.buffer_time.0 l.buffer_time_elapsed.0 in
      record {
        player = moved p l.start_time.0 l.offset.0
            (render_of l.buffer_time.0 l.started l.entered_loop l.buffer_time_elapsed.0 false ended) time;
        keep_alive = true;
        channels = p.shape.channels;
        uncounted = before_start s h n;
        sample = λ frames i. sample_of s frames (info_of_sample s i (head_at s h i));
      }

  -- the order of the block's cases
  unfoldable pub bare_plan : ℕ → Player → Float → Float → Float → Plan
  bare_plan n p time rate factor =
      let end = block_end n time p.sample_rate in
      let computed = computed_rate rate factor in
      cond p.render_state.ended (silent n (idle p time true) false)
      (cond (not p.has_buffer && ne p.start_time.0 never) (silent n (idle p time true) false)
      (cond (le end p.start_time.0)
      (cond (le p.stop_time.0 end) (silent n (idle p time true) false) (silent n (idle p time false) (ne p.start_time.0 never)))
      (cond (not p.has_buffer) (silent n (idle p time false) false)
      (cond (is_aligned n p time computed) (aligned_plan n p time computed)
      (sub_sample_plan n p time rate computed)))))

  -- with the ramp, which has no near test
  abbrev pub plan : ℕ → Player → Float → Float → Float → Plan
  plan n p time rate factor = ramped_plan n p (bare_plan n p time rate factor)

  unfoldable pub rendered : ℕ → Player → ℕ → ℕ → Float → Float → Float → Result BlockReport Refusal
  rendered n p outLength samplesLength time rate factor =
      after_checks (checked n p outLength samplesLength time rate factor) (report_of (plan n p time rate factor))

  unfoldable pub output : ℕ → Player → List ℕ → List ℕ → Float → Float → Float → List ℕ
  output n p out samples time rate factor =
      let q = plan n p time rate factor in
      stored (answer_of (checked n p (length out) (length samples) time rate factor))
      (written n q.sample p.shape.frames samples out q.channels) out

  -- ---- conversion
  -- to a rate within the distance of the clip's own, and of an empty buffer, it only relabels
  unfoldable pub relabels : Shape → Float → Bool
  relabels shape rate = float_eq shape.rate rate apart || shape.frames == 0

  -- the refusals by 1 and 2 for a buffer of `len` samples and a new rate; then a relabelled shape, or the refusal by 7 and the result's
  -- shape
  unfoldable pub converted_shape : Shape → ℕ → Float → Result Shape Refusal
  converted_shape shape len rate =
      cond (not (valid_shape shape.channels shape.frames len)) (Err refused.Shape)
      (cond (not (valid_rate shape.rate)) (Err refused.Rate)
      (cond (not (valid_rate rate)) (Err refused.Rate)
      (cond (relabels shape rate) (Ok (record { channels = shape.channels; frames = shape.frames; rate = rate }))
      (cond (nat_lt max_frames (converted_length shape rate)) (Err refused.Long)
      (Ok (record { channels = shape.channels; frames = converted_length shape rate; rate = rate }))))))

  -- the samples of the result
  unfoldable pub converted_samples : Shape → List ℕ → Float → List ℕ
  converted_samples shape samples rate =
      cond (relabels shape rate) samples
      (resampled_channels shape.rate rate samples shape.channels shape.frames (converted_length shape rate))
