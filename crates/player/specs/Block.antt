-- docs/REFERENCE.md, 'Order of a block's cases', 'Aligned block', 'Sub-sample block', 'When a player ends' and 'Ramps': the block call.
-- docs/REFERENCE.md, 'Output block' and 'Refusals': its output, and what it refuses. n is the block length. Definitions only.
-- What a block does to the player doesn't depend on the frames: `plan` gives it, with how a channel's frames become its samples.
use Rattle.std.specs.Prelude.{Bool, true, false, not, ◌&&◌, ◌||◌, cond, List, ℕ, zero, suc, ◌*◌, eqb, pos, length, Float, Result, Ok, Err}
use Rattle.std.specs.Float.{fin, binary64}
use Rattle.std.specs.Float.Ieee.{add, mul, div, lt, le, eq, ne}
use Rattle.std.specs.Float.Ieee.Scale.{finite}
use Rattle.lists.specs.Table.{table}
use Rattle.lists.specs.Parts.{put}
use Rattle.buffer.specs.Answers.{answer_of, stored, after_checks}
use Rattle.buffer.specs.Channels.{channel}
use Rattle.buffer.specs.Limits.{valid_shape, duration}
use Rattle.buffer.specs.declared.refusals.Refusal.TheVariants as refused
use Rattle.seconds.specs.Seconds.{context, in_clip, never, float_zero, one, dt, block_seconds, block_end}
use Rattle.player.specs.Record.{render_of, moved, with_ramp}
use Rattle.player.specs.Reports.{report_from}
use Rattle.player.specs.Factor.{is_factor}
use Rattle.aligned.specs.Aligned.{first_frame, ends_within, aligned_sample, last_wrap, aligned_position}
use Rattle.sub_sample.specs.SubSample.{head_of, head_at, before_start, info_of_sample}
use Rattle.interpolated.specs.Interpolated.{sample_of}
use Rattle.ramps.specs.Ramps.{ramped, counted, stopping}
use Rattle.ramps.specs.declared.Ramp.{Ramp}
use Rattle.player.specs.declared.Player.{Player}
use Rattle.player.specs.declared.RenderState.{RenderState}
use Rattle.sub_sample.specs.declared.Settings.{Settings}
use Rattle.sub_sample.specs.declared.Playhead.{Playhead}
use Rattle.player.specs.declared.BlockReport.{BlockReport}
use Rattle.buffer.specs.declared.refusals.Refusal.{Refusal}

-- the player after a block, keep-alive, the answered channels, how many of the first samples come before the starting one, and sample i of
-- a channel by that channel's frames
pub record Plan : Type 0 where
  pub player : Player
  pub keep_alive : Bool
  pub channels : ℕ
  pub uncounted : ℕ
  pub sample : List ℕ → ℕ → ℕ

-- ---- silence is one channel of zeros, none of which counts
abbrev pub silent : ℕ → Player → Bool → Plan
silent n p keep = record { player = p; keep_alive = keep; channels = 1; uncounted = n; sample = λ frames i. 0 }

abbrev pub with_ended : RenderState → Bool → RenderState
with_ended r ended = render_of r.buffer_time.0 r.started r.entered_loop r.buffer_time_elapsed.0 r.is_aligned ended

-- the player of a silent block: its time is noted, and it may end
unfoldable pub idle : Player → Float → Bool → Player
idle p time ended = moved p p.start_time.0 p.offset.0 (with_ended p.render_state ended) time

-- ---- a block that plays
-- the clip's duration, the rate with its factor, and the clip's rate by the output's
abbrev pub clip_seconds : Player → Float
clip_seconds p = duration p.shape.frames p.shape.rate

abbrev pub computed_rate : Float → Float → Float
computed_rate rate factor = mul binary64 rate factor

abbrev pub sampling_ratio : Player → Float
sampling_ratio p = div binary64 p.shape.rate p.sample_rate

-- a start in the past moves to the block time, unless it has begun
unfoldable pub start_at : Player → Float → Float
start_at p time = cond (not p.render_state.started && lt p.start_time.0 time) time p.start_time.0

-- Aligned: from a start at the block time with offset 0, until another rate, moved loop points, or a duration or a stop inside the block.
unfoldable pub is_aligned : ℕ → Player → Float → Float → Bool
is_aligned n p time computed =
    (p.render_state.is_aligned || eq (start_at p time) time && eq p.offset.0 float_zero)
    && not (ne (sampling_ratio p) one || ne computed one)
    && not (ne p.loop_state.start.0 float_zero || ne p.loop_state.end.0 (clip_seconds p))
    && not (lt p.duration.0 (add binary64 p.render_state.buffer_time.0 (block_seconds n p.sample_rate))
    || lt p.stop_time.0 (block_end n time p.sample_rate))

-- After either kind of block: ended if the stop or the duration is reached, or, unlooped, the clip's end forwards or its start backwards.
unfoldable pub has_ended : ℕ → Player → Float → Float → Float → Float → Bool
has_ended n p time computed position elapsed =
    le p.stop_time.0 (block_end n time p.sample_rate)
    || le p.duration.0 elapsed
    || not p.loop_state.is_looping
    && (lt float_zero computed && le (clip_seconds p) position || lt computed float_zero && lt position float_zero)

-- ---- the aligned block
-- it starts the clip again where it is looped and the clip ends within it
unfoldable pub turns_over : ℕ → Player → Bool
turns_over n p = p.loop_state.is_looping && ends_within n p.render_state.buffer_time.0 p.sample_rate (clip_seconds p)

abbrev pub first_of : Player → ℕ
first_of p = first_frame p.render_state.buffer_time.0 p.sample_rate

-- Position and elapsed time grow by the block's length, or the position is what is left after the last wrap.
unfoldable pub aligned_plan : ℕ → Player → Float → Float → Plan
aligned_plan n p time computed =
    let r = p.render_state in
    let rate = p.sample_rate in
    let start = start_at p time in
    let turns = turns_over n p in
    let position = aligned_position n r.buffer_time.0 rate (clip_seconds p) (last_wrap turns p.shape.frames (first_of p) n) in
    let elapsed = add binary64 r.buffer_time_elapsed.0 (block_seconds n rate) in
    record {
      player = moved p start p.offset.0
          (render_of position (r.started || eq start time) r.entered_loop elapsed true (has_ended n p time computed position elapsed)) time;
      keep_alive = true;
      channels = p.shape.channels;
      uncounted = 0;
      sample = aligned_sample turns p.shape.frames (first_of p);
    }

-- ---- the sub-sample block
-- a loop whose points are in order is itself; another is the whole clip
unfoldable pub own_loop : Player → Bool
own_loop p = le float_zero p.loop_state.start.0 && lt float_zero p.loop_state.end.0 && lt p.loop_state.start.0 p.loop_state.end.0

-- what stays the same over the block's samples; unlooped, both loop points are 0
unfoldable pub settings : Player → Float → Float → Float → Settings
settings p time rate computed = record {
  block_time = context time;
  dt = dt p.sample_rate;
  stop_time = p.stop_time;
  duration = p.duration;
  playback_rate = rate;
  computed_playback_rate = computed;
  is_looping = p.loop_state.is_looping;
  loop_start = in_clip (cond (p.loop_state.is_looping && own_loop p) p.loop_state.start.0 float_zero);
  loop_end = in_clip (cond p.loop_state.is_looping (cond (own_loop p) p.loop_state.end.0 (clip_seconds p)) float_zero);
  buffer_length = p.shape.frames;
  buffer_duration = in_clip (clip_seconds p);
  sampling_ratio = sampling_ratio p;
  sample_rate = p.sample_rate;
  tolerances = p.tolerances;
}

-- the playhead before the first sample: an unlooped block leaves the loop
unfoldable pub first_head : Player → Float → Playhead
first_head p time =
    let r = p.render_state in
    head_of (start_at p time) p.offset.0 r.buffer_time.0 r.buffer_time_elapsed.0 r.started
    (p.loop_state.is_looping && r.entered_loop)

-- the player takes over where the playhead stands after the last sample
unfoldable pub sub_sample_plan : ℕ → Player → Float → Float → Float → Plan
sub_sample_plan n p time rate computed =
    let s = settings p time rate computed in
    let h = first_head p time in
    let l = head_at s h n in
    let ended = has_ended n p time computed l.buffer_time.0 l.buffer_time_elapsed.0 in
    record {
      player = moved p l.start_time.0 l.offset.0
          (render_of l.buffer_time.0 l.started l.entered_loop l.buffer_time_elapsed.0 false ended) time;
      keep_alive = true;
      channels = p.shape.channels;
      uncounted = before_start s h n;
      sample = λ frames i. sample_of s frames (info_of_sample s i (head_at s h i));
    }

-- ---- the order of the block's cases
-- Silent: it has ended; it has a start but no buffer, which ends it; it starts at or past the block's end, which ends it
-- if the stop is reached; it has no buffer. Else it plays, aligned or sub-sample. All this without a ramp, of which it reads nothing.
unfoldable pub bare_plan : ℕ → Player → Float → Float → Float → Plan
bare_plan n p time rate factor =
    let end = block_end n time p.sample_rate in
    let computed = computed_rate rate factor in
    cond p.render_state.ended (silent n (idle p time true) false)
    (cond (not p.has_buffer && ne p.start_time.0 never) (silent n (idle p time true) false)
    (cond (le end p.start_time.0)
    (cond (le p.stop_time.0 end) (silent n (idle p time true) false) (silent n (idle p time false) (ne p.start_time.0 never)))
    (cond (not p.has_buffer) (silent n (idle p time false) false)
    (cond (is_aligned n p time computed) (aligned_plan n p time computed)
    (sub_sample_plan n p time rate computed)))))

-- ---- with the ramp (docs/REFERENCE.md, 'Ramps')
-- its samples are multiplied by this ramp: a block in which the clip starts works out the number of the stop's sample, by the start time
-- that it leaves
unfoldable pub ramp_in : Player → Bool → Float → Ramp
ramp_in p started start =
    cond (not p.render_state.started && started) (stopping p.ramp start p.stop_time.0 p.sample_rate) p.ramp

-- and it counts them. What else a block does is the bare plan's
unfoldable pub ramped_plan : ℕ → Player → Plan → Plan
ramped_plan n p q =
    let r = ramp_in p q.player.render_state.started q.player.start_time.0 in
    record {
      player = with_ramp q.player (counted n r q.uncounted);
      keep_alive = q.keep_alive;
      channels = q.channels;
      uncounted = q.uncounted;
      sample = λ frames i. ramped r q.uncounted i (q.sample frames i);
    }

abbrev pub plan : ℕ → Player → Float → Float → Float → Plan
plan n p time rate factor = ramped_plan n p (bare_plan n p time rate factor)

-- ---- refusals, by the output's and the samples' lengths

-- 2 ^ 30 seconds
abbrev pub latest : Float
latest = fin false 1 (pos 30)

-- not finite, negative, over 2 ^ 30, or not above the last accepted block's
unfoldable pub bad_block_time : Player → Float → Bool
bad_block_time p time = not (finite time) || lt time float_zero || lt latest time || p.has_block && le time p.block_time.0

-- a rate that is not finite; a factor that is a NaN or outside 2 ^ -64 .. 2 ^ 64
unfoldable pub bad_rate : Float → Float → Bool
bad_rate rate factor = not (finite rate) || not (is_factor factor)

-- the samples are not the player's buffer: its shape lies outside the limits, or their length is not channels × frames (0 without one)
unfoldable pub bad_samples : Player → ℕ → Bool
bad_samples p length = cond p.has_buffer (not (valid_shape p.shape.channels p.shape.frames length)) (not (eqb length 0))

-- The checks of a block in their order. That of the cents stands after 13 and before 14; the block call has no cents to check.
abbrev pub checks : ℕ → Player → ℕ → ℕ → Float → Bool → Float → Float → Result Unit Refusal
checks n p outLength samplesLength time bad_cents rate factor =
    cond (not (eqb outLength (32 * n))) (Err refused.Length)
    (cond (bad_block_time p time) (Err refused.Time)
    (cond bad_cents (Err refused.Cents)
    (cond (bad_rate rate factor) (Err refused.Speed)
    (cond (bad_samples p samplesLength) (Err refused.Shape)
    (Ok tt)))))

-- the checks of the block call
unfoldable pub checked : ℕ → Player → ℕ → ℕ → Float → Float → Float → Result Unit Refusal
checked n p outLength samplesLength time rate factor = checks n p outLength samplesLength time false rate factor

-- what a block answers whose factor is refused: only 8 and 13 come before
unfoldable pub without_factor : ℕ → Player → ℕ → Float → Refusal → Refusal
without_factor n p outLength time refusal =
    cond (not (eqb outLength (32 * n))) refused.Length
    (cond (bad_block_time p time) refused.Time refusal)

-- ---- the answer, and what the output then holds
abbrev pub report_of : Plan → BlockReport
report_of q = report_from q.player q.keep_alive q.channels

-- the refusal, or what the block answers
unfoldable pub rendered : ℕ → Player → ℕ → ℕ → Float → Float → Float → Result BlockReport Refusal
rendered n p outLength samplesLength time rate factor =
    after_checks (checked n p outLength samplesLength time rate factor) (report_of (plan n p time rate factor))

-- the output once its first `count` channels are written, each in its own part; the others are not touched
unfoldable pub written : ℕ → (List ℕ → ℕ → ℕ) → ℕ → List ℕ → List ℕ → ℕ → List ℕ
written n sample frames samples out zero = out
written n sample frames samples out (suc c) =
    put (n * c) n (table n (sample (channel samples frames c))) (written n sample frames samples out c)

-- the lent output after the call: as it was where the call is refused
unfoldable pub output : ℕ → Player → List ℕ → List ℕ → Float → Float → Float → List ℕ
output n p out samples time rate factor =
    let q = plan n p time rate factor in
    stored (answer_of (checked n p (length out) (length samples) time rate factor))
    (written n q.sample p.shape.frames samples out q.channels) out
