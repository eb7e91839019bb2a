-- docs/REFERENCE.md, 'Sub-sample block' and 'Near tests and tolerances': where the playhead stands for each sample, and
-- what the sample plays. Every near test goes by the tolerances that the player was made with. Definitions only.
use Rattle.std.specs.Prelude.{Bool, true, not, ◌&&◌, ◌||◌, cond, ℕ, zero, suc, ◌+◌, ltb, Float, Option, None, Some}
use Rattle.std.specs.Float.{binary64}
use Rattle.std.specs.Float.Ieee.{add, sub, mul, lt, le, to_unsigned}
use Rattle.rounding.specs.Rounding.{whole, magnitude, floor, rem_euclid}
use Rattle.tolerances.specs.Tolerances.{is_near, is_near_zero}
use Rattle.seconds.specs.Seconds.{context, in_clip, float_zero}
use Rattle.sub_sample.specs.declared.Settings.{Settings}
use Rattle.sub_sample.specs.declared.Playhead.{Playhead}
use Rattle.sub_sample.specs.declared.PlaybackInfo.{PlaybackInfo}

abbrev pub head_of : Float → Float → Float → Float → Bool → Bool → Playhead
head_of start offset position elapsed started entered = record {
  start_time = context start;
  offset = in_clip offset;
  buffer_time = in_clip position;
  buffer_time_elapsed = in_clip elapsed;
  started = started;
  entered_loop = entered;
}

abbrev pub info_of : ℕ → Float → PlaybackInfo
info_of frame k = record { prev_frame_index = record { 0 = frame }; k = k }

-- sample i's instant: the block's time and i steps of dt, each step rounded
abbrev pub instant_of : Settings → ℕ → Float
instant_of s i = add binary64 s.block_time.0 (mul binary64 (whole i) s.dt)

-- ---- before the start is tested: a start near the sample's instant, and an elapsed time near the duration, are taken as equal to it
unfoldable pub snapped : Settings → Float → Playhead → Playhead
snapped s now h =
    head_of (cond (not h.started && is_near s.tolerances now h.start_time.0) now h.start_time.0) h.offset.0 h.buffer_time.0
    (cond (is_near s.tolerances h.buffer_time_elapsed.0 s.duration.0) s.duration.0 h.buffer_time_elapsed.0) h.started h.entered_loop

-- before the start, at or after the stop, or with the duration reached, a sample plays nothing
unfoldable pub is_idle : Settings → Float → Playhead → Bool
is_idle s now h = lt now h.start_time.0 || le s.stop_time.0 now || le s.duration.0 h.buffer_time_elapsed.0

-- ---- the first sample at or after the start

-- 0 where x is not above it (−0 and a NaN too), and y where x is not below it
abbrev pub at_least_zero : Float → Float
at_least_zero x = cond (lt float_zero x) x float_zero

abbrev pub at_most : Float → Float → Float
at_most x y = cond (lt x y) x y

-- the offset within the clip, and within the loop's far end
unfoldable pub start_offset : Settings → Float → Float
start_offset s x =
    let o = at_most (at_least_zero x) s.buffer_duration.0 in
    let forward = cond (s.is_looping && le float_zero s.computed_playback_rate && lt s.loop_end.0 o) s.loop_end.0 o in
    cond (s.is_looping && lt s.computed_playback_rate float_zero && lt forward s.loop_start.0) s.loop_start.0 forward

-- the first sample begins as far past the offset as the clip has run since the start; later ones go on
unfoldable pub begun : Settings → Float → Playhead → Playhead
begun s now h =
    let run = mul binary64 (sub binary64 now h.start_time.0) s.computed_playback_rate in
    let offset = start_offset s (add binary64 h.offset.0 run) in
    cond h.started h (head_of h.start_time.0 offset offset (magnitude run) true h.entered_loop)

-- ---- a loop

-- near the loop's end, then near its start, the position is taken as equal to it
unfoldable pub snapped_to_loop : Settings → Float → Float
snapped_to_loop s x =
    let y = cond (is_near s.tolerances x s.loop_end.0) s.loop_end.0 x in
    cond (is_near s.tolerances y s.loop_start.0) s.loop_start.0 y

-- begun before the loop's end and now at or past its start, or begun at or past its end and now before it
unfoldable pub enters : Settings → Float → Float → Bool
enters s offset x =
    lt offset s.loop_end.0 && le s.loop_start.0 x || le s.loop_end.0 offset && lt x s.loop_end.0

-- outside the loop, the position comes back into it by the Euclidean remainder
unfoldable pub wrapped : Settings → Float → Float
wrapped s x =
    cond (le s.loop_end.0 x || lt x s.loop_start.0)
    (add binary64 s.loop_start.0
    (rem_euclid binary64 (sub binary64 x s.loop_start.0) (sub binary64 s.loop_end.0 s.loop_start.0)))
    x

-- looped, the position is brought into the loop once the loop was entered
unfoldable pub turned : Settings → Playhead → Playhead
turned s h =
    let x = snapped_to_loop s h.buffer_time.0 in
    let entered = h.entered_loop || enters s h.offset.0 x in
    cond s.is_looping
    (head_of h.start_time.0 h.offset.0 (cond entered (wrapped s x) x) h.buffer_time_elapsed.0 h.started entered)
    h

-- ---- near zero, the position is zero
unfoldable pub settled : Settings → Playhead → Playhead
settled s h =
    head_of h.start_time.0 h.offset.0 (cond (is_near_zero s.tolerances h.buffer_time.0) float_zero h.buffer_time.0)
    h.buffer_time_elapsed.0 h.started h.entered_loop

-- ---- the frame and the fraction at a position within the clip
-- the position in frames: × the clip's rate by the output's, × the output's rate
unfoldable pub playhead : Settings → Float → Float
playhead s x = mul binary64 (mul binary64 x s.sampling_ratio) s.sample_rate

-- the frame by floor, and what is left above it; outside the clip nothing
unfoldable pub info_at : Settings → Float → Option PlaybackInfo
info_at s x =
    let floored = floor binary64 (playhead s x) in
    let frame = to_unsigned 64 floored in
    cond (le float_zero x && lt x s.buffer_duration.0 && ltb frame s.buffer_length)
    (Some (info_of frame (sub binary64 (playhead s x) floored)))
    None

-- ---- on to the next sample: the position moves by dt at the computed rate, the elapsed time by its magnitude
unfoldable pub advanced : Settings → Playhead → Playhead
advanced s h =
    let step = mul binary64 s.dt s.computed_playback_rate in
    head_of h.start_time.0 h.offset.0 (add binary64 h.buffer_time.0 step)
    (add binary64 h.buffer_time_elapsed.0 (magnitude step)) h.started h.entered_loop

-- ---- a sample: where the playhead stands for it, what it plays, and where the playhead goes

-- the playhead of a sample that plays
unfoldable pub placed : Settings → Float → Playhead → Playhead
placed s now h = settled s (turned s (begun s now h))

-- the playhead after sample i: one that plays nothing moves nothing but what is near
unfoldable pub stepped : Settings → ℕ → Playhead → Playhead
stepped s i h =
    let now = instant_of s i in
    let k = snapped s now h in
    cond (is_idle s now k) k (advanced s (placed s now k))

-- what sample i plays
unfoldable pub info_of_sample : Settings → ℕ → Playhead → Option PlaybackInfo
info_of_sample s i h =
    let now = instant_of s i in
    let k = snapped s now h in
    cond (is_idle s now k) None (info_at s (placed s now k).buffer_time.0)

-- the playhead before sample i
unfoldable pub head_at : Settings → Playhead → ℕ → Playhead
head_at s h zero = h
head_at s h (suc i) = stepped s i (head_at s h i)

-- the starting sample is the one at which the playhead starts; so many of the first i samples come before it
unfoldable pub before_start : Settings → Playhead → ℕ → ℕ
before_start s h zero = 0
before_start s h (suc i) = cond (head_at s h (suc i)).started (before_start s h i) (before_start s h i + 1)
