-- docs/REFERENCE.md, 'Sub-sample block': the bits of its samples, from a channel's frames. Definitions only.
use Rattle.std.specs.Prelude.{◌||◌, cond, List, ℕ, ◌+◌, ◌-◌, min, ltb, eqb, get_or, Float, Option, None, Some}
use Rattle.std.specs.Float.{binary64}
use Rattle.std.specs.Float.Ieee.{of_bits, sub, mul, le, eq, to_unsigned}
use Rattle.rounding.specs.Rounding.{floor, widen, narrow}
use Rattle.fused.specs.Fused.{fma}
use Rattle.seconds.specs.Seconds.{float_zero, one}
use Rattle.tolerances.specs.Tolerances.{is_near}
use Rattle.sub_sample.specs.declared.Settings.{Settings}
use Rattle.sub_sample.specs.Infos.{entry}
use Rattle.sub_sample.specs.declared.PlaybackInfo.{PlaybackInfo}
use Rattle.sub_sample.specs.declared.Infos.{Infos}

-- The frame at which the sample after the last is found, looped: the loop's start forwards, the next whole frame, or its
-- end backwards, cut to a whole frame. Frames are counted by the output's rate, not the clip's, and it is the last frame
-- at most.
unfoldable pub loop_frame : Settings → ℕ
loop_frame s =
    let start = mul binary64 s.loop_start.0 s.sample_rate in
    let end = mul binary64 s.loop_end.0 s.sample_rate in
    min
    (cond (le float_zero s.playback_rate)
    (cond (eq (floor binary64 start) start) (to_unsigned 64 start) (to_unsigned 64 start + 1)) (to_unsigned 64 end))
    (s.buffer_length - 1)

-- unlooped, it is continued from the last two frames; it is 0 where k is near 1, and at frame 0
unfoldable pub extrapolated : Settings → List ℕ → ℕ → Float → Float
extrapolated s channel frame k =
    cond (is_near s.tolerances k one || eqb frame 0) float_zero
    (sub binary64 (mul binary64 (of_bits binary64 0x4000_0000_0000_0000) (widen (get_or channel frame 0)))
    (widen (get_or channel (frame - 1) 0)))

-- the sample after frame number `frame`: the clip's next frame, or what stands in for it after the last
unfoldable pub following : Settings → List ℕ → ℕ → Float → Float
following s channel frame k =
    cond (ltb (frame + 1) s.buffer_length) (widen (get_or channel (frame + 1) 0))
    (cond s.is_looping (widen (get_or channel (loop_frame s) 0)) (extrapolated s channel frame k))

-- k times the next is rounded, (1 − k) times the frame is added to it with one rounding, and the sum is narrowed to f32
unfoldable pub between : Float → Float → Float → ℕ
between k frame next = narrow (fma binary64 (sub binary64 one k) frame (mul binary64 k next))

-- a sample that plays no frame is 0
unfoldable pub sample_of : Settings → List ℕ → Option PlaybackInfo → ℕ
sample_of s channel None = 0
sample_of s channel (Some info) =
    let frame = info.prev_frame_index.0 in
    between info.k (widen (get_or channel frame 0)) (following s channel frame info.k)

-- sample i of a channel, by what each sample of the block plays
unfoldable pub sample_by : Settings → Infos → List ℕ → ℕ → ℕ
sample_by s infos channel i = sample_of s channel (entry infos i)
