-- Conversion to another rate, each step rounded (docs/REFERENCE.md, 'Conversion'). A conversion is handed tolerances, of which it uses the
-- relabel distance; the calls that are handed none have the defaults, at the end.
use Rattle.std.specs.Prelude.{ℕ, ◌+◌, ◌-◌, min, pos, Bool, cond, not, ◌||◌, ◌==◌, nat_lt, List, length, slice_index, Float, from_bits}
use Rattle.std.specs.Prelude.{to_bits, Result, Ok, Err}
use Rattle.std.specs.Float.{binary32, binary64}
use Rattle.std.specs.Float.Ieee.{of_int, add, sub, mul, div, lt}
use Rattle.rounding.specs.Rounding.{whole, floor, ceil, truncate, convert}
use Rattle.lists.specs.Rows.{rows}
use Rattle.lists.specs.Table.{table}
use Rattle.buffer.specs.declared.refusals.Refusal.TheVariants as refused
use Rattle.buffer.specs.Limits.{valid_shape, valid_rate, max_frames}
use Rattle.buffer.specs.Channels.{channel}
use Rattle.buffer.specs.declared.Shape.{Shape}
use Rattle.tolerances.specs.declared.Tolerances.{Tolerances}
use Rattle.tolerances.specs.Tolerances.{defaults, is_same_rate}
use Rattle.buffer.specs.declared.refusals.Refusal.{Refusal}

-- a conversion changes the rate alone where the new one is within the relabel distance of the buffer's, or the buffer is empty
unfoldable pub relabels_with : Tolerances → Shape → Float → Bool
relabels_with t shape rate = is_same_rate t shape.rate rate || shape.frames == 0

-- the frames of the result: those of the buffer times the new rate over the old one, in f64 with the quotient first, rounded up
unfoldable pub converted_length : Shape → Float → ℕ
converted_length shape rate = truncate (ceil binary64 (mul binary64 (whole shape.frames) (div binary64 rate shape.rate)))

-- 1 and 2 for a buffer of `len` samples, 2 for the new rate; then a relabelled shape, or 7 and the result's shape
unfoldable pub converted_shape_with : Tolerances → Shape → ℕ → Float → Result Shape Refusal
converted_shape_with t shape len rate =
    cond (not (valid_shape shape.channels shape.frames len)) (Err refused.Shape)
    (cond (not (valid_rate shape.rate)) (Err refused.Rate)
    (cond (not (valid_rate rate)) (Err refused.Rate)
    (cond (relabels_with t shape rate) (Ok (record { channels = shape.channels; frames = shape.frames; rate = rate }))
    (cond (nat_lt max_frames (converted_length shape rate)) (Err refused.Long)
    (Ok (record { channels = shape.channels; frames = converted_length shape rate; rate = rate }))))))

-- where frame i is read, in frames of the source: i × source rate / target rate, in f64 with the product first
unfoldable pub playhead : Float → Float → ℕ → Float
playhead source target i = div binary64 (mul binary64 (whole i) source) target

-- the frame at or before the playhead
unfoldable pub previous : Float → ℕ
previous position = truncate (floor binary64 position)

-- how far past that frame, narrowed to f32
unfoldable pub fraction : Float → Float
fraction position = convert binary32 (sub binary64 position (floor binary64 position))

-- (1 − k) × the frame plus k × the next, in f32 with each step rounded
unfoldable pub mixed : Float → ℕ → ℕ → ℕ
mixed k frame next =
    to_bits binary32 (add binary32
    (mul binary32 (sub binary32 (of_int binary32 (pos 1)) k) (from_bits binary32 frame))
    (mul binary32 k (from_bits binary32 next)))

-- frame i of the result: past the last frame, that frame's own bits; else mixed of the frame at or before its place, and the next (or last)
unfoldable pub resampled : Float → Float → List ℕ → ℕ → ℕ
resampled source target frames i =
    let position = playhead source target i in
    let last = length frames - 1 in
    cond (lt (whole last) position) (slice_index frames last)
    (mixed (fraction position) (slice_index frames (previous position)) (slice_index frames (min (previous position + 1) last)))

-- every channel by itself
abbrev pub resampled_channels : Float → Float → List ℕ → ℕ → ℕ → ℕ → List ℕ
resampled_channels source target samples channels n m = rows channels (λ c. table m (resampled source target (channel samples n c)))

-- the samples of the result
unfoldable pub converted_samples_with : Tolerances → Shape → List ℕ → Float → List ℕ
converted_samples_with t shape samples rate =
    cond (relabels_with t shape rate) samples
    (resampled_channels shape.rate rate samples shape.channels shape.frames (converted_length shape rate))

-- ---- with the default tolerances
unfoldable pub relabels : Shape → Float → Bool
relabels shape rate = relabels_with defaults shape rate

unfoldable pub converted_shape : Shape → ℕ → Float → Result Shape Refusal
converted_shape shape len rate = converted_shape_with defaults shape len rate

unfoldable pub converted_samples : Shape → List ℕ → Float → List ℕ
converted_samples shape samples rate = converted_samples_with defaults shape samples rate
