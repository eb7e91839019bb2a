-- Split: the first s frames of each channel, and the rest (docs/REFERENCE.md, 'Extend and split').
use Rattle.std.specs.Prelude.{ℕ, ◌-◌, ◌*◌, cond, not, List, take, drop, ◌==◌, nat_lt}
use Rattle.lists.specs.Rows.{rows}
use Rattle.buffer.specs.declared.refusals.Refusal.TheVariants as refused
use Rattle.buffer.specs.Limits.{valid_shape, valid_rate}
use Rattle.buffer.specs.Channels.{channel}
use Rattle.buffer.specs.declared.Shape.{Shape}
use Rattle.buffer.specs.declared.refusals.Refusal.{Refusal}
use Rattle.std.specs.Prelude.{Result, Ok, Err}

-- 1, 2 and 5 for a buffer of `len` samples, then the shapes of the first s frames and of the rest
unfoldable pub split_shapes : Shape → ℕ → ℕ → Result (Shape × Shape) Refusal
split_shapes shape len s =
    cond (not (valid_shape shape.channels shape.frames len)) (Err refused.Shape)
    (cond (not (valid_rate shape.rate)) (Err refused.Rate)
    (cond (nat_lt shape.frames s) (Err refused.Point)
    (Ok (
      record { channels = shape.channels; frames = s; rate = shape.rate },
      record { channels = shape.channels; frames = shape.frames - s; rate = shape.rate },
    ))))

-- 8, checked last: each output is exactly its part's length
unfoldable pub both_fitted : Result (Shape × Shape) Refusal → ℕ → ℕ → Result (Shape × Shape) Refusal
both_fitted (Err refusal) m n = Err refusal
both_fitted (Ok (first, rest)) m n =
    cond (not (m == first.channels * first.frames)) (Err refused.Length)
    (cond (not (n == rest.channels * rest.frames)) (Err refused.Length)
    (Ok (first, rest)))

-- in each channel the first s frames
abbrev pub first_part : Shape → List ℕ → ℕ → List ℕ
first_part shape samples s = rows shape.channels (λ c. take s (channel samples shape.frames c))

-- in each channel the frames from s on
abbrev pub rest_part : Shape → List ℕ → ℕ → List ℕ
rest_part shape samples s = rows shape.channels (λ c. drop s (channel samples shape.frames c))
