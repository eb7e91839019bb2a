-- The last check of a call that makes one buffer (docs/REFERENCE.md, 'Extend and split' and 'Conversion').
use Rattle.std.specs.Prelude.{ℕ, ◌*◌, cond, not, ◌==◌}
use Rattle.buffer.specs.declared.refusals.Refusal.TheVariants as refused
use Rattle.buffer.specs.declared.Shape.{Shape}
use Rattle.buffer.specs.declared.refusals.Refusal.{Refusal}
use Rattle.std.specs.Prelude.{Result, Ok, Err}

-- 8, checked last: the output is exactly the result's length
unfoldable pub fitted : Result Shape Refusal → ℕ → Result Shape Refusal
fitted (Err refusal) len = Err refusal
fitted (Ok shape) len = cond (not (len == shape.channels * shape.frames)) (Err refused.Length) (Ok shape)
