-- `ramps::scaling::multiply_any` meets its contract. The invariant: the first i samples are multiplied. Assumes nothing.
use Rattle.std.proofs.Common.{◌≡◌, get_or}
use Rattle.std.specs.Float.{nan}
use Rattle.lists.specs.Table.{filled}
use Rattle.ramps.specs.Ramps.{multiplied}
use Rattle.ramps.proofs.scaling.multiply_any.Given as goal

abbrev pub invariant-loop-i : goal.invariant-loop-i
invariant-loop-i l =
    l.samples ≡ filled l.i (λ k. multiplied (get_or l.quotients k nan) (get_or l.initial.samples k 0)) l.initial.samples
