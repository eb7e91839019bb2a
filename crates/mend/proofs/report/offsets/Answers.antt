-- By hand: the length of the fresh array, without which `returns` is not proved.
use Rattle.std.proofs.Common.{arith}
use Rattle.std.proofs.lemmas.List.{length-replicate}
use Rattle.lists.specs.Table.{filled_end}
use Rattle.mend.proofs.report.offsets.Goals as goal

pub returns : goal.returns
returns c = rw length-replicate at (filled_end _ _ _ _ c.loop-c.invariant (simp length-replicate (omega arith)))
