-- `staircase::marked` meets its contract. The invariant: the entries before this one are marked. Assumes nothing.
use Rattle.std.proofs.Common.{◌≡◌}
use Rattle.staircase.proofs.Marks.{marks}
use Rattle.staircase.proofs.marked.Given as goal

abbrev pub invariant-loop-trial : goal.invariant-loop-trial
invariant-loop-trial l = l.marks ≡ marks l.lapses l.trial-index
