-- `staircase::reversing::reversals` meets its contract. The invariant: what is found, and what is ahead, are the reversals. Assumes nothing.
use Rattle.std.proofs.Common.{◌≡◌, ◌≤◌, ◌+◌, drop}
use Rattle.staircase.specs.Reversals.{reversals}
use Rattle.staircase.proofs.Turning.{ahead}
use Rattle.staircase.proofs.reversing.reversals.Given as goal

abbrev pub invariant-loop-next : goal.invariant-loop-next
invariant-loop-next l = (l.found ≤ l.next-index) × (l.found + ahead l.last l.level (drop l.next-index l.levels) ≡ reversals l.levels)
