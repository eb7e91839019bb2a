-- `staircase::staircase` meets its contract. The invariant: the stair is the one before trial k, and the first k places are filled.
-- Assumes nothing.
use Rattle.std.proofs.Common.{◌≡◌}
use Rattle.lists.specs.Table.{filled}
use Rattle.staircase.specs.Staircase.{blank, stair_at, level, reply}
use Rattle.staircase.proofs.staircase.Given as goal

abbrev pub invariant-loop-k : goal.invariant-loop-k
invariant-loop-k l =
    (l.stair ≡ stair_at l.fn.start l.threshold l.step l.lapses l.k)
    × (l.track.levels ≡ filled l.k (level l.fn.start l.threshold l.step l.lapses) blank.levels)
    × (l.track.heard ≡ filled l.k (reply l.fn.start l.threshold l.step l.lapses) blank.heard)
