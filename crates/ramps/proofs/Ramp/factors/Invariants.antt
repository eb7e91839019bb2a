-- `ramps::Ramp::factors` meets its contract. The invariant: the first i quotients are worked out. Assumes nothing.
use Rattle.std.proofs.Common.{◌≡◌}
use Rattle.lists.specs.Table.{filled}
use Rattle.ramps.specs.Factors.{quotient}
use Rattle.ramps.proofs.Ramp.factors.Given as goal

abbrev pub invariant-loop-i : goal.invariant-loop-i
invariant-loop-i l = l.quotients ≡ filled l.i (quotient l.self l.uncounted) l.initial.quotients
