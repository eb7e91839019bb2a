-- The units of the divisor, which halves.
use Rattle.rounding.specs.Doubled.{count}
use Rattle.rounding.proofs.Doubled.{Left}
use Rattle.rounding.proofs.remainder.reduced.Given as goal

abbrev pub invariant-loop-divisor : goal.invariant-loop-divisor
invariant-loop-divisor l = Left l.a l.b l.divisor l.rest

abbrev pub decreases-loop-divisor : goal.decreases-loop-divisor
decreases-loop-divisor l = count l.divisor
