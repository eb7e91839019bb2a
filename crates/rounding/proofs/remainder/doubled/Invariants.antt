-- How many units the dividend is above the divisor, which doubles.
use Rattle.std.proofs.Common.{◌-◌, ◌≤◌}
use Rattle.rounding.specs.Doubled.{count, IsDoubled}
use Rattle.rounding.proofs.remainder.doubled.Given as goal

abbrev pub invariant-loop-divisor : goal.invariant-loop-divisor
invariant-loop-divisor l = IsDoubled l.b l.divisor × (count l.divisor ≤ count l.a)

abbrev pub decreases-loop-divisor : goal.decreases-loop-divisor
decreases-loop-divisor l = count l.a - count l.divisor
