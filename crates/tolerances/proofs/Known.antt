-- The making of tolerances on known numbers, computed. Assumes nothing.
use mathlib.Core.Path.{refl}
use lib.Ieee.{lt, le, eq, sub, mul, neg, sum, round, of_bits}
use Rattle.rounding.specs.Rounding.{magnitude}
use Rattle.rounding.specs.Near.{larger, near, near_zero, float_eq}
use Rattle.tolerances.specs.Tolerances.{made, bad_tolerance}
use Rattle.tolerances.specs.Known.{KnownTolerances}

pub known : KnownTolerances
unfolding made bad_tolerance larger near near_zero float_eq magnitude lt le eq sub mul neg sum round of_bits
known = record {
  by_default = refl;
  by_zeros = refl;
  some_zeros = refl;
  ones = refl;
  near_above = refl;
  near_below = refl;
  near_nan = refl;
  near_infinite = refl;
  zero_above = refl;
  zero_below = refl;
  zero_nan = refl;
  zero_infinite = refl;
  relabel_above = refl;
  relabel_below = refl;
  relabel_nan = refl;
  relabel_infinite = refl;
  not_at = refl;
  just_above = refl;
  equal = refl;
  not_zero_at = refl;
  zero_just_above = refl;
  never_zero = refl;
  same_at = refl;
  other_below = refl;
  same_rate = refl;
}
