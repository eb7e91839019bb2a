-- docs/REFERENCE.md, 'Rounding': a divisor that is doubled, on the way to the remainder. Definitions only.
use Rattle.std.specs.Prelude.{ℕ, ◌*◌, ◌/◌, ◌^◌, false, T, Float}
use Rattle.std.specs.Float.{binary64}
use Rattle.std.specs.Float.Ieee.{low, fits}
use Rattle.std.specs.Float.Ieee.Exact.{HasValue}
use Rattle.std.specs.Float.Ieee.Positive.{num, den}

-- how many of f64's smallest values a value above zero is
abbrev pub count : Float → ℕ
count x = num x * 2 ^ low binary64 / den x

-- d is b, doubled some times, and nothing is lost
pub record IsDoubled (b d : Float) : Type 0 where
  pub times : ℕ
  pub fits : T (fits binary64 d)
  pub value : HasValue d false (count b * 2 ^ times) (2 ^ low binary64)
