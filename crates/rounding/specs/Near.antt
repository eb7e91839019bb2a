-- docs/REFERENCE.md, 'Near tests and tolerances': near, near zero and `float_eq`, each with its tolerance as a parameter. Definitions only.
use Rattle.std.specs.Prelude.{Bool, cond, ◌||◌, from_bits, Float}
use Rattle.std.specs.Float.{binary32, binary64}
use Rattle.std.specs.Float.Ieee.{sub, mul, lt, le, eq}
use Rattle.rounding.specs.Rounding.{magnitude}

-- 2 ^ -26, for near and near zero
abbrev pub near_tolerance : Float
near_tolerance = from_bits binary64 0x3e50_0000_0000_0000

-- 0.1 as f32, for `float_eq`
abbrev pub rate_tolerance : Float
rate_tolerance = from_bits binary32 0x3dcc_cccd

-- b where a is below it, and a otherwise: a where one of them is a NaN
unfoldable pub larger : Float → Float → Float
larger a b = cond (lt a b) b a

-- equal, or apart by less than the tolerance times the larger magnitude, the difference and the product each rounded to f64
unfoldable pub near : Float → Float → Float → Bool
near a b tolerance = eq a b || lt (magnitude (sub binary64 a b)) (mul binary64 tolerance (larger (magnitude a) (magnitude b)))

-- less than the tolerance away from zero
unfoldable pub near_zero : Float → Float → Bool
near_zero a tolerance = lt (magnitude a) tolerance

-- apart by at most the tolerance, the difference rounded to f32
unfoldable pub float_eq : Float → Float → Float → Bool
float_eq a b tolerance = le (magnitude (sub binary32 a b)) tolerance
