-- docs/REFERENCE.md, 'Rounding': what the functions of this crate compute, over the values of IEEE 754 as the logic has them (`lib.Ieee`).
-- Definitions only; that of a * b + c, rounded once, stands in the crate `fused`.
-- `round f s a c` of `lib.Ieee` is the value of the format f nearest to a / c, a tie to the one whose last digit is even, with the sign s.
-- `fin s m e` is m * 2 ^ e, which is m * up e / down e.
use Rattle.std.specs.Prelude.{ℕ, ◌+◌, ◌-◌, ◌*◌, ◌/◌, Bool, false, cond, not, pos, ◌==◌, from_bits, to_bits, Float}
use Rattle.std.specs.Float.{nan, inf, fin, Format, binary32, binary64}
use Rattle.std.specs.Float.Ieee.{of_int, up, down, round, add, rem, lt, to_unsigned}

-- x as a value of the format f
unfoldable pub convert : Format → Float → Float
convert f nan = nan
convert f (inf s) = inf s
convert f (fin s m e) = round f s (m * up e) (down e)

-- the f32 pattern of an f64, and back: the NaN is written as 7FC00000, and every NaN pattern is read as the NaN
unfoldable pub narrow : Float → ℕ
narrow x = to_bits binary32 (convert binary32 x)

unfoldable pub widen : ℕ → Float
widen b = from_bits binary32 b

-- a whole number as an f64
abbrev pub whole : ℕ → Float
whole n = of_int binary64 (pos n)

-- ---- whole numbers. The sign is kept, so that -0.5 goes up to -0. What they are in plain numbers stands in specs/Wholes.antt.

-- a / c cut, raised to the next whole number, and to the nearest one, where a half goes up
abbrev pub cut : ℕ → ℕ → ℕ
cut a c = a / c

abbrev pub lifted : ℕ → ℕ → ℕ
lifted a c = (a + (c - 1)) / c

abbrev pub half_up : ℕ → ℕ → ℕ
half_up a c = (2 * a + c) / (2 * c)

-- the greatest whole number that is not above x
unfoldable pub floor : Format → Float → Float
floor f nan = nan
floor f (inf s) = inf s
floor f (fin s m e) = round f s (cond s (lifted (m * up e) (down e)) (cut (m * up e) (down e))) 1

-- the least whole number that is not below x
unfoldable pub ceil : Format → Float → Float
ceil f nan = nan
ceil f (inf s) = inf s
ceil f (fin s m e) = round f s (cond s (cut (m * up e) (down e)) (lifted (m * up e) (down e))) 1

-- the whole number nearest to x, a half going away from zero
unfoldable pub round_away : Format → Float → Float
round_away f nan = nan
round_away f (inf s) = inf s
round_away f (fin s m e) = round f s (half_up (m * up e) (down e)) 1

-- without the fraction, as u64: 0 for a negative value and the NaN, and 2 ^ 64 - 1 from 2 ^ 64 on
abbrev pub truncate : Float → ℕ
truncate x = to_unsigned 64 x

-- the value without its sign
unfoldable pub magnitude : Float → Float
magnitude nan = nan
magnitude (inf s) = inf false
magnitude (fin s m e) = fin false m e

-- the remainder that is not negative, as Rust's `rem_euclid`: `rem` is Rust's `%`, and the sum is rounded
unfoldable pub rem_euclid : Format → Float → Float → Float
rem_euclid f a b = cond (lt (rem f a b) (from_bits f 0)) (add f (rem f a b) (magnitude b)) (rem f a b)

-- finite, and not zero
unfoldable pub regular : Float → Bool
regular nan = false
regular (inf s) = false
regular (fin s m e) = not (m == 0)
