-- docs/REFERENCE.md, 'Rounding': what floor, ceil, round half away from zero, truncation and the Euclidean remainder are, in plain numbers.
-- The claims hold for a format f as a parameter, f32 or f64, and for each value of it.
-- `HasValue x s a c` (lib.Ieee.Exact) says that x is the fraction a / c, negative where s is true; `HasValue x true 0 1` says that x is -0.
-- Floor, ceil and round half away are IEEE 754's roundToIntegralTowardNegative, TowardPositive and TiesToAway.
use Rattle.std.specs.Prelude.{◌≡◌, ℕ, ◌+◌, ◌-◌, ◌*◌, ◌%◌, ◌^◌, ◌<◌, ◌≤◌, Bool, true, false, not, T, pos, from_bits}
use Rattle.std.specs.Float.{nan, inf, fin, binary32, binary64}
use lib.Ieee.{Float, Format, low, round, lt, le, fits}
use Rattle.std.specs.Float.Ieee.Exact.{HasValue}
use Rattle.rounding.specs.Known.{over, minus_over, whole, minus_whole}
use Rattle.rounding.specs.Rounding.{floor, ceil, round_away, truncate, magnitude, rem_euclid}

-- ---- a whole number n beside a fraction a / c
-- the greatest one that is not above it: n ≤ a / c < n + 1
abbrev pub Under : ℕ → ℕ → ℕ → Type 0
Under n a c = (n * c ≤ a) × (a < n * c + c)

-- the least one that is not below it: n - 1 < a / c ≤ n
abbrev pub Above : ℕ → ℕ → ℕ → Type 0
Above n a c = (a ≤ n * c) × (n * c < a + c)

-- the nearest one, a half going up: n - 1/2 ≤ a / c < n + 1/2
abbrev pub Nearest : ℕ → ℕ → ℕ → Type 0
Nearest n a c = (2 * (n * c) ≤ 2 * a + c) × (2 * a < 2 * (n * c) + c)

-- x is a whole number, exactly: of the sign s, and of a size that P holds of
pub record IsWhole (x : Float) (s : Bool) (P : ℕ → Type 0) : Type 0 where
  pub size : ℕ
  pub value : HasValue x s size 1
  pub is : P size

-- ---- the claims
-- The result has x's sign, also where it is zero: floor of -0 is -0, ceil of -0.5 is -0, and -0.25 rounds to -0.
pub record WholeLaws (f : Format) : Type 0 where
  -- floor is the greatest whole number that is not above x. Below zero that is -n, for the least n that is not below -x
  pub floor_plus : (x : Float) (a c : ℕ) → 0 < c → T (fits f x) → HasValue x false a c → IsWhole (floor f x) false (λ n. Under n a c)
  pub floor_minus : (x : Float) (a c : ℕ) → 0 < c → T (fits f x) → HasValue x true a c → IsWhole (floor f x) true (λ n. Above n a c)
  -- ceil is the least whole number that is not below x
  pub ceil_plus : (x : Float) (a c : ℕ) → 0 < c → T (fits f x) → HasValue x false a c → IsWhole (ceil f x) false (λ n. Above n a c)
  pub ceil_minus : (x : Float) (a c : ℕ) → 0 < c → T (fits f x) → HasValue x true a c → IsWhole (ceil f x) true (λ n. Under n a c)
  -- round half away is the whole number nearest to x; at a half the one farther from zero
  pub away : (x : Float) (s : Bool) (a c : ℕ) → 0 < c → T (fits f x) → HasValue x s a c → IsWhole (round_away f x) s (λ n. Nearest n a c)
  -- each is a value of the format
  pub floor_fits : (x : Float) → T (fits f (floor f x))
  pub ceil_fits : (x : Float) → T (fits f (ceil f x))
  pub away_fits : (x : Float) → T (fits f (round_away f x))
  -- an infinity and the NaN give themselves
  pub of_infinity : (s : Bool) → (floor f (inf s) ≡ inf s) × (ceil f (inf s) ≡ inf s) × (round_away f (inf s) ≡ inf s)
  pub of_nan : (floor f nan ≡ nan) × (ceil f nan ≡ nan) × (round_away f nan ≡ nan)

-- truncation, as a number of 64 bits, of a value of any format
pub record TruncateLaws : Type 0 where
  -- without the fraction, below 2 ^ 64; from there on 2 ^ 64 - 1
  pub plus : (x : Float) (a c : ℕ) → 0 < c → HasValue x false a c → a < 2 ^ 64 * c → Under (truncate x) a c
  pub past : (x : Float) (a c : ℕ) → 0 < c → HasValue x false a c → 2 ^ 64 * c ≤ a → truncate x ≡ 2 ^ 64 - 1
  -- 0 of a negative value, an infinity too, and of the NaN
  pub minus : (x : Float) (a c : ℕ) → HasValue x true a c → truncate x ≡ 0
  pub of_infinity : (truncate (inf false) ≡ 2 ^ 64 - 1) × (truncate (inf true) ≡ 0)
  pub of_nan : truncate nan ≡ 0

-- x is a units of the format, with the sign s, and y is b units, not zero. A unit is the format's smallest value, 2 ^ -low f.
abbrev pub InUnits : Format → Float → Float → Bool → Bool → ℕ → ℕ → Type 0
InUnits f x y s t a b = T (fits f x) × T (fits f y) × HasValue x s a (2 ^ low f) × HasValue y t b (2 ^ low f) × (0 < b)

-- the remainder that is not negative. Truncating division of a by b leaves a % b
pub record EuclidLaws (f : Format) : Type 0 where
  -- of a dividend that is not negative, that is it, exactly
  pub plus : (x y : Float) (t : Bool) (a b : ℕ) → InUnits f x y false t a b → HasValue (rem_euclid f x y) false (a % b) (2 ^ low f)
  -- of a negative one it is -0 where nothing is left, and else what is missing to the divisor's size, rounded once
  pub minus_none : (x y : Float) (t : Bool) (a b : ℕ) → InUnits f x y true t a b → a % b ≡ 0 → HasValue (rem_euclid f x y) true 0 1
  pub minus_some : (x y : Float) (t : Bool) (a b : ℕ) → InUnits f x y true t a b → 0 < a % b
      → rem_euclid f x y ≡ round f false (b - a % b) (2 ^ low f)
  -- so it is never below zero, nor above the divisor's size, which it can be equal to (`KnownWholes`)
  pub not_below : (x y : Float) (s t : Bool) (a b : ℕ) → InUnits f x y s t a b → T (not (lt (rem_euclid f x y) (from_bits f 0)))
  pub at_most : (x y : Float) (s t : Bool) (a b : ℕ) → InUnits f x y s t a b → T (le (rem_euclid f x y) (magnitude y))
  -- the NaN where the dividend is an infinity, the divisor zero, or one of them the NaN
  pub of_infinity : (s : Bool) (y : Float) → rem_euclid f (inf s) y ≡ nan
  pub by_zero : (x y : Float) (t : Bool) → HasValue y t 0 1 → rem_euclid f x y ≡ nan
  pub of_nan : (y : Float) → rem_euclid f nan y ≡ nan
  pub by_nan : (x : Float) → rem_euclid f x nan ≡ nan
  -- by an infinity: the dividend itself, and +infinity where it is below zero
  pub by_infinity : (x : Float) (t : Bool) (a c : ℕ) → 0 < c → HasValue x false a c → rem_euclid f x (inf t) ≡ x
  pub zero_by_infinity : (x : Float) (t : Bool) → HasValue x true 0 1 → rem_euclid f x (inf t) ≡ x
  pub minus_by_infinity : (x : Float) (t : Bool) (a c : ℕ) → 0 < c → HasValue x true a c → 0 < a → rem_euclid f x (inf t) ≡ inf false

-- ---- computed: values of both signs, halves, zeros, the largest values that have a fraction, and values past them
unfoldable pub KnownWholes : Type 0
KnownWholes =
    -- floor: 3.75, 0.75, -2.25, -0, 2 ^ 52 - 1/2, -(2 ^ 52 - 3/2), 2 ^ 1023; and as f32 2 ^ 23 - 1/2
    (floor binary64 (over 15 2) ≡ whole 3)
    × (floor binary64 (over 3 2) ≡ whole 0)
    × (floor binary64 (minus_over 9 2) ≡ minus_whole 3)
    × (floor binary64 (minus_whole 0) ≡ minus_whole 0)
    × (floor binary64 (over (2 ^ 53 - 1) 1) ≡ whole (2 ^ 52 - 1))
    × (floor binary64 (minus_over (2 ^ 53 - 3) 1) ≡ minus_whole (2 ^ 52 - 1))
    × (floor binary64 (fin false 1 (pos 1023)) ≡ fin false 1 (pos 1023))
    × (floor binary32 (over (2 ^ 24 - 1) 1) ≡ whole (2 ^ 23 - 1))
    -- ceil: 2.25, -3.75, -0.5, 0, 2 ^ 52 - 3/2, -(2 ^ 52 - 1/2)
    × (ceil binary64 (over 9 2) ≡ whole 3)
    × (ceil binary64 (minus_over 15 2) ≡ minus_whole 3)
    × (ceil binary64 (minus_over 1 1) ≡ minus_whole 0)
    × (ceil binary64 (whole 0) ≡ whole 0)
    × (ceil binary64 (over (2 ^ 53 - 3) 1) ≡ whole (2 ^ 52 - 1))
    × (ceil binary64 (minus_over (2 ^ 53 - 1) 1) ≡ minus_whole (2 ^ 52 - 1))
    -- round half away: 2.75, 3.25, -0.25, -0.5, 2 ^ 52 - 3/2; and as f32 2 ^ 23 - 3/2
    × (round_away binary64 (over 11 2) ≡ whole 3)
    × (round_away binary64 (over 13 2) ≡ whole 3)
    × (round_away binary64 (minus_over 1 2) ≡ minus_whole 0)
    × (round_away binary64 (minus_over 1 1) ≡ minus_whole 1)
    × (round_away binary64 (over (2 ^ 53 - 3) 1) ≡ whole (2 ^ 52 - 1))
    × (round_away binary32 (over (2 ^ 24 - 3) 1) ≡ whole (2 ^ 23 - 1))
    -- truncation: 3.75, -3.75, 2 ^ 64 - 2 ^ 11, 2 ^ 64
    × (truncate (over 15 2) ≡ 3)
    × (truncate (minus_over 15 2) ≡ 0)
    × (truncate (fin false (2 ^ 53 - 1) (pos 11)) ≡ 2 ^ 64 - 2 ^ 11)
    × (truncate (fin false 1 (pos 64)) ≡ 2 ^ 64 - 1)
    -- the Euclidean remainder: 7 and -5 by 3, 7 and -5 by -3, -3 by 3; and by 1 of the value next below zero, which is 1, the divisor
    × (rem_euclid binary64 (whole 7) (whole 3) ≡ whole 1)
    × (rem_euclid binary64 (minus_whole 5) (whole 3) ≡ whole 1)
    × (rem_euclid binary64 (whole 7) (minus_whole 3) ≡ whole 1)
    × (rem_euclid binary64 (minus_whole 5) (minus_whole 3) ≡ whole 1)
    × (rem_euclid binary64 (minus_whole 3) (whole 3) ≡ minus_whole 0)
    × (rem_euclid binary64 (minus_over 1 1074) (whole 1) ≡ whole 1)
