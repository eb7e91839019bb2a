-- docs/REFERENCE.md, 'Rounding': the laws of rounding, for a format f as a parameter, f32 or f64.
-- A unit is the format's smallest value, 2 ^ -low f.
-- `HasValue x s a c` (lib.Ieee.Exact) says that x is the fraction a / c, negative where s is true.
use Rattle.std.specs.Prelude.{◌≡◌, ℕ, ◌+◌, ◌-◌, ◌*◌, ◌%◌, ◌^◌, ◌<◌, ◌≤◌, Bool, false, T, pos}
use lib.Ieee.{Float, Format, prec, emax, low, round, add, sub, mul, div, rem, le, fits, of_int}
use Rattle.std.specs.Float.Ieee.Exact.{HasValue}
use Rattle.std.specs.Float.Ieee.Scale.{overflow}
use Rattle.rounding.specs.Wholes.{WholeLaws, TruncateLaws, EuclidLaws}

-- |x - y| ≤ t
abbrev pub Within : ℕ → ℕ → ℕ → Type 0
Within t x y = (x ≤ y + t) × (y ≤ x + t)

-- v units against n / c units: the relative error is 2 ^ -prec at most, |v * c - n| ≤ n / 2 ^ prec
abbrev pub Relative : Format → ℕ → ℕ → ℕ → Type 0
Relative f v n c = Within n (2 ^ prec f * (v * c)) (2 ^ prec f * n)

-- a / c is in the normal range: it is 2 ^ (prec - 1) units at least
abbrev pub Normal : Format → ℕ → ℕ → Type 0
Normal f a c = 2 ^ (prec f - 1) * c ≤ a * 2 ^ low f

-- a / c is below 2 ^ emax, so that it does not overflow
abbrev pub Below : Format → ℕ → ℕ → Type 0
Below f a c = a < 2 ^ emax f * c

-- x is a / c but for the relative error
pub record Rounded (f : Format) (x : Float) (a c : ℕ) : Type 0 where
  pub units : ℕ
  pub value : HasValue x false units (2 ^ low f)
  pub near : Relative f units (a * 2 ^ low f) c

-- x is a whole number of units, with the sign s
pub record Units (f : Format) (x : Float) (s : Bool) : Type 0 where
  pub units : ℕ
  pub value : HasValue x s units (2 ^ low f)

-- ---- the claims
-- x is a / c and y is b / d, neither negative
abbrev Are : Float → Float → ℕ → ℕ → ℕ → ℕ → Type 0
Are x y a c b d = (0 < c) × (0 < d) × HasValue x false a c × HasValue y false b d

pub record RoundingLaws : Type 0 where
  -- the error of one rounding, of a sum, a difference, a product, a quotient
  pub round_error : (f : Format) (a c : ℕ) → 0 < c → Normal f a c → Below f a c → Rounded f (round f false a c) a c
  pub add_error : (f : Format) (x y : Float) (a c b d : ℕ) → Are x y a c b d
      → Normal f (a * d + b * c) (c * d) → Below f (a * d + b * c) (c * d) → Rounded f (add f x y) (a * d + b * c) (c * d)
  pub sub_error : (f : Format) (x y : Float) (a c b d : ℕ) → Are x y a c b d → b * c ≤ a * d
      → Normal f (a * d - b * c) (c * d) → Below f (a * d - b * c) (c * d) → Rounded f (sub f x y) (a * d - b * c) (c * d)
  pub mul_error : (f : Format) (x y : Float) (a c b d : ℕ) → Are x y a c b d → Normal f (a * b) (c * d) → Below f (a * b) (c * d)
      → Rounded f (mul f x y) (a * b) (c * d)
  pub div_error : (f : Format) (x y : Float) (a c b d : ℕ) → Are x y a c b d → 0 < b → Normal f (a * d) (b * c) → Below f (a * d) (b * c)
      → Rounded f (div f x y) (a * d) (b * c)
  -- rounding keeps the order
  pub monotone : (f : Format) (a c b d : ℕ) → 0 < c → 0 < d → a * d ≤ b * c → T (le (round f false a c) (round f false b d))
  -- a value of the format rounds to itself; whole numbers up to 2 ^ prec are such values
  pub itself : (f : Format) (x : Float) (s : Bool) (a c : ℕ) → 0 < c → T (fits f x) → HasValue x s a c → round f s a c ≡ x
  pub whole : (f : Format) (n : ℕ) → n ≤ 2 ^ prec f → HasValue (of_int f (pos n)) false n 1
  -- a finite value of the format is a whole number of units, so that the claims in units speak of each
  pub in_units : (f : Format) (x : Float) (s : Bool) (a c : ℕ) → T (fits f x) → HasValue x s a c → Units f x s
  -- a product with a power of two is exact, and so are a remainder, and the difference of values within a factor of 2 (Sterbenz)
  pub power : (f : Format) (x w : Float) (s : Bool) (a t : ℕ) → T (fits f x) → HasValue x s a (2 ^ low f) → HasValue w false (2 ^ t) 1
      → a * 2 ^ t < overflow f → HasValue (mul f x w) s (a * 2 ^ t) (2 ^ low f)
  pub remainder : (f : Format) (x y : Float) (s t : Bool) (a b : ℕ) → T (fits f x) → T (fits f y) → HasValue x s a (2 ^ low f)
      → HasValue y t b (2 ^ low f) → 0 < b → HasValue (rem f x y) s (a % b) (2 ^ low f)
  pub sterbenz : (f : Format) (x y : Float) (a b : ℕ) → T (fits f x) → T (fits f y)
      → HasValue x false a (2 ^ low f) → HasValue y false b (2 ^ low f) → b ≤ a → a ≤ 2 * b → HasValue (sub f x y) false (a - b) (2 ^ low f)
  -- floor, ceil, round half away from zero, truncation and the Euclidean remainder, in plain numbers (specs/Wholes.antt)
  pub wholes : (f : Format) → WholeLaws f
  pub truncation : TruncateLaws
  pub euclid : (f : Format) → EuclidLaws f
