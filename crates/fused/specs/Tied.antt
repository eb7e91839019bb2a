-- Where a * b + c lies close to a tie of two f32 values: its digits, worked out in whole numbers (docs/REFERENCE.md, 'Rounding').
-- Definitions only.
use Rattle.std.specs.Prelude.{◌≡◌, ℕ, ◌+◌, ◌-◌, ◌*◌, ◌/◌, ◌%◌, ◌^◌, ◌<◌, ◌≤◌, Bool, cond}
use Rattle.std.specs.Float.{binary64}
use Rattle.std.specs.Float.Ieee.Nearest.{closest}
use Rattle.rounding.specs.Fields.{digits, place}
use Rattle.rounding.specs.Laws.{Within}

-- e is the sum of m and c; m is taken away instead where p, and c where q
abbrev pub Total : Bool → Bool → ℕ → ℕ → ℕ → Type 0
Total p q m c e = e + (cond p m 0 + cond q c 0) ≡ cond p 0 m + cond q 0 c

-- the same of the last 64 digits
abbrev pub LowTotal : Bool → Bool → ℕ → ℕ → ℕ → Type 0
LowTotal p q m c e = (e + (cond p m 0 + cond q c 0)) % 2 ^ 64 ≡ (cond p 0 m + cond q 0 c) % 2 ^ 64

-- n is the pattern of an f64 in the f32's normal range, and not negative; the tie between the two f32 values around it
-- is at most 512 from it
pub record Beside (n : ℕ) : Type 0 where
  pub least : 898 * 2 ^ 52 ≤ n
  pub most : n < 1150 * 2 ^ 52
  pub above : 2 ^ 28 ≤ n % 2 ^ 29 + 512
  pub under : n % 2 ^ 29 ≤ 2 ^ 28 + 512

-- b, whose field is e, has no digits below its 24th, and is neither subnormal nor too large; i and j places are few enough for 64 digits
pub record Reach (b e i j : ℕ) : Type 0 where
  pub narrow : b % 2 ^ 29 ≡ 0
  pub some : 1 ≤ e
  pub few : e ≤ 1892
  pub first : i < 64
  pub second : 1 ≤ j
  pub second_few : j ≤ 50

-- the f32 pattern of the digits e, which are j more than an f64's at the place of n: rounded to an f64's, and then to an f32's
abbrev pub twice_rounded : ℕ → ℕ → ℕ → ℕ
twice_rounded n j e = (place binary64 n - 896) * 2 ^ 23 + closest (closest e (2 ^ j)) (2 ^ 29)

-- r is that pattern for every e near n whose last 64 digits are those of the sum of m and c
abbrev pub Sided : ℕ → ℕ → Bool → Bool → ℕ → ℕ → ℕ → Type 0
Sided n j p q m c r = (e : ℕ) → LowTotal p q m c e → Within (128 * 2 ^ j) e (digits binary64 n * 2 ^ j) → r ≡ twice_rounded n j e

-- a, b and c are patterns; n is that of a * b + c by the operators, without its sign; the product is taken away where p, and c where q.
-- The unit is the last digit of the product, where b has no digits below its 24th: its place is that of a and of b and 29 more.
-- c's last digit is i places above it, and n's j. r is the f32 pattern of the sum, rounded to an f64 and then to an f32
pub record Tied (a b c n : ℕ) (p q : Bool) (r : ℕ) : Type 0 where
  pub beside : Beside n
  pub i : ℕ
  pub j : ℕ
  pub narrow : digits binary64 b % 2 ^ 29 ≡ 0
  pub first : place binary64 a + place binary64 b + 29 + i ≡ place binary64 c + 1074
  pub second : place binary64 a + place binary64 b + 29 + j ≡ place binary64 n + 1074
  pub is : (e : ℕ) → Total p q (digits binary64 a * (digits binary64 b / 2 ^ 29)) (digits binary64 c * 2 ^ i) e
      → Within (128 * 2 ^ j) e (digits binary64 n * 2 ^ j) → r ≡ twice_rounded n j e
