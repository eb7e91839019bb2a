-- Which whole number a value that is not negative is brought to, in any format f: by `to_unsigned`, by `floor` and by `round_away`. Assumes nothing.
use Rattle.std.proofs.Common.{◌≡◌, ℕ, ◌+◌, ◌-◌, ◌*◌, ◌/◌, ◌^◌, ◌<◌, ◌≤◌, min, true, false, ap, ◌∙◌, true≢false, lt_of_le_of_lt, zero-lt-suc, div-one, arith, lit<}
use native.Mathlib.Nat.{div-eq_of_lt-le}
use lib.Ieee.{Float, nan, inf, fin, Format, binary32, binary64, prec, up, down, round, to_unsigned}
use lib.Ieee.Back.{round_whole}
use lib.Ieee.Exact.{HasValue}
use lib.Ieee.Fits.{down_pos}
use lib.Ieee.Nearest.{div_same}
use Rattle.rounding.specs.Rounding.{floor, round_away}
use Rattle.rounding.proofs.Wholes.{floor_value, away_value}

-- toward zero
pub unsigned_value : (w : ℕ) (x : Float) (a c : ℕ) → 0 < c → HasValue x false a c → to_unsigned w x ≡ min (a / c) (2 ^ w - 1)
unfolding to_unsigned
unsigned_value w nan a c C h = absurd h
unsigned_value w (inf s) a c C h = absurd h
unsigned_value w (fin true m e) a c C h = absurd (true≢false h.0)
unsigned_value w (fin false m e) a c C h = ap (λ (z : ℕ). min z (2 ^ w - 1)) (div_same (m * up e) (down e) a c (down_pos e) C h.1)

-- a whole number of the format, as u64
small : (f : Format) (n : ℕ) → n ≤ 2 ^ prec f → n < 2 ^ 64
small binary32 n h = lt_of_le_of_lt h (lit< tt)
small binary64 n h = lt_of_le_of_lt h (lit< tt)

kept : (n m : ℕ) → n < m → min n (m - 1) ≡ n
kept n m h = omega arith

pub whole_count : (f : Format) (n : ℕ) → n ≤ 2 ^ prec f → to_unsigned 64 (round f false n 1) ≡ n
whole_count f n h =
    unsigned_value 64 (round f false n 1) n 1 (zero-lt-suc 0) (round_whole f false n h)
    ∙ ap (λ (z : ℕ). min z (2 ^ 64 - 1)) (div-one n)
    ∙ kept n (2 ^ 64) (small f n h)

module _ (f : Format) (x : Float) (a c n : ℕ) (C : 0 < c) (h : HasValue x false a c) where
  -- n ≤ x < n + 1
  pub floor_is : n * c ≤ a → a < (n + 1) * c → floor f x ≡ round f false n 1
  floor_is l m = floor_value f x false a c C h ∙ ap (λ (z : ℕ). round f false z 1) (div-eq_of_lt-le c l m)

  pub floor_count : n ≤ 2 ^ prec f → n * c ≤ a → a < (n + 1) * c → to_unsigned 64 (floor f x) ≡ n
  floor_count p l m = ap (to_unsigned 64) (floor_is l m) ∙ whole_count f n p

  -- n - 1/2 ≤ x < n + 1/2
  pub away_is : 2 * (n * c) ≤ 2 * a + c → 2 * a < 2 * (n * c) + c → round_away f x ≡ round f false n 1
  away_is l m = away_value f x false a c C h ∙ ap (λ (z : ℕ). round f false z 1) (div-eq_of_lt-le (2 * c) (omega arith) (omega arith))

  pub away_count : n ≤ 2 ^ prec f → 2 * (n * c) ≤ 2 * a + c → 2 * a < 2 * (n * c) + c → to_unsigned 64 (round_away f x) ≡ n
  away_count p l m = ap (to_unsigned 64) (away_is l m) ∙ whole_count f n p
