-- Bounds of a root, over a common denominator m, multiplied on; and the whole number that two bounds leave. Assumes nothing.
use mathlib.Core.Path.{◌≡◌, sym, ap, ◌∙◌}
use mathlib.Core.Logic.{◌≢◌}
use Prim.Native.Nat.{ℕ, zero, ◌+◌, ◌*◌, ◌/◌, ◌^◌, ◌≤◌, ◌<◌}
use native.Mathlib.Nat.{le_trans, le_of_eq, le_of_lt, lt_of_lt_of_le, lt_of_le_of_lt, le_of_mul-le-mul_right, lt_of_mul-lt-mul_right, div-mul-le_self, lt-div-mul-add, mul-le-mul, mul_assoc, mul-mul-mul_comm, one-le-pow, pow-le-pow_left, pow-lt-pow_left}
use native.Mathlib.Omega.{arith}
use Rattle.lists.specs.Powers.{mul-pow}

-- x over y rounded down, and one more
over : (x : ℕ) {y : ℕ} → zero < y → x < (x / y + 1) * y
over x {y} h = let l = lt-div-mul-add {a = x} h in omega arith

module _ (n m : ℕ) (some : zero < m) where
  -- a * m^n times b * m^n is a * b * m^n times m^n
  columns : (a b : ℕ) → a * m ^ n * (b * m ^ n) ≡ a * b * m ^ n * m ^ n
  columns a b = mul-mul-mul_comm a (m ^ n) b (m ^ n) ∙ sym (mul_assoc (a * b) (m ^ n) (m ^ n))

  pub below_next : (x l a b : ℕ) → x ^ n ≤ a * m ^ n → l ^ n ≤ b * m ^ n → (x * l / m) ^ n ≤ a * b * m ^ n
  below_next x l a b h k =
      le_of_mul-le-mul_right
      (le_trans (le_of_eq (sym (mul-pow (x * l / m) m n)))
      (le_trans (pow-le-pow_left (div-mul-le_self (x * l) m) n)
      (le_trans (le_of_eq (mul-pow x l n)) (le_trans (mul-le-mul h k) (le_of_eq (columns a b))))))
      (one-le-pow n m some)

  pub above_next : (y l a b : ℕ) → a * m ^ n ≤ y ^ n → b * m ^ n ≤ l ^ n → a * b * m ^ n ≤ (y * l / m + 1) ^ n
  above_next y l a b h k =
      le_of_mul-le-mul_right
      (le_trans (le_of_eq (sym (columns a b)))
      (le_trans (mul-le-mul h k)
      (le_trans (le_of_eq (sym (mul-pow y l n)))
      (le_trans (pow-le-pow_left (le_of_lt (over (y * l) some)) n) (le_of_eq (mul-pow (y * l / m + 1) m n))))))
      (one-le-pow n m some)

-- bounds over r * s that agree over r
module _ (n r s : ℕ) (some : zero < s) (x y a : ℕ) where
  scale : a * (r * s) ^ n ≡ a * r ^ n * s ^ n
  scale = ap (λ (z : ℕ). a * z) (mul-pow r s n) ∙ sym (mul_assoc a (r ^ n) (s ^ n))

  pub left_low : x ^ n ≤ a * (r * s) ^ n → (x / s) ^ n ≤ a * r ^ n
  left_low h =
      le_of_mul-le-mul_right
      (le_trans (le_of_eq (sym (mul-pow (x / s) s n))) (le_trans (pow-le-pow_left (div-mul-le_self x s) n) (le_trans h (le_of_eq scale))))
      (one-le-pow n s some)

  pub left_high : n ≢ zero → a * (r * s) ^ n ≤ y ^ n → a * r ^ n < (y / s + 1) ^ n
  left_high p h =
      lt_of_mul-lt-mul_right (s ^ n)
      (lt_of_le_of_lt (le_of_eq (sym scale)) (lt_of_le_of_lt h (lt_of_lt_of_le (pow-lt-pow_left (over y some) p) (le_of_eq (mul-pow (y / s + 1) s n)))))
