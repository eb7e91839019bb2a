-- The operations by any fractions that the operands equal, in any format f, and the error of one `add`, `sub`, `mul` and `div` of values that are not negative.
-- (For other signs see proofs/Signs.antt.) Assumes nothing.
use Rattle.std.proofs.Common.{◌≡◌, ℕ, ◌+◌, ◌-◌, ◌*◌, ◌^◌, ◌<◌, ◌≤◌, Bool, true, false, cond, not, T, eqb, ◌⊎◌, sym, refl, ap, ◌∙◌, subst, ap₂, inl, inr, mul-le-mul_right, mul_assoc, mul_comm, eq-or-lt_of_le, mul-pos, arith, eqb→eq, pow_pos}
use native.Mathlib.Nat.{mul-mul-mul_comm}
use lib.Ieee.{Float, nan, inf, fin, Format, prec, emax, low, unlike, up, down, round, sum, neg, add, sub, mul, div}
use lib.Ieee.Exact.{HasValue}
use lib.Ieee.Fits.{down_pos}
use lib.Ieee.Positive.{first_pos}
use lib.Ieee.Scale.{round_same, grid, round_val}
use Rattle.rounding.specs.Laws.{Within, Normal, Below, Rounded}
use Rattle.rounding.proofs.Error.{RoundedAny, round_near, round_near_any, grid_near_whole, grid_under}
use Rattle.rounding.proofs.Signs.{value_neg}
use Rattle.rounding.proofs.Sum.{sum_alike, sum_more, sum_none, sum_same, mul_sub_r}

-- ---- an operation is one rounding of a fraction, whatever the signs: x is ±a / c, y is ±b / d
pub first : (n e g a c d : ℕ) → n * c ≡ a * e → n * g * (c * d) ≡ a * d * (e * g)
first n e g a c d h = omega (arith, ap (λ (z : ℕ). z * (g * d)) h)

pub second : (n e g b c d : ℕ) → n * d ≡ b * g → n * e * (c * d) ≡ b * c * (e * g)
second n e g b c d h = omega (arith, ap (λ (z : ℕ). z * (e * c)) h)

pub add_value : (f : Format) (x y : Float) (s t : Bool) (a c b d : ℕ) → 0 < c → 0 < d → HasValue x s a c → HasValue y t b d → add f x y ≡ sum f s (a * d) t (b * c) (c * d)
unfolding add
add_value f nan y s t a c b d C D h k = absurd h
add_value f (inf u) y s t a c b d C D h k = absurd h
add_value f (fin u m e) nan s t a c b d C D h k = absurd k
add_value f (fin u m e) (inf v) s t a c b d C D h k = absurd k
add_value f (fin u m e) (fin v n g) s t a c b d C D h k =
    sum_same f u v (m * up e * down g) (n * up g * down e) (down e * down g) (a * d) (b * c) (c * d) (mul-pos (down_pos e) (down_pos g)) (mul-pos C D)
    (first (m * up e) (down e) (down g) a c d h.1) (second (n * up g) (down e) (down g) b c d k.1)
    ∙ ap₂ (λ (p q : Bool). sum f p (a * d) q (b * c) (c * d)) h.0 k.0

pub sub_value : (f : Format) (x y : Float) (s t : Bool) (a c b d : ℕ) → 0 < c → 0 < d → HasValue x s a c → HasValue y t b d → sub f x y ≡ sum f s (a * d) (not t) (b * c) (c * d)
unfolding sub
sub_value f x y s t a c b d C D h k = add_value f x (neg y) s (not t) a c b d C D h (value_neg y t b d k)

pub mul_value : (f : Format) (x y : Float) (s t : Bool) (a c b d : ℕ) → 0 < c → 0 < d → HasValue x s a c → HasValue y t b d → mul f x y ≡ round f (unlike s t) (a * b) (c * d)
unfolding mul
mul_value f nan y s t a c b d C D h k = absurd h
mul_value f (inf u) y s t a c b d C D h k = absurd h
mul_value f (fin u m e) nan s t a c b d C D h k = absurd k
mul_value f (fin u m e) (inf v) s t a c b d C D h k = absurd k
mul_value f (fin u m e) (fin v n g) s t a c b d C D h k =
    round_same f (unlike u v) (m * up e * (n * up g)) (down e * down g) (a * b) (c * d) (mul-pos (down_pos e) (down_pos g)) (mul-pos C D)
    (mul-mul-mul_comm (m * up e) (n * up g) c d ∙ ap₂ (λ (p q : ℕ). p * q) h.1 k.1 ∙ mul-mul-mul_comm a (down e) b (down g))
    ∙ ap₂ (λ (p q : Bool). round f (unlike p q) (a * b) (c * d)) h.0 k.0

pub not-zero : (n : ℕ) → 0 < n → T (eqb n 0) → ⊥
not-zero n h t = omega (arith, eqb→eq)

pub div_value : (f : Format) (x y : Float) (s t : Bool) (a c b d : ℕ) → 0 < c → 0 < b → HasValue x s a c → HasValue y t b d → div f x y ≡ round f (unlike s t) (a * d) (b * c)
unfolding div
div_value f nan y s t a c b d C B h k = absurd h
div_value f (inf u) y s t a c b d C B h k = absurd h
div_value f (fin u m e) nan s t a c b d C B h k = absurd k
div_value f (fin u m e) (inf v) s t a c b d C B h k = absurd k
div_value f (fin u m e) (fin v n g) s t a c b d C B h k =
    let N : 0 < n * up g = first_pos (n * up g) d (subst (λ (z : ℕ). 0 < z) (sym k.1) (mul-pos B (down_pos g))) in
    go (eqb n 0) (not-zero n (first_pos n (up g) N))
    ∙ round_same f (unlike u v) (m * up e * down g) (n * up g * down e) (a * d) (b * c) (mul-pos N (down_pos e)) (mul-pos B C) (crossed (m * up e) (down e) (n * up g) (down g) a c b d h.1 k.1)
    ∙ ap₂ (λ (p q : Bool). round f (unlike p q) (a * d) (b * c)) h.0 k.0
  where
    go : (z : Bool) → (T z → ⊥)
        → cond z (cond (eqb m 0) nan (inf (unlike u v))) (round f (unlike u v) (m * up e * down g) (n * up g * down e)) ≡ round f (unlike u v) (m * up e * down g) (n * up g * down e)
    go true z = absurd (z tt)
    go false z = refl

    crossed : (x p y q a c b d : ℕ) → x * c ≡ a * p → y * d ≡ b * q → x * q * (b * c) ≡ a * d * (y * p)
    crossed x p y q a c b d h k = omega (arith, ap (λ (z : ℕ). z * (q * b)) h, ap (λ (z : ℕ). z * (a * p)) k)

-- ---- values that are not negative
-- a difference that is not negative
pub sum_least : (f : Format) (a b c : ℕ) → b ≤ a → sum f false a true b c ≡ round f false (a - b) c
sum_least f a b c l = go (eq-or-lt_of_le l)
  where
    none : a ≡ b → 0 ≡ a - b
    none e = omega arith

    go : (b ≡ a) ⊎ (b < a) → sum f false a true b c ≡ round f false (a - b) c
    go (inl e) = sum_none f false true a b c refl (sym e) ∙ ap (λ (z : ℕ). round f false z c) (none (sym e))
    go (inr g) = sum_more f false true a b c refl g

module _ (f : Format) (x y : Float) (a c b d : ℕ) (C : 0 < c) (D : 0 < d) (h : HasValue x false a c) (k : HasValue y false b d) where
  pub add_at : add f x y ≡ round f false (a * d + b * c) (c * d)
  add_at = add_value f x y false false a c b d C D h k ∙ sum_alike f false (a * d) (b * c) (c * d)

  pub sub_at : b * c ≤ a * d → sub f x y ≡ round f false (a * d - b * c) (c * d)
  sub_at l = sub_value f x y false false a c b d C D h k ∙ sum_least f (a * d) (b * c) (c * d) l

  pub mul_at : mul f x y ≡ round f false (a * b) (c * d)
  mul_at = mul_value f x y false false a c b d C D h k

  pub div_at : 0 < b → div f x y ≡ round f false (a * d) (b * c)
  div_at B = div_value f x y false false a c b d C B h k

  -- ---- the error, where the exact result is in the normal range and below 2 ^ emax
  pub add_near : Normal f (a * d + b * c) (c * d) → Below f (a * d + b * c) (c * d) → Rounded f (add f x y) (a * d + b * c) (c * d)
  add_near N l = rw add_at (round_near f (a * d + b * c) (c * d) (mul-pos C D) N l)

  pub sub_near : b * c ≤ a * d → Normal f (a * d - b * c) (c * d) → Below f (a * d - b * c) (c * d) → Rounded f (sub f x y) (a * d - b * c) (c * d)
  sub_near l N t = rw (sub_at l) (round_near f (a * d - b * c) (c * d) (mul-pos C D) N t)

  pub mul_near : Normal f (a * b) (c * d) → Below f (a * b) (c * d) → Rounded f (mul f x y) (a * b) (c * d)
  mul_near N l = rw mul_at (round_near f (a * b) (c * d) (mul-pos C D) N l)

  pub div_near : 0 < b → Normal f (a * d) (b * c) → Below f (a * d) (b * c) → Rounded f (div f x y) (a * d) (b * c)
  div_near B N l = rw (div_at B) (round_near f (a * d) (b * c) (mul-pos B C) N l)

  -- ---- the error in any range
  pub mul_near_any : Below f (a * b) (c * d) → RoundedAny f (mul f x y) (a * b) (c * d)
  mul_near_any l = rw mul_at (round_near_any f (a * b) (c * d) (mul-pos C D) l)

  pub div_near_any : 0 < b → Below f (a * d) (b * c) → RoundedAny f (div f x y) (a * d) (b * c)
  div_near_any B l = rw (div_at B) (round_near_any f (a * d) (b * c) (mul-pos B C) l)

pub mul_swap : (f : Format) (x y : Float) (a c b d : ℕ) → 0 < c → 0 < d → HasValue x false a c → HasValue y false b d → mul f x y ≡ mul f y x
mul_swap f x y a c b d C D h k = mul_at f x y a c b d C D h k ∙ ap₂ (λ (m n : ℕ). round f false m n) (mul_comm a b) (mul_comm c d) ∙ sym (mul_at f y x b d a c D C k h)

-- ---- Sum and difference in units. They are whole numbers of units, so the error is relative also where they are subnormal, and nothing is asked but that they do not overflow.
pub record Summed (f : Format) (x : Float) (q : ℕ) : Type 0 where
  pub units : ℕ
  pub value : HasValue x false units (2 ^ low f)
  pub near : Within q (2 ^ prec f * units) (2 ^ prec f * q)

summed : (f : Format) (q : ℕ) → q < 2 ^ emax f * 2 ^ low f → Summed f (round f false q (2 ^ low f)) q
summed f q l = record { units = grid f q (2 ^ low f); value = round_val f q (2 ^ low f) (grid_under f q (2 ^ low f) (pow_pos (low f)) l); near = grid_near_whole f q }

module _ (f : Format) (x y : Float) (a b : ℕ) (h : HasValue x false a (2 ^ low f)) (k : HasValue y false b (2 ^ low f)) where
  u : ℕ
  u = 2 ^ low f

  U : 0 < u
  unfolding u
  U = pow_pos (low f)

  pub add_is : add f x y ≡ round f false (a + b) (2 ^ low f)
  unfolding u
  add_is = add_at f x y a u b u U U h k ∙ round_same f false (a * u + b * u) (u * u) (a + b) u (mul-pos U U) U (shared a b u)
    where
      shared : (i j v : ℕ) → (i * v + j * v) * v ≡ (i + j) * (v * v)
      shared i j v = omega arith

  pub sub_is : b ≤ a → sub f x y ≡ round f false (a - b) (2 ^ low f)
  unfolding u
  sub_is l = sub_at f x y a u b u U U h k (mul-le-mul_right u l) ∙ round_same f false (a * u - b * u) (u * u) (a - b) u (mul-pos U U) U (shared a b u)
    where
      shared : (i j v : ℕ) → (i * v - j * v) * v ≡ (i - j) * (v * v)
      shared i j v = ap (λ (z : ℕ). z * v) (sym (mul_sub_r i j v)) ∙ mul_assoc (i - j) v v

  pub add_units : a + b < 2 ^ emax f * 2 ^ low f → Summed f (add f x y) (a + b)
  add_units l = rw add_is (summed f (a + b) l)

  pub sub_units : b ≤ a → a - b < 2 ^ emax f * 2 ^ low f → Summed f (sub f x y) (a - b)
  sub_units m l = rw (sub_is m) (summed f (a - b) l)
