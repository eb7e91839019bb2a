-- Comparisons of numbers that say the same, and comparisons by any fractions that two finite values equal. (Monotony of `round` is lib.Ieee.Order's `round_mono`.) Assumes nothing.
use Rattle.std.proofs.Common.{◌≡◌, ℕ, ◌+◌, ◌*◌, ◌<◌, ◌≤◌, Bool, true, false, not, ◌&&◌, ◌||◌, T, eqb, ltb, leb, sym, refl, ap, ◌∙◌, subst, ap₂, le_trans, le_of_eq, lt_of_lt_of_le, lt_of_le_of_lt, le_of_lt, mul-le-mul_right, add-mul, add_comm, lt_of_mul-lt-mul_right, mul-lt-mul_of_pos_right, mul-pos, zero-mul, le_of_mul-le-mul_right, arith, ltb→lt, nltb→le, le-ltb, lt-ltb, eq-eqb, ne_eqb, le-leb}
use native.Mathlib.Nat.{eq_of_mul-eq-mul_right}
use mathlib.Core.Bool.{beq}
use lib.Ieee.{Float, nan, inf, fin, up, down, below, level, neg, lt, le, eq, is_nan}
use lib.Ieee.Exact.{HasValue}
use lib.Ieee.Fits.{down_pos}
use borrow.Author.Tests.{lt-leb}
use Rattle.rounding.specs.Near.{near}
use Rattle.rounding.proofs.Operations.{first, second}
use Rattle.rounding.proofs.Sum.{Order, order, less, more, none, and-true}

-- ---- two comparisons that say the same
pub ltb_same : (a b c d : ℕ) → (a < b → c < d) → (b ≤ a → d ≤ c) → ltb a b ≡ ltb c d
ltb_same a b c d p q = go (ltb a b) (ltb→lt a b) (nltb→le a b)
  where
    go : (x : Bool) → (T x → a < b) → (T (not x) → b ≤ a) → x ≡ ltb c d
    go true u w = sym (lt-ltb c d (p (u tt)))
    go false u w = sym (le-ltb c d (q (w tt)))

-- ---- x and y in proportion to a and b
abbrev Alike : ℕ → ℕ → ℕ → ℕ → Type 0
Alike k l x a = x * k ≡ a * l

module _ (k l : ℕ) (K : 0 < k) (L : 0 < l) (x y a b : ℕ) (p : Alike k l x a) (q : Alike k l y b) where
  ltb_alike : ltb x y ≡ ltb a b
  ltb_alike =
      ltb_same x y a b
      (λ h. lt_of_mul-lt-mul_right l (lt_of_le_of_lt (le_of_eq (sym p)) (lt_of_lt_of_le (mul-lt-mul_of_pos_right h K) (le_of_eq q))))
      (λ h. le_of_mul-le-mul_right (le_trans (le_of_eq (sym q)) (le_trans (mul-le-mul_right k h) (le_of_eq p))) L)

  eqb_alike : eqb x y ≡ eqb a b
  eqb_alike = go (order x y)
    where
      other : {i j : ℕ} → i < j → i ≡ j → ⊥
      other h e = omega arith

      go : Order x y → eqb x y ≡ eqb a b
      go (less h) =
          ne_eqb x y (other h)
          ∙ sym (ne_eqb a b (other (lt_of_mul-lt-mul_right l (lt_of_le_of_lt (le_of_eq (sym p)) (lt_of_lt_of_le (mul-lt-mul_of_pos_right h K) (le_of_eq q))))))
      go (more h) =
          ne_eqb x y (λ e. other h (sym e))
          ∙ sym (ne_eqb a b (λ e. other (lt_of_mul-lt-mul_right l (lt_of_le_of_lt (le_of_eq (sym q)) (lt_of_lt_of_le (mul-lt-mul_of_pos_right h K) (le_of_eq p)))) (sym e)))
      go (none e) = eq-eqb x y e ∙ sym (eq-eqb a b (eq_of_mul-eq-mul_right l L a b (sym p ∙ ap (λ (z : ℕ). z * k) e ∙ q)))

nothing : (k l : ℕ) → Alike k l 0 0
nothing k l = zero-mul k ∙ sym (zero-mul l)

joined : (k l x y a b : ℕ) → Alike k l x a → Alike k l y b → Alike k l (x + y) (a + b)
joined k l x y a b p q = add-mul x y k ∙ ap₂ (λ (m n : ℕ). m + n) p q ∙ sym (add-mul a b l)

below_alike : (k l : ℕ) → 0 < k → 0 < l → (s t : Bool) (x y a b : ℕ) → Alike k l x a → Alike k l y b → below s x t y ≡ below s a t b
below_alike k l K L false false x y a b p q = ltb_alike k l K L x y a b p q
below_alike k l K L false true x y a b p q = refl
below_alike k l K L true false x y a b p q = ltb_alike k l K L 0 (x + y) 0 (a + b) (nothing k l) (joined k l x y a b p q)
below_alike k l K L true true x y a b p q = ltb_alike k l K L y x b a q p

-- ---- whatever the signs: x is ±a / c, y is ±b / d
pub lt_value : (x y : Float) (s t : Bool) (a c b d : ℕ) → 0 < c → 0 < d → HasValue x s a c → HasValue y t b d → lt x y ≡ below s (a * d) t (b * c)
unfolding lt
lt_value nan y s t a c b d C D h k = absurd h
lt_value (inf u) y s t a c b d C D h k = absurd h
lt_value (fin u m e) nan s t a c b d C D h k = absurd k
lt_value (fin u m e) (inf v) s t a c b d C D h k = absurd k
lt_value (fin u m e) (fin v n g) s t a c b d C D h k =
    below_alike (c * d) (down e * down g) (mul-pos C D) (mul-pos (down_pos e) (down_pos g)) u v (m * up e * down g) (n * up g * down e) (a * d) (b * c)
    (first (m * up e) (down e) (down g) a c d h.1) (second (n * up g) (down e) (down g) b c d k.1)
    ∙ ap₂ (λ (i j : Bool). below i (a * d) j (b * c)) h.0 k.0

pub eq_value : (x y : Float) (s t : Bool) (a c b d : ℕ) → 0 < c → 0 < d → HasValue x s a c → HasValue y t b d → eq x y ≡ level s (a * d) t (b * c)
unfolding eq
eq_value nan y s t a c b d C D h k = absurd h
eq_value (inf u) y s t a c b d C D h k = absurd h
eq_value (fin u m e) nan s t a c b d C D h k = absurd k
eq_value (fin u m e) (inf v) s t a c b d C D h k = absurd k
eq_value (fin u m e) (fin v n g) s t a c b d C D h k =
    let K : 0 < c * d = mul-pos C D in
    let L : 0 < down e * down g = mul-pos (down_pos e) (down_pos g) in
    let x = m * up e * down g in
    let y = n * up g * down e in
    let p : Alike (c * d) (down e * down g) x (a * d) = first (m * up e) (down e) (down g) a c d h.1 in
    let q : Alike (c * d) (down e * down g) y (b * c) = second (n * up g) (down e) (down g) b c d k.1 in
    ap₂ (λ (i j : Bool). i && (beq u v || j)) (eqb_alike (c * d) (down e * down g) K L x y (a * d) (b * c) p q)
    (eqb_alike (c * d) (down e * down g) K L x 0 (a * d) 0 p (nothing (c * d) (down e * down g)))
    ∙ ap₂ (λ (i j : Bool). level i (a * d) j (b * c)) h.0 k.0

-- the order of the negatives is the other way round
pub lt_neg : (x y : Float) → lt (neg x) (neg y) ≡ lt y x
unfolding lt neg
lt_neg nan nan = refl
lt_neg nan (inf t) = refl
lt_neg nan (fin t n g) = refl
lt_neg (inf s) nan = refl
lt_neg (inf true) (inf true) = refl
lt_neg (inf true) (inf false) = refl
lt_neg (inf false) (inf true) = refl
lt_neg (inf false) (inf false) = refl
lt_neg (inf s) (fin t n g) = refl
lt_neg (fin s m e) nan = refl
lt_neg (fin true m e) (inf true) = refl
lt_neg (fin true m e) (inf false) = refl
lt_neg (fin false m e) (inf true) = refl
lt_neg (fin false m e) (inf false) = refl
lt_neg (fin true m e) (fin true n g) = refl
lt_neg (fin true m e) (fin false n g) = refl
lt_neg (fin false m e) (fin true n g) = ap (ltb 0) (add_comm (m * up e * down g) (n * up g * down e))
lt_neg (fin false m e) (fin false n g) = refl

-- what is no NaN equals itself, and is near itself
pub eq_self : (x : Float) → T (not (is_nan x)) → eq x x ≡ true
unfolding eq is_nan
eq_self nan h = absurd h
eq_self (inf true) h = refl
eq_self (inf false) h = refl
eq_self (fin true m e) h = and-true (eqb (m * up e * down e) (m * up e * down e)) ∙ eq-eqb (m * up e * down e) (m * up e * down e) refl
eq_self (fin false m e) h = and-true (eqb (m * up e * down e) (m * up e * down e)) ∙ eq-eqb (m * up e * down e) (m * up e * down e) refl

pub near_self : (x tolerance : Float) → T (not (is_nan x)) → near x x tolerance ≡ true
unfolding near
near_self x tolerance h = simp (eq_self x h)

-- ---- values that are not negative, zero included
pub le_or : (a b : ℕ) → (ltb a b || eqb a b) ≡ leb a b
le_or a b = go (order a b)
  where
    other : b < a → a ≡ b → ⊥
    other h e = omega arith

    go : Order a b → (ltb a b || eqb a b) ≡ leb a b
    go (less h) = ap (λ (t : Bool). t || eqb a b) (lt-ltb a b h) ∙ sym (le-leb a b (le_of_lt h))
    go (more h) = ap₂ (λ (t u : Bool). t || u) (le-ltb a b (le_of_lt h)) (ne_eqb a b (other h)) ∙ sym (lt-leb a b h)
    go (none e) = ap₂ (λ (t u : Bool). t || u) (le-ltb a b (le_of_eq (sym e))) (eq-eqb a b e) ∙ sym (le-leb a b (le_of_eq e))

pub holds : {t : Bool} → t ≡ true → T t
holds e = subst T (sym e) tt

pub fails : {t : Bool} → t ≡ false → T (not t)
fails e = subst (λ (u : Bool). T (not u)) (sym e) tt

module _ (x y : Float) (a c b d : ℕ) (C : 0 < c) (D : 0 < d) (h : HasValue x false a c) (k : HasValue y false b d) where
  pub lt_at : lt x y ≡ ltb (a * d) (b * c)
  lt_at = lt_value x y false false a c b d C D h k

  pub eq_at : eq x y ≡ eqb (a * d) (b * c)
  eq_at = eq_value x y false false a c b d C D h k ∙ and-true (eqb (a * d) (b * c))

  pub le_at : le x y ≡ leb (a * d) (b * c)
  unfolding le
  le_at = ap₂ (λ (t u : Bool). t || u) lt_at eq_at ∙ le_or (a * d) (b * c)

  pub is_less : a * d < b * c → T (lt x y)
  is_less l = holds (lt_at ∙ lt-ltb (a * d) (b * c) l)

  pub is_not_less : b * c ≤ a * d → T (not (lt x y))
  is_not_less l = fails (lt_at ∙ le-ltb (a * d) (b * c) l)

  pub is_le : a * d ≤ b * c → T (le x y)
  is_le l = holds (le_at ∙ le-leb (a * d) (b * c) l)

  pub is_not_le : b * c < a * d → T (not (le x y))
  is_not_le l = fails (le_at ∙ lt-leb (a * d) (b * c) l)

  pub is_eq : a * d ≡ b * c → T (eq x y)
  is_eq e = holds (eq_at ∙ eq-eqb (a * d) (b * c) e)

  pub is_not_eq : (a * d ≡ b * c → ⊥) → T (not (eq x y))
  is_not_eq n = fails (eq_at ∙ ne_eqb (a * d) (b * c) n)
