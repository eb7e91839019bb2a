-- The order of floats, whatever their signs, infinities and -0 included: `lt`, `le` and `eq` are those of whole numbers on one scale. Assumes nothing.
use mathlib.Core.Path.{◌≡◌, refl, sym, ap, ap₂, ◌∙◌}
use mathlib.Core.Logic.{◌⊎◌, inl, inr}
use mathlib.Core.Bool.{Bool, true, false, not, ◌&&◌, ◌||◌, true≢false}
use Prim.Native.Nat.{ℕ, ◌+◌, ◌-◌, ◌*◌, ◌≤◌, ◌<◌}
use native.Mathlib.Nat.{le_refl, le_of_lt, le_of_eq, lt_of_lt_of_le, lt_of_le_of_lt, mul-pos, mul_left_comm, lt_of_mul-lt-mul_right, le_of_mul-le-mul_right, eq_of_mul-eq-mul_right, zero-mul}
use native.Mathlib.Omega.{arith}
use lib.Dec.{T, ltb, leb, eqb}
use lib.Ieee.{Float, nan, inf, fin, up, down, below, level, lt, le, eq, ne, is_nan}
use lib.Ieee.Positive.{num, den, den_pos}
use lib.Ieee.Exact.{HasValue}
use lib.Ieee.Scale.{finite}
use borrow.Author.Tests.{ltb-true, ltb-false, leb-true, leb-false, eqb-true, le-leb, lt-leb, lt-ltb, le-ltb, eq-eqb, ne_eqb}
use Rattle.rounding.proofs.Compare.{lt_value, eq_value, le_or, ltb_same}
use Rattle.rounding.proofs.Sum.{and-true}

-- ---- the scale: minus infinity is 0, ±a / D is N + 1 ± a, infinity is 2 * N + 2
abbrev Point : Bool → ℕ → ℕ → ℕ → Type 0
Point false N a k = k ≡ N + 1 + a
Point true N a k = k + a ≡ N + 1

abbrev At : ℕ → ℕ → Float → ℕ → Type 0
At D N nan k = ⊥
At D N (inf true) k = k ≡ 0
At D N (inf false) k = k ≡ 2 * N + 2
At D N (fin s m e) k = (a : ℕ) × HasValue (fin s m e) s a D × (a ≤ N) × Point s N a k

inside : (s : Bool) (N a k : ℕ) → a ≤ N → Point s N a k → (0 < k) × (k < 2 * N + 2)
inside false N a k l p = omega arith
inside true N a k l p = omega arith

-- two tests that hold together are one
same_test : (p q : Bool) → (p ≡ true → q ≡ true) → (q ≡ true → p ≡ true) → p ≡ q
same_test true q f g = sym (f refl)
same_test false true f g = g refl
same_test false false f g = refl

both : (p q : Bool) → (p && q) ≡ true → (p ≡ true) × (q ≡ true)
both true q h = (refl, h)
both false q h = absurd (true≢false (sym h))

-- multiples of D
scaled : (D a b k l : ℕ) → 0 < D → (a < b → k < l) → (b ≤ a → l ≤ k) → ltb (a * D) (b * D) ≡ ltb k l
scaled D a b k l P f g = ltb_same (a * D) (b * D) k l (λ h. f (lt_of_mul-lt-mul_right D h)) (λ h. g (le_of_mul-le-mul_right h P))

below_test : (D N : ℕ) → 0 < D → (s t : Bool) (a b k l : ℕ) → Point s N a k → Point t N b l → below s (a * D) t (b * D) ≡ ltb k l
below_test D N P false false a b k l p q = scaled D a b k l P (λ h. omega arith) (λ h. omega arith)
below_test D N P false true a b k l p q = sym (le-ltb k l (omega arith))
below_test D N P true false a b k l p q =
    ap₂ ltb (sym (zero-mul D)) (shared a b D) ∙ scaled D 0 (a + b) k l P (λ h. omega arith) (λ h. omega arith)
  where
    shared : (x y z : ℕ) → x * z + y * z ≡ (x + y) * z
    shared x y z = omega arith
below_test D N P true true a b k l p q = scaled D b a k l P (λ h. omega arith) (λ h. omega arith)

-- both signs are s
level_alike : (D N : ℕ) → 0 < D → (s : Bool) (a b k l : ℕ) → Point s N a k → Point s N b l → eqb (a * D) (b * D) ≡ eqb k l
level_alike D N P s a b k l p q =
    same_test (eqb (a * D) (b * D)) (eqb k l) (λ h. eq-eqb k l (there s p q (eq_of_mul-eq-mul_right D P a b (eqb-true (a * D) (b * D) h))))
    (λ h. eq-eqb (a * D) (b * D) (ap (λ (z : ℕ). z * D) (back s p q (eqb-true k l h))))
  where
    there : (s : Bool) → Point s N a k → Point s N b l → a ≡ b → k ≡ l
    there false p q e = omega arith
    there true p q e = omega arith

    back : (s : Bool) → Point s N a k → Point s N b l → k ≡ l → a ≡ b
    back false p q e = omega arith
    back true p q e = omega arith

-- one is not negative and the other is: both are zero, or they differ
level_unlike : (D a b k l : ℕ) → 0 < D → (a ≡ b → a ≡ 0 → k ≡ l) → (k ≡ l → (a ≡ 0) × (b ≡ 0)) → (eqb (a * D) (b * D) && eqb (a * D) 0) ≡ eqb k l
level_unlike D a b k l P meet zero =
    same_test (eqb (a * D) (b * D) && eqb (a * D) 0) (eqb k l)
    (λ h. let i = both (eqb (a * D) (b * D)) (eqb (a * D) 0) h in eq-eqb k l (meet (eq_of_mul-eq-mul_right D P a b (eqb-true (a * D) (b * D) i.0)) (eq_of_mul-eq-mul_right D P a 0 (eqb-true (a * D) 0 i.1 ∙ sym (zero-mul D)))))
    (λ h. let i = zero (eqb-true k l h) in ap₂ (λ (u v : Bool). u && v) (eq-eqb (a * D) (b * D) (ap (λ (y : ℕ). y * D) (i.0 ∙ sym i.1))) (eq-eqb (a * D) 0 (ap (λ (y : ℕ). y * D) i.0 ∙ zero-mul D)))

level_test : (D N : ℕ) → 0 < D → (s t : Bool) (a b k l : ℕ) → Point s N a k → Point t N b l → level s (a * D) t (b * D) ≡ eqb k l
level_test D N P false false a b k l p q = and-true (eqb (a * D) (b * D)) ∙ level_alike D N P false a b k l p q
level_test D N P true true a b k l p q = and-true (eqb (a * D) (b * D)) ∙ level_alike D N P true a b k l p q
level_test D N P false true a b k l p q = level_unlike D a b k l P (λ e i. omega arith) (λ e. omega arith)
level_test D N P true false a b k l p q = level_unlike D a b k l P (λ e i. omega arith) (λ e. omega arith)

-- ---- the tests of two floats on the scale
lt_test : (D N : ℕ) → 0 < D → (x y : Float) (k l : ℕ) → At D N x k → At D N y l → lt x y ≡ ltb k l
unfolding lt
lt_test D N P nan y k l h g = absurd h
lt_test D N P (inf s) nan k l h g = absurd g
lt_test D N P (fin s m e) nan k l h g = absurd g
lt_test D N P (inf true) (inf true) k l h g = sym (le-ltb k l (omega arith))
lt_test D N P (inf true) (inf false) k l h g = sym (lt-ltb k l (omega arith))
lt_test D N P (inf false) (inf true) k l h g = sym (le-ltb k l (omega arith))
lt_test D N P (inf false) (inf false) k l h g = sym (le-ltb k l (omega arith))
lt_test D N P (inf true) (fin t n d) k l h g = let i = inside t N g.0 l g.2 g.3 in sym (lt-ltb k l (omega arith))
lt_test D N P (inf false) (fin t n d) k l h g = let i = inside t N g.0 l g.2 g.3 in sym (le-ltb k l (omega arith))
lt_test D N P (fin s m e) (inf true) k l h g = let i = inside s N h.0 k h.2 h.3 in sym (le-ltb k l (omega arith))
lt_test D N P (fin s m e) (inf false) k l h g = let i = inside s N h.0 k h.2 h.3 in sym (lt-ltb k l (omega arith))
lt_test D N P (fin s m e) (fin t n d) k l h g =
    lt_value (fin s m e) (fin t n d) s t h.0 D g.0 D P P h.1 g.1 ∙ below_test D N P s t h.0 g.0 k l h.3 g.3

eq_test : (D N : ℕ) → 0 < D → (x y : Float) (k l : ℕ) → At D N x k → At D N y l → eq x y ≡ eqb k l
unfolding eq
eq_test D N P nan y k l h g = absurd h
eq_test D N P (inf s) nan k l h g = absurd g
eq_test D N P (fin s m e) nan k l h g = absurd g
eq_test D N P (inf true) (inf true) k l h g = sym (eq-eqb k l (omega arith))
eq_test D N P (inf true) (inf false) k l h g = sym (ne_eqb k l (λ z. omega arith))
eq_test D N P (inf false) (inf true) k l h g = sym (ne_eqb k l (λ z. omega arith))
eq_test D N P (inf false) (inf false) k l h g = sym (eq-eqb k l (omega arith))
eq_test D N P (inf true) (fin t n d) k l h g = let i = inside t N g.0 l g.2 g.3 in sym (ne_eqb k l (λ z. omega arith))
eq_test D N P (inf false) (fin t n d) k l h g = let i = inside t N g.0 l g.2 g.3 in sym (ne_eqb k l (λ z. omega arith))
eq_test D N P (fin s m e) (inf true) k l h g = let i = inside s N h.0 k h.2 h.3 in sym (ne_eqb k l (λ z. omega arith))
eq_test D N P (fin s m e) (inf false) k l h g = let i = inside s N h.0 k h.2 h.3 in sym (ne_eqb k l (λ z. omega arith))
eq_test D N P (fin s m e) (fin t n d) k l h g =
    eq_value (fin s m e) (fin t n d) s t h.0 D g.0 D P P h.1 g.1 ∙ level_test D N P s t h.0 g.0 k l h.3 g.3

record Ranked (x y : Float) (k l : ℕ) : Type 0 where
  less : lt x y ≡ ltb k l
  same : eq x y ≡ eqb k l
  most : le x y ≡ leb k l

ranked : (D N : ℕ) → 0 < D → (x y : Float) (k l : ℕ) → At D N x k → At D N y l → Ranked x y k l
unfolding le
ranked D N P x y k l h g =
    let p = lt_test D N P x y k l h g in
    let q = eq_test D N P x y k l h g in
    record { less = p; same = q; most = ap₂ (λ (u v : Bool). u || v) p q ∙ le_or k l }

-- ---- three numbers, none of them a NaN, on one scale
own : (a D w d : ℕ) → D ≡ d * w → a * D ≡ a * w * d
own a D w d e = ap (λ (z : ℕ). a * z) e ∙ omega arith

placed : (D N w : ℕ) (x : Float) → T (not (is_nan x)) → D ≡ den x * w → num x * w ≤ N → (k : ℕ) × At D N x k
unfolding is_nan
placed D N w nan n d l = absurd n
placed D N w (inf true) n d l = (0, refl)
placed D N w (inf false) n d l = (2 * N + 2, refl)
placed D N w (fin false m e) n d l = (N + 1 + m * up e * w, (m * up e * w, (refl, own (m * up e) D w (down e) d), l, refl))
placed D N w (fin true m e) n d l = (N + 1 - m * up e * w, (m * up e * w, (refl, own (m * up e) D w (down e) d), l, omega arith))

record Scale (x y z : Float) : Type 0 where
  i : ℕ
  j : ℕ
  k : ℕ
  xy : Ranked x y i j
  yx : Ranked y x j i
  yz : Ranked y z j k
  zy : Ranked z y k j
  xz : Ranked x z i k
  zx : Ranked z x k i

scale : (x y z : Float) → T (not (is_nan x)) → T (not (is_nan y)) → T (not (is_nan z)) → Scale x y z
scale x y z p q r =
    let a = den y * den z in
    let b = den x * den z in
    let c = den x * den y in
    let D = den x * a in
    let N = num x * a + (num y * b + num z * c) in
    let P : 0 < D = mul-pos (den_pos x) (mul-pos (den_pos y) (den_pos z)) in
    let f = placed D N a x p refl (omega arith) in
    let g = placed D N b y q (mul_left_comm (den x) (den y) (den z)) (omega arith) in
    let h = placed D N c z r (turned (den x) (den y) (den z)) (omega arith) in
    record {
      i = f.0;
      j = g.0;
      k = h.0;
      xy = ranked D N P x y f.0 g.0 f.1 g.1;
      yx = ranked D N P y x g.0 f.0 g.1 f.1;
      yz = ranked D N P y z g.0 h.0 g.1 h.1;
      zy = ranked D N P z y h.0 g.0 h.1 g.1;
      xz = ranked D N P x z f.0 h.0 f.1 h.1;
      zx = ranked D N P z x h.0 f.0 h.1 f.1;
    }
  where
    turned : (a b c : ℕ) → a * (b * c) ≡ c * (a * b)
    turned a b c = omega arith

-- what passes a test is no NaN
lt_numbers : (x y : Float) → lt x y ≡ true → T (not (is_nan x)) × T (not (is_nan y))
unfolding lt is_nan
lt_numbers nan y h = absurd (true≢false (sym h))
lt_numbers (inf s) nan h = absurd (true≢false (sym h))
lt_numbers (fin s m e) nan h = absurd (true≢false (sym h))
lt_numbers (inf s) (inf t) h = (tt, tt)
lt_numbers (inf s) (fin t n g) h = (tt, tt)
lt_numbers (fin s m e) (inf t) h = (tt, tt)
lt_numbers (fin s m e) (fin t n g) h = (tt, tt)

eq_numbers : (x y : Float) → eq x y ≡ true → T (not (is_nan x)) × T (not (is_nan y))
unfolding eq is_nan
eq_numbers nan y h = absurd (true≢false (sym h))
eq_numbers (inf s) nan h = absurd (true≢false (sym h))
eq_numbers (fin s m e) nan h = absurd (true≢false (sym h))
eq_numbers (inf s) (inf t) h = (tt, tt)
eq_numbers (inf s) (fin t n g) h = (tt, tt)
eq_numbers (fin s m e) (inf t) h = (tt, tt)
eq_numbers (fin s m e) (fin t n g) h = (tt, tt)

pub le-lt-or-eq : (x y : Float) → le x y ≡ true → (lt x y ≡ true) ⊎ (eq x y ≡ true)
unfolding le
le-lt-or-eq x y h = go (lt x y) h
  where
    go : (p : Bool) → (p || eq x y) ≡ true → (p ≡ true) ⊎ (eq x y ≡ true)
    go true e = inl refl
    go false e = inr e

le_numbers : (x y : Float) → le x y ≡ true → T (not (is_nan x)) × T (not (is_nan y))
le_numbers x y h = elim (le-lt-or-eq x y h) [ inl l ↦ lt_numbers x y l | inr e ↦ eq_numbers x y e ]

finite_number : (x : Float) → finite x ≡ true → T (not (is_nan x))
unfolding is_nan
finite_number nan h = absurd (true≢false (sym h))
finite_number (inf s) h = tt
finite_number (fin s m e) h = tt

-- ---- two floats
two : (x y : Float) → T (not (is_nan x)) × T (not (is_nan y)) → Scale x y y
two x y n = scale x y y n.0 n.1 n.1

pub lt_asym : (x y : Float) → lt x y ≡ true → lt y x ≡ false
lt_asym x y h = let s = two x y (lt_numbers x y h) in s.yx.less ∙ le-ltb s.j s.i (le_of_lt (ltb-true s.i s.j (sym s.xy.less ∙ h)))

pub lt_not_le : (x y : Float) → lt x y ≡ true → le y x ≡ false
lt_not_le x y h = let s = two x y (lt_numbers x y h) in s.yx.most ∙ lt-leb s.j s.i (ltb-true s.i s.j (sym s.xy.less ∙ h))

pub le_of_not_lt : (x y : Float) → finite x ≡ true → finite y ≡ true → lt x y ≡ false → le y x ≡ true
le_of_not_lt x y p q h = let s = two x y (finite_number x p, finite_number y q) in s.yx.most ∙ le-leb s.j s.i (ltb-false s.i s.j (sym s.xy.less ∙ h))

pub lt_of_not_le : (x y : Float) → finite x ≡ true → finite y ≡ true → le x y ≡ false → lt y x ≡ true
lt_of_not_le x y p q h = let s = two x y (finite_number x p, finite_number y q) in s.yx.less ∙ lt-ltb s.j s.i (leb-false s.i s.j (sym s.xy.most ∙ h))

pub eq_not_lt : (x y : Float) → eq x y ≡ true → (lt x y ≡ false) × (lt y x ≡ false)
eq_not_lt x y h =
    let s = two x y (eq_numbers x y h) in
    let e = eqb-true s.i s.j (sym s.xy.same ∙ h) in
    (s.xy.less ∙ le-ltb s.i s.j (le_of_eq (sym e)), s.yx.less ∙ le-ltb s.j s.i (le_of_eq e))

pub eq_sym : (x y : Float) → eq x y ≡ true → eq y x ≡ true
eq_sym x y h = let s = two x y (eq_numbers x y h) in s.yx.same ∙ eq-eqb s.j s.i (sym (eqb-true s.i s.j (sym s.xy.same ∙ h)))

pub lt-le : (x y : Float) → lt x y ≡ true → le x y ≡ true
unfolding le
lt-le x y h = ap (λ (p : Bool). p || eq x y) h

pub eq-le : (x y : Float) → eq x y ≡ true → le x y ≡ true
eq-le x y h = let s = two x y (eq_numbers x y h) in s.xy.most ∙ le-leb s.i s.j (le_of_eq (eqb-true s.i s.j (sym s.xy.same ∙ h)))

-- a float and itself
pub lt_irrefl : (x : Float) → lt x x ≡ false
unfolding lt
lt_irrefl nan = refl
lt_irrefl (inf true) = refl
lt_irrefl (inf false) = refl
lt_irrefl (fin true m e) = le-ltb (m * up e * down e) (m * up e * down e) (le_refl (m * up e * down e))
lt_irrefl (fin false m e) = le-ltb (m * up e * down e) (m * up e * down e) (le_refl (m * up e * down e))

pub eq_refl : (x : Float) → finite x ≡ true → eq x x ≡ true
unfolding eq
eq_refl nan h = absurd (true≢false (sym h))
eq_refl (inf s) h = absurd (true≢false (sym h))
eq_refl (fin true m e) h = and-true (eqb (m * up e * down e) (m * up e * down e)) ∙ eq-eqb (m * up e * down e) (m * up e * down e) refl
eq_refl (fin false m e) h = and-true (eqb (m * up e * down e) (m * up e * down e)) ∙ eq-eqb (m * up e * down e) (m * up e * down e) refl

pub ne_irrefl : (x : Float) → finite x ≡ true → ne x x ≡ false
unfolding ne
ne_irrefl x h = ap not (eq_refl x h)

-- a value is finite
pub value_finite : (x : Float) (s : Bool) (a c : ℕ) → HasValue x s a c → finite x ≡ true
value_finite nan s a c h = absurd h
value_finite (inf t) s a c h = absurd h
value_finite (fin t m e) s a c h = refl

-- ---- three floats
module _ (x y z : Float) where
  pub lt_le_trans : lt x y ≡ true → le y z ≡ true → lt x z ≡ true
  lt_le_trans h g =
      let s = scale x y z (lt_numbers x y h).0 (lt_numbers x y h).1 (le_numbers y z g).1 in
      s.xz.less ∙ lt-ltb s.i s.k (lt_of_lt_of_le (ltb-true s.i s.j (sym s.xy.less ∙ h)) (leb-true s.j s.k (sym s.yz.most ∙ g)))

  pub le_lt_trans : le x y ≡ true → lt y z ≡ true → lt x z ≡ true
  le_lt_trans h g =
      let s = scale x y z (le_numbers x y h).0 (le_numbers x y h).1 (lt_numbers y z g).1 in
      s.xz.less ∙ lt-ltb s.i s.k (lt_of_le_of_lt (leb-true s.i s.j (sym s.xy.most ∙ h)) (ltb-true s.j s.k (sym s.yz.less ∙ g)))

  pub le_trans : le x y ≡ true → le y z ≡ true → le x z ≡ true
  le_trans h g =
      let s = scale x y z (le_numbers x y h).0 (le_numbers x y h).1 (le_numbers y z g).1 in
      s.xz.most ∙ le-leb s.i s.k (below (leb-true s.i s.j (sym s.xy.most ∙ h)) (leb-true s.j s.k (sym s.yz.most ∙ g)))
    where
      below : {a b c : ℕ} → a ≤ b → b ≤ c → a ≤ c
      below p q = omega arith

-- ---- equal floats compare alike with any third one
pub record Alike (x y z : Float) : Type 0 where
  pub below : lt x z ≡ lt y z
  pub above : lt z x ≡ lt z y
  pub at_most : le x z ≡ le y z
  pub at_least : le z x ≡ le z y

lt_nan : (x : Float) → lt x nan ≡ false
unfolding lt
lt_nan nan = refl
lt_nan (inf s) = refl
lt_nan (fin s m e) = refl

eq_nan : (x : Float) → eq x nan ≡ false
unfolding eq
eq_nan nan = refl
eq_nan (inf s) = refl
eq_nan (fin s m e) = refl

le_nan : (x : Float) → le x nan ≡ false
unfolding le
le_nan x = ap₂ (λ (p q : Bool). p || q) (lt_nan x) (eq_nan x)

alike_number : (x y z : Float) → T (not (is_nan z)) → eq x y ≡ true → Alike x y z
alike_number x y z n h =
    let s = scale x y z (eq_numbers x y h).0 (eq_numbers x y h).1 n in
    let e = eqb-true s.i s.j (sym s.xy.same ∙ h) in
    record {
      below = s.xz.less ∙ ap (λ (i : ℕ). ltb i s.k) e ∙ sym s.yz.less;
      above = s.zx.less ∙ ap (ltb s.k) e ∙ sym s.zy.less;
      at_most = s.xz.most ∙ ap (λ (i : ℕ). leb i s.k) e ∙ sym s.yz.most;
      at_least = s.zx.most ∙ ap (leb s.k) e ∙ sym s.zy.most;
    }

pub eq_alike : (x y z : Float) → eq x y ≡ true → Alike x y z
unfolding is_nan lt le
eq_alike x y nan h = record { below = lt_nan x ∙ sym (lt_nan y); above = refl; at_most = le_nan x ∙ sym (le_nan y); at_least = refl }
eq_alike x y (inf t) h = alike_number x y (inf t) tt h
eq_alike x y (fin t m e) h = alike_number x y (fin t m e) tt h
