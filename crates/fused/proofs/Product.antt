-- The definition of a fused product and sum, by fractions: of finite values it is one `sum`, and where the product is a NaN, an infinity or a zero it is the plain product and sum. In a format given as a parameter. Assumes nothing.
use Rattle.std.proofs.Common.{◌≡◌, ℕ, zero, suc, ◌+◌, ◌-◌, ◌*◌, ◌/◌, ◌^◌, ◌<◌, Bool, true, false, cond, not, ◌&&◌, T, eqb, ltb, ◌⊎◌, ℤ, pos, sym, refl, ap, ◌∙◌, subst, inl, inr, true≢false, zero-lt-suc, mul_comm, mul-pos, mul-zero, zero-mul, eqb→eq}
use mathlib.Core.Logic.{⊎_map}
use mathlib.Core.Bool.{beq, false≢true}
use native.Mathlib.Nat.{mul-mul-mul_comm}
use lib.Ieee.{Float, nan, inf, fin, Format, prec, emax, low, up, down, unlike, size, odd, units, round, sum, add, mul, is_nan, fits}
use lib.Ieee.Exact.{HasValue}
use lib.Ieee.Fits.{round_is, round-fits, cond-fits, down_pos}
use lib.Ieee.Nearest.{closest}
use lib.Ieee.Scale.{finite}
use Rattle.rounding.specs.Rounding.{regular}
use Rattle.fused.specs.Fused.{fma, plus, inf_plus}
use Rattle.rounding.proofs.Exact.{round-zero}
use Rattle.rounding.proofs.Sum.{sum_same}

-- ---- finite values, by any fractions that they equal
cross_sign : (s s' t t' : Bool) → s ≡ s' → t ≡ t' → unlike s t ≡ unlike s' t'
cross_sign s s' t t' p q = ap (λ (x : Bool). unlike x t) p ∙ ap (λ (x : Bool). unlike s' x) q

pub fma_value : (f : Format) (x y z : Float) (s t u : Bool) (a c b d k l : ℕ) → 0 < c → 0 < d → 0 < l → HasValue x s a c → HasValue y t b d → HasValue z u k l
    → fma f x y z ≡ sum f (unlike s t) (a * b * l) u (k * (c * d)) (c * d * l)
unfolding fma plus
fma_value f nan y z s t u a c b d k l C D L v w r = absurd v
fma_value f (inf s') y z s t u a c b d k l C D L v w r = absurd v
fma_value f (fin s' m e) nan z s t u a c b d k l C D L v w r = absurd w
fma_value f (fin s' m e) (inf t') z s t u a c b d k l C D L v w r = absurd w
fma_value f (fin s' m e) (fin t' n g) nan s t u a c b d k l C D L v w r = absurd r
fma_value f (fin s' m e) (fin t' n g) (inf u') s t u a c b d k l C D L v w r = absurd r
fma_value f (fin s' m e) (fin t' n g) (fin u' o h) s t u a c b d k l C D L v w r =
    ap (λ (z : Bool). sum f z (m * up e * (n * up g) * down h) u' (o * up h * (down e * down g)) (down e * down g * down h)) (cross_sign s' s t' t v.0 w.0)
    ∙ ap (λ (z : Bool). sum f (unlike s t) (m * up e * (n * up g) * down h) z (o * up h * (down e * down g)) (down e * down g * down h)) r.0
    ∙ sum_same f (unlike s t) u (m * up e * (n * up g) * down h) (o * up h * (down e * down g)) (down e * down g * down h) (a * b * l) (k * (c * d)) (c * d * l)
    (mul-pos (mul-pos (down_pos e) (down_pos g)) (down_pos h)) (mul-pos (mul-pos C D) L)
    (six (m * up e) (n * up g) (down h) c d l (a) b (down e) (down g) v.1 w.1)
    (last (o * up h) (down e * down g) (c * d) l k (down h) r.1)
  where
    six : (p q r c d l a b e g : ℕ) → p * c ≡ a * e → q * d ≡ b * g → p * q * r * (c * d * l) ≡ a * b * l * (e * g * r)
    six p q r c d l a b e g x y =
        mul-mul-mul_comm (p * q) r (c * d) l
        ∙ ap (λ (z : ℕ). z * (r * l)) (mul-mul-mul_comm p q c d ∙ ap (λ (z : ℕ). z * (q * d)) x ∙ ap (λ (z : ℕ). a * e * z) y ∙ mul-mul-mul_comm a e b g)
        ∙ ap (λ (z : ℕ). a * b * (e * g) * z) (mul_comm r l)
        ∙ mul-mul-mul_comm (a * b) (e * g) l r

    last : (o q c l k h : ℕ) → o * l ≡ k * h → o * q * (c * l) ≡ k * c * (q * h)
    last o q c l k h x = ap (λ (z : ℕ). o * q * z) (mul_comm c l) ∙ mul-mul-mul_comm o q l c ∙ ap (λ (z : ℕ). z * (q * c)) x ∙ ap (λ (z : ℕ). k * h * z) (mul_comm q c) ∙ mul-mul-mul_comm k h c q ∙ ap (λ (z : ℕ). k * c * z) (mul_comm h q)

-- ---- a product of zero
add_zero_product : (f : Format) (s : Bool) (p q : ℕ) (z : Float) → p ≡ 0 → 0 < q → add f (fin s 0 (pos 0)) z ≡ plus f s p q z
unfolding add plus
add_zero_product f s p q nan e Q = refl
add_zero_product f s p q (inf u) e Q = refl
add_zero_product f s p q (fin u k g) e Q =
    sum_same f s u (0 * 1 * down g) (k * up g * 1) (1 * down g) (p * down g) (k * up g * q) (q * down g) (mul-pos (zero-lt-suc 0) (down_pos g)) (mul-pos Q (down_pos g))
    (ap (λ (x : ℕ). x * (q * down g)) (zero-mul (down g)) ∙ zero-mul (q * down g) ∙ sym (ap (λ (x : ℕ). x * down g * (1 * down g)) e ∙ ap (λ (x : ℕ). x * (1 * down g)) (zero-mul (down g)) ∙ zero-mul (1 * down g)))
    (mul-mul-mul_comm (k * up g) 1 q (down g))

-- ---- where the product is exact
is_zero : (m : ℕ) → not (eqb m 0) ≡ false → m ≡ 0
is_zero m e = go (eqb m 0) (eqb→eq m 0) e
  where
    go : (b : Bool) → (T b → m ≡ 0) → not b ≡ false → m ≡ 0
    go true h e = h tt
    go false h e = absurd (true≢false e)

inf_plus_lem : (f : Format) (s : Bool) (z : Float) → add f (inf s) z ≡ inf_plus s z
unfolding add inf_plus
inf_plus_lem f s nan = refl
inf_plus_lem f s (inf t) = refl
inf_plus_lem f s (fin t n d) = refl

add_nan : (f : Format) (z : Float) → add f nan z ≡ nan
unfolding add
add_nan f z = refl

either : (f : Format) (b s : Bool) (z : Float) → add f (cond b nan (inf s)) z ≡ cond b nan (inf_plus s z)
either f true s z = add_nan f z
either f false s z = inf_plus_lem f s z

product_zero : (m n : ℕ) (e d : ℤ) → (m ≡ 0) ⊎ (n ≡ 0) → m * up e * (n * up d) ≡ 0
product_zero m n e d (inl z) = ap (λ (x : ℕ). x * up e * (n * up d)) z ∙ ap (λ (x : ℕ). x * (n * up d)) (zero-mul (up e)) ∙ zero-mul (n * up d)
product_zero m n e d (inr z) = ap (λ (x : ℕ). m * up e * (x * up d)) z ∙ ap (λ (x : ℕ). m * up e * x) (zero-mul (up d)) ∙ mul-zero (m * up e)

pub irregular : (f : Format) (x y z : Float) → (regular x ≡ false) ⊎ (regular y ≡ false) → add f (mul f x y) z ≡ fma f x y z
unfolding mul fma regular
irregular f nan y z o = add_nan f z
irregular f (inf s) nan z o = add_nan f z
irregular f (inf s) (inf t) z o = inf_plus_lem f (unlike s t) z
irregular f (inf s) (fin t n d) z o = either f (eqb n 0) (unlike s t) z
irregular f (fin s m e) nan z o = add_nan f z
irregular f (fin s m e) (inf t) z o = either f (eqb m 0) (unlike s t) z
irregular f (fin s m e) (fin t n d) z o =
    let p = product_zero m n e d (⊎_map (is_zero m) (is_zero n) o) in
    let Q = mul-pos (down_pos e) (down_pos d) in
    ap (λ (x : Float). add f x z) (round-zero f (unlike s t) (m * up e * (n * up d)) (down e * down d) p Q) ∙ add_zero_product f (unlike s t) (m * up e * (n * up d)) (down e * down d) z p Q

-- c is a NaN or an infinity, and the product is finite
pub not_finite : (f : Format) (x y z : Float) → regular x ≡ true → regular y ≡ true → finite z ≡ false → z ≡ fma f x y z
unfolding fma plus regular
not_finite f nan y z p q r = absurd (false≢true p)
not_finite f (inf s) y z p q r = absurd (false≢true p)
not_finite f (fin s m e) nan z p q r = absurd (false≢true q)
not_finite f (fin s m e) (inf t) z p q r = absurd (false≢true q)
not_finite f (fin s m e) (fin t n d) nan p q r = refl
not_finite f (fin s m e) (fin t n d) (inf u) p q r = refl
not_finite f (fin s m e) (fin t n d) (fin u k g) p q r = absurd (true≢false r)

-- ---- a sum is no NaN, and the format holds it
odd_no_nan : (d : ℕ) (s : Bool) (q k l : ℕ) → T (not (is_nan (odd d s q k l)))
unfolding odd is_nan
odd_no_nan d s zero k l = tt
odd_no_nan d s (suc q) k l = tt

round_no_nan : (f : Format) (s : Bool) (n d : ℕ) → T (not (is_nan (round f s n d)))
unfolding units is_nan
round_no_nan f s n d =
    let k = size (n * 2 ^ low f / d) - prec f in
    let q = closest (n * 2 ^ low f) (d * 2 ^ k) in
    subst (λ (x : Float). T (not (is_nan x))) (sym (round_is f s n d)) (go q k (ltb (q * 2 ^ k) (2 ^ (low f + suc (emax f)))))
  where
    go : (q k : ℕ) (b : Bool) → T (not (is_nan (cond b (odd (suc (prec f)) s q k (low f)) (inf s))))
    go q k true = odd_no_nan (suc (prec f)) s q k (low f)
    go q k false = tt

pub sum_no_nan : (f : Format) (s t : Bool) (a b c : ℕ) → T (not (is_nan (sum f s a t b c)))
unfolding sum
sum_no_nan f s t a b c = go (beq s t) (ltb a b)
  where
    go : (x y : Bool) → T (not (is_nan (cond x (round f s (a + b) c) (cond y (round f t (b - a) c) (round f (s && ltb b a) (a - b) c)))))
    go true y = round_no_nan f s (a + b) c
    go false true = round_no_nan f t (b - a) c
    go false false = round_no_nan f (s && ltb b a) (a - b) c

pub sum_fits : (f : Format) (s t : Bool) (a b c : ℕ) → T (fits f (sum f s a t b c))
unfolding sum
sum_fits f s t a b c =
    cond-fits f (beq s t) (round f s (a + b) c) (cond (ltb a b) (round f t (b - a) c) (round f (s && ltb b a) (a - b) c)) (round-fits f s (a + b) c)
    (cond-fits f (ltb a b) (round f t (b - a) c) (round f (s && ltb b a) (a - b) c) (round-fits f t (b - a) c) (round-fits f (s && ltb b a) (a - b) c))
