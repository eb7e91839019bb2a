-- Signs go through: `round`, `mul` and `div` at the negative of an operand give the negative of the result, in any format f. So what is proved of values that are not negative holds of the others.
-- (`add` is no such case: x + -x is +0 on either side.) Assumes nothing.
use Rattle.std.proofs.Common.{◌≡◌, ℕ, zero, suc, ◌+◌, ◌*◌, ◌^◌, Bool, true, false, cond, not, eqb, ltb, pos, sym, refl, ap, ◌∙◌, ap₂}
use lib.Ieee.{Float, nan, inf, fin, Format, prec, emax, low, unlike, up, down, odd, units, round, neg, mul, div}
use lib.Ieee.Exact.{HasValue}
use lib.Ieee.Fits.{round_is}
use Rattle.rounding.specs.Rounding.{magnitude}

cond_neg : (b : Bool) (x y : Float) → cond b (neg x) (neg y) ≡ neg (cond b x y)
cond_neg true x y = refl
cond_neg false x y = refl

odd_not : (d : ℕ) (s : Bool) (q k l : ℕ) → odd d (not s) q k l ≡ neg (odd d s q k l)
unfolding odd neg
odd_not d s zero k l = refl
odd_not d s (suc q) k l = refl

units_not : (f : Format) (s : Bool) (q k : ℕ) → units f (not s) q k ≡ neg (units f s q k)
unfolding units neg
units_not f s q k =
    ap (λ (x : Float). cond (ltb (q * 2 ^ k) (2 ^ (low f + suc (emax f)))) x (inf (not s))) (odd_not (suc (prec f)) s q k (low f))
    ∙ cond_neg (ltb (q * 2 ^ k) (2 ^ (low f + suc (emax f)))) (odd (suc (prec f)) s q k (low f)) (inf s)

pub round_not : (f : Format) (s : Bool) (a c : ℕ) → round f (not s) a c ≡ neg (round f s a c)
round_not f s a c =
    round_is f (not s) a c ∙ units_not f s _ _ ∙ ap neg (sym (round_is f s a c))

not-not : (b : Bool) → not (not b) ≡ b
not-not true = refl
not-not false = refl

pub neg-neg : (x : Float) → neg (neg x) ≡ x
unfolding neg
neg-neg nan = refl
neg-neg (inf s) = ap inf (not-not s)
neg-neg (fin s m e) = ap (λ (b : Bool). fin b m e) (not-not s)

unlike_not : (s t : Bool) → unlike (not s) t ≡ not (unlike s t)
unlike_not true true = refl
unlike_not true false = refl
unlike_not false true = refl
unlike_not false false = refl

pub mul-neg : (f : Format) (x y : Float) → mul f (neg x) y ≡ neg (mul f x y)
unfolding mul neg
mul-neg f nan y = refl
mul-neg f (inf s) nan = refl
mul-neg f (inf s) (inf t) = ap inf (unlike_not s t)
mul-neg f (inf s) (fin t n d) = ap (λ (b : Bool). cond (eqb n 0) nan (inf b)) (unlike_not s t) ∙ cond_neg (eqb n 0) nan (inf (unlike s t))
mul-neg f (fin s m e) nan = refl
mul-neg f (fin s m e) (inf t) = ap (λ (b : Bool). cond (eqb m 0) nan (inf b)) (unlike_not s t) ∙ cond_neg (eqb m 0) nan (inf (unlike s t))
mul-neg f (fin s m e) (fin t n d) = ap (λ (b : Bool). round f b (m * up e * (n * up d)) (down e * down d)) (unlike_not s t) ∙ round_not f (unlike s t) (m * up e * (n * up d)) (down e * down d)

pub div-neg : (f : Format) (x y : Float) → div f (neg x) y ≡ neg (div f x y)
unfolding div neg
div-neg f nan y = refl
div-neg f (inf s) nan = refl
div-neg f (inf s) (inf t) = refl
div-neg f (inf s) (fin t n d) = ap inf (unlike_not s t)
div-neg f (fin s m e) nan = refl
div-neg f (fin s m e) (inf t) = ap (λ (b : Bool). fin b 0 (pos 0)) (unlike_not s t)
div-neg f (fin s m e) (fin t n d) =
    let u = unlike s t in
    let a = m * up e * down d in
    let c = n * up d * down e in
    ap (λ (b : Bool). cond (eqb n 0) (cond (eqb m 0) nan (inf b)) (round f b a c)) (unlike_not s t)
    ∙ ap₂ (cond (eqb n 0)) (cond_neg (eqb m 0) nan (inf u)) (round_not f u a c)
    ∙ cond_neg (eqb n 0) (cond (eqb m 0) nan (inf u)) (round f u a c)

-- a value's negative has its size
pub value_neg : (x : Float) (s : Bool) (a c : ℕ) → HasValue x s a c → HasValue (neg x) (not s) a c
unfolding neg
value_neg nan s a c h = h
value_neg (inf t) s a c h = h
value_neg (fin t m e) s a c h = (ap not h.0, h.1)

pub magnitude_value : (x : Float) (s : Bool) (a c : ℕ) → HasValue x s a c → HasValue (magnitude x) false a c
unfolding magnitude
magnitude_value nan s a c h = h
magnitude_value (inf t) s a c h = h
magnitude_value (fin t m e) s a c h = (refl, h.1)
