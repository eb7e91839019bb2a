-- `fused::fused::fma` meets its contract: `fused` for finite values whose product is not zero, and otherwise the product is exact. Assumes nothing.
-- By hand: with laws named on the function `fused-requires`, `returns-then-is_finite` are not proved.
use Rattle.std.proofs.Common.{◌≡◌, ℕ, zero, suc, ◌+◌, ◌*◌, ◌^◌, ◌<◌, Bool, true, sym, refl, ap, ◌∙◌, subst, lt_irrefl, zero-lt-suc, mul_assoc, mul-pos, zero-mul, pow_pos, pow-add}
use mathlib.Core.Bool.{false≢true}
use Rattle.std.proofs.lemmas.Float.{T_from_true}
use native.Mathlib.Nat.{mul-mul-mul_comm}
use lib.Ieee.{Float, nan, inf, fin, binary64, down, unlike, sum, fits, of_bits, to_bits}
use lib.Ieee.Bits.{of_bits-to_bits}
use lib.Ieee.Exact.{HasValue}
use lib.Ieee.Fits.{up_pos}
use lib.Ieee.Scale.{finite}
use Rattle.rounding.specs.Fields.{digits, place, negative}
use Rattle.rounding.specs.Rounding.{regular}
use Rattle.fused.specs.Fused.{fma}
use Rattle.fused.proofs.Finite.{Finite, of_finite}
use Rattle.fused.proofs.Product.{fma_value, sum_fits}
use Rattle.rounding.proofs.Sum.{sum_same}
use Rattle.fused.proofs.fused.fma.Goals as goal

-- ---- finite values
regular_finite : (x : Float) → regular x ≡ true → finite x ≡ true
unfolding regular
regular_finite nan e = absurd (false≢true e)
regular_finite (inf s) e = absurd (false≢true e)
regular_finite (fin s m k) e = refl

of_regular : (x : Float) → fits binary64 x ≡ true → regular x ≡ true → Finite x
of_regular x h e = of_finite x (T_from_true _ h) (regular_finite x e)

some_digits : (x : Float) (s : Bool) (d k : ℕ) → regular x ≡ true → HasValue x s (d * 2 ^ k) (2 ^ 1074) → 0 < d
unfolding regular
some_digits nan s d k e v = absurd v
some_digits (inf t) s d k e v = absurd v
some_digits (fin t zero g) s d k e v = absurd (false≢true e)
some_digits (fin t (suc m) g) s zero k e v =
    absurd (lt_irrefl 0 (subst (λ (x : ℕ). 0 < x) (v.1 ∙ ap (λ (x : ℕ). x * down g) (zero-mul (2 ^ k)) ∙ zero-mul (down g)) (mul-pos (mul-pos (zero-lt-suc m) (up_pos g)) (pow_pos 1074))))
some_digits (fin t (suc m) g) s (suc d) k e v = zero-lt-suc d

-- ---- the definition, by the patterns
scaled : (a b c p q r : ℕ) (s t : Bool) →
    sum binary64 s (a * 2 ^ p * (b * 2 ^ q) * 2 ^ 1074) t (c * 2 ^ r * (2 ^ 1074 * 2 ^ 1074)) (2 ^ 1074 * 2 ^ 1074 * 2 ^ 1074) ≡ sum binary64 s (a * b * 2 ^ (p + q)) t (c * 2 ^ (r + 1074)) (2 ^ 2148)
scaled a b c p q r s t =
    sum_same binary64 s t (a * 2 ^ p * (b * 2 ^ q) * 2 ^ 1074) (c * 2 ^ r * (2 ^ 1074 * 2 ^ 1074)) (2 ^ 1074 * 2 ^ 1074 * 2 ^ 1074) (a * b * 2 ^ (p + q)) (c * 2 ^ (r + 1074)) (2 ^ 2148) (pow_pos 3222) (pow_pos 2148)
    (mul_assoc (a * 2 ^ p * (b * 2 ^ q)) (2 ^ 1074) (2 ^ 2148) ∙ ap (λ (x : ℕ). x * 2 ^ 3222) (mul-mul-mul_comm a (2 ^ p) b (2 ^ q) ∙ ap (λ (x : ℕ). a * b * x) (sym (pow-add 2 p q))))
    (mul_assoc (c * 2 ^ r) (2 ^ 2148) (2 ^ 2148) ∙ sym (ap (λ (x : ℕ). x * 2 ^ 3222) (ap (λ (x : ℕ). c * x) (pow-add 2 r 1074) ∙ sym (mul_assoc c (2 ^ r) (2 ^ 1074))) ∙ mul_assoc (c * 2 ^ r) (2 ^ 1074) (2 ^ 3222)))

abbrev summed : Float → Float → Float → Float
summed x y z =
    let a = to_bits binary64 x in
    let b = to_bits binary64 y in
    let c = to_bits binary64 z in
    sum binary64 (unlike (negative binary64 a) (negative binary64 b)) (digits binary64 a * digits binary64 b * 2 ^ (place binary64 a + place binary64 b)) (negative binary64 c) (digits binary64 c * 2 ^ (place binary64 c + 1074)) (2 ^ 2148)

is_summed : (x y z : Float) → Finite x → Finite y → Finite z → fma binary64 x y z ≡ summed x y z
is_summed x y z X Y Z =
    let a = to_bits binary64 x in
    let b = to_bits binary64 y in
    let c = to_bits binary64 z in
    fma_value binary64 x y z (negative binary64 a) (negative binary64 b) (negative binary64 c) (digits binary64 a * 2 ^ place binary64 a) (2 ^ 1074) (digits binary64 b * 2 ^ place binary64 b) (2 ^ 1074) (digits binary64 c * 2 ^ place binary64 c) (2 ^ 1074)
    (pow_pos 1074) (pow_pos 1074) (pow_pos 1074) X.value Y.value Z.value
    ∙ scaled (digits binary64 a) (digits binary64 b) (digits binary64 c) (place binary64 a) (place binary64 b) (place binary64 c) (unlike (negative binary64 a) (negative binary64 b)) (negative binary64 c)

pub fused-requires : goal.fused-requires
fused-requires c =
    let r = sym c.is_regular.ensures ∙ c.if-is_regular.true in
    let s = sym c.is_regular-then-is_regular.ensures ∙ c.if-is_regular-2.true in
    let a = of_regular c.args.a c.well_formed.0.1 r in
    let b = of_regular c.args.b c.well_formed.1.0.1 s in
    let d = of_finite c.args.c (T_from_true _ c.well_formed.1.1.0.1) (sym c.is_finite.ensures ∙ c.if-is_finite.true) in
    (a.small, b.small, d.small, some_digits c.args.a _ _ _ r a.value, some_digits c.args.b _ _ _ s b.value)

pub returns-then-is_finite : goal.returns-then-is_finite
returns-then-is_finite c =
    ap (of_bits binary64) c.fused.ensures
    ∙ of_bits-to_bits binary64 (summed c.args.a c.args.b c.args.c) (sum_fits binary64 _ _ _ _ _)
    ∙ sym (is_summed c.args.a c.args.b c.args.c
    (of_regular c.args.a c.well_formed.0.1 (sym c.is_regular.ensures ∙ c.if-is_regular.true))
    (of_regular c.args.b c.well_formed.1.0.1 (sym c.is_regular-then-is_regular.ensures ∙ c.if-is_regular-2.true))
    (of_finite c.args.c (T_from_true _ c.well_formed.1.1.0.1) (sym c.is_finite.ensures ∙ c.if-is_finite.true)))
