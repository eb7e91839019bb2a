-- The kinds of a value: finite is what is below one infinity and above the other, and regular is finite and not equal to zero. Assumes nothing.
use Rattle.std.proofs.Common.{◌≡◌, ℕ, zero, suc, ◌*◌, ◌<◌, Bool, true, false, not, ◌&&◌, ◌||◌, eqb, ℤ, sym, refl, ap, ◌∙◌, true≢false, zero-lt-suc, mul-pos, zero-mul, arith, ne_eqb}
use mathlib.Core.Bool.{beq, false≢true}
use lib.Dec.{eqb-suc-zero}
use lib.Ieee.{Float, nan, inf, fin, binary64, up, down, lt, ne, of_bits}
use lib.Ieee.Fits.{up_pos}
use lib.Ieee.Scale.{finite}
use Rattle.rounding.specs.Rounding.{regular}

-- ---- against the infinities
pub below_infinity : (x : Float) → lt x (of_bits binary64 0x7ff0_0000_0000_0000) ≡ true → lt (of_bits binary64 0xfff0_0000_0000_0000) x ≡ finite x
unfolding lt of_bits
below_infinity nan e = refl
below_infinity (inf true) e = refl
below_infinity (inf false) e = absurd (false≢true e)
below_infinity (fin s m k) e = refl

pub not_below_infinity : (x : Float) → lt x (of_bits binary64 0x7ff0_0000_0000_0000) ≡ false → lt x (of_bits binary64 0x7ff0_0000_0000_0000) ≡ finite x
unfolding lt of_bits
not_below_infinity nan e = refl
not_below_infinity (inf s) e = e
not_below_infinity (fin s m k) e = absurd (true≢false e)

-- ---- against zero
-- the magnitudes that `ne` compares
zero-side : (m : ℕ) (k : ℤ) → eqb (m * up k * 1) (0 * 1 * down k) ≡ eqb m 0
zero-side zero k = ap (λ (x : ℕ). eqb (x * 1) (0 * 1 * down k)) (zero-mul (up k)) ∙ ap (λ (x : ℕ). eqb 0 x) (zero-mul (down k))
zero-side (suc m) k =
    ap (λ (x : ℕ). eqb (suc m * up k * 1) x) (zero-mul (down k))
    ∙ ne_eqb (suc m * up k * 1) 0 (λ e. no (suc m * up k * 1) (mul-pos (mul-pos (zero-lt-suc m) (up_pos k)) (zero-lt-suc 0)) e)
    ∙ sym (eqb-suc-zero m)
  where
    no : (a : ℕ) → 0 < a → a ≡ 0 → ⊥
    no a h e = omega arith

second : (m : ℕ) (k : ℤ) → eqb (m * up k * 1) 0 ≡ eqb m 0
second m k = ap (λ (x : ℕ). eqb (m * up k * 1) x) (sym (zero-mul (down k))) ∙ zero-side m k

both : (a b : Bool) → not (a && (b || a)) ≡ not a
both true true = refl
both true false = refl
both false b = refl

-- c is what the code's test for a finite value answers
pub not_zero : (x : Float) (c : Bool) → c ≡ finite x → c ≡ true → ne x (of_bits binary64 0) ≡ regular x
unfolding ne regular of_bits
not_zero nan c e t = absurd (false≢true (sym e ∙ t))
not_zero (inf s) c e t = absurd (false≢true (sym e ∙ t))
not_zero (fin s m k) c e t =
    ap (λ (b : Bool). not (b && (beq s false || eqb (m * up k * 1) 0))) (zero-side m k)
    ∙ ap (λ (b : Bool). not (eqb m 0 && (beq s false || b))) (second m k)
    ∙ both (eqb m 0) (beq s false)

pub not_finite : (x : Float) (c : Bool) → c ≡ finite x → c ≡ false → c ≡ regular x
unfolding regular
not_finite nan c e f = f
not_finite (inf s) c e f = f
not_finite (fin s m k) c e f = absurd (true≢false (sym e ∙ f))
