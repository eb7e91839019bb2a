-- The pattern without its sign's bit is that of the magnitude, in a format given as a parameter; and the sign of an f64's pattern in an f32's. Assumes nothing.
use Rattle.std.proofs.Common.{◌≡◌, ℕ, zero, suc, ◌+◌, ◌*◌, ◌/◌, ◌%◌, ◌^◌, ◌<◌, ◌≤◌, Bool, true, false, cond, not, T, leb, ℤ, sym, refl, ap, ◌∙◌, subst, mod-eq_of_lt, arith, leb→le}
use native.Mathlib.Nat.{add-mod_left}
use lib.Dec.{nleb→lt}
use lib.Ieee.{Float, nan, inf, fin, Format, binary32, binary64, top, fits, is_nan, nan_bits, of_bits, to_bits}
use lib.Ieee.Bits.{of_bits-to_bits, to_bits-lt}
use Rattle.rounding.specs.Fields.{negative}
use Rattle.rounding.specs.Rounding.{magnitude}
use Rattle.rounding.proofs.Read.{no_nan_bits}

pub magnitude_fits : (f : Format) (x : Float) → T (fits f x) → T (fits f (magnitude x))
unfolding fits magnitude
magnitude_fits f nan h = h
magnitude_fits f (inf s) h = tt
magnitude_fits f (fin s zero e) h = h
magnitude_fits f (fin s (suc m) e) h = h

magnitude_no_nan : (x : Float) → T (not (is_nan x)) → T (not (is_nan (magnitude x)))
unfolding is_nan magnitude
magnitude_no_nan nan h = h
magnitude_no_nan (inf s) h = tt
magnitude_no_nan (fin s m e) h = tt

negative_fits : (f : Format) (m : ℕ) (e : ℤ) → T (fits f (fin false m e)) → T (fits f (fin true m e))
unfolding fits
negative_fits f zero e h = h
negative_fits f (suc m) e h = h

top_bit : (f : Format) (m : ℕ) (e : ℤ) → to_bits f (fin true m e) ≡ top f + to_bits f (fin false m e)
unfolding to_bits
top_bit f m e = omega arith

below_top : (t a b : ℕ) → a ≡ t + b → a < 2 * t → b < t
below_top t a b e l = omega arith

low_bits : (f : Format) (m : ℕ) (e : ℤ) → T (fits f (fin false m e)) → to_bits f (fin false m e) < top f
low_bits f m e h = below_top (top f) (to_bits f (fin true m e)) (to_bits f (fin false m e)) (top_bit f m e) (to_bits-lt f (fin true m e) (negative_fits f m e h))

cut_top : (t a b : ℕ) → a ≡ t + b → b < t → a % t ≡ b
cut_top t a b e l = ap (λ (x : ℕ). x % t) e ∙ add-mod_left t b ∙ mod-eq_of_lt l

inf_pattern : (f : Format) (s : Bool) → to_bits f (inf s) % top f ≡ to_bits f (inf false)
unfolding to_bits
inf_pattern binary32 true = refl
inf_pattern binary32 false = refl
inf_pattern binary64 true = refl
inf_pattern binary64 false = refl

pub low_pattern : (f : Format) (x : Float) → T (fits f x) → T (not (is_nan x)) → to_bits f x % top f ≡ to_bits f (magnitude x)
unfolding is_nan magnitude
low_pattern f nan h n = absurd n
low_pattern f (inf s) h n = inf_pattern f s
low_pattern f (fin true m e) h n = cut_top (top f) (to_bits f (fin true m e)) (to_bits f (fin false m e)) (top_bit f m e) (low_bits f m e (magnitude_fits f (fin true m e) h))
low_pattern f (fin false m e) h n = mod-eq_of_lt (low_bits f m e h)

-- what `magnitude` and `magnitude_f32` owe
pub low_no_nan : (f : Format) (x : Float) → T (fits f x) → T (not (is_nan x)) → T (not (nan_bits f (to_bits f x % top f)))
low_no_nan f x h n = subst (λ (b : ℕ). T (not (nan_bits f b))) (sym (low_pattern f x h n)) (no_nan_bits f (magnitude x) (magnitude_fits f x h) (magnitude_no_nan x n))

pub of_low : (f : Format) (x : Float) → T (fits f x) → T (not (is_nan x)) → of_bits f (to_bits f x % top f) ≡ magnitude x
of_low f x h n = ap (of_bits f) (low_pattern f x h n) ∙ of_bits-to_bits f (magnitude x) (magnitude_fits f x h)

pub of_nan : (x : Float) → x ≡ nan → x ≡ magnitude x
unfolding magnitude
of_nan x e = subst (λ (y : Float). y ≡ magnitude y) (sym e) refl

-- the top bit of an f64's pattern, as that of an f32's
pub sign_bit : (b : ℕ) → b < 2 ^ 64 → b / 2 ^ 63 * 0x8000_0000 ≡ cond (negative binary64 b) 0x8000_0000 0
sign_bit b h = go (leb (2 ^ 63) b) (leb→le (2 ^ 63) b) (nleb→lt (2 ^ 63) b)
  where
    go : (t : Bool) → (T t → 2 ^ 63 ≤ b) → (T (not t) → b < 2 ^ 63) → b / 2 ^ 63 * 0x8000_0000 ≡ cond t 0x8000_0000 0
    go true p q = let l = p tt in omega arith
    go false p q = let l = q tt in omega arith
