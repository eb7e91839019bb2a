-- Whole numbers as f64, and their quotient by full scale as f32: exact as an f64, so rounded once. Assumes nothing.
use Rattle.std.proofs.Common.{◌≡◌, ℕ, suc, ◌+◌, ◌-◌, ◌*◌, ◌^◌, ◌<◌, ◌≤◌, Bool, true, false, cond, T, leb, ltb, ℤ, pos, negsuc, sym, refl, ap, ◌∙◌, arith, mul-one, mul_assoc, pow_pos, pow-add, lt_of_lt_of_le, lt_of_le_of_lt, le_trans, mul-le-mul_left, mul-lt-mul_of_pos_right}
use Rattle.std.proofs.Math.Nat.{pow-le-pow_right}
use borrow.Author.Tests.{ltb-true, ltb-false, leb-false}
use lib.Dec.{le→leb, lt→ltb, lit<, lit≤}
use lib.Ieee.{in_float, Float, Format, binary32, binary64, prec, emax, low, unlike, minus, round, div, of_int, to_bits}
use lib.Ieee.Exact.{HasValue, round_exact}
use lib.Ieee.Back.{round_whole}
use Rattle.rounding.specs.Rounding.{convert, narrow}
use Rattle.rounding.proofs.Exact.{whole_exact}
use Rattle.rounding.proofs.Operations.{div_value}
use Rattle.rounding.proofs.Read.{convert_value}
use Rattle.pcm.specs.WholeNumbers.{size, full, signed, whole, level, sample}
use Rattle.pcm.specs.Statement.{IsQuotient, ExactSamples}
use Rattle.pcm.specs.declared.Bits.{Bits}
use Rattle.pcm.specs.declared.Bits.TheVariants as bits

-- ---- a whole number of the format's digits over a power of two up to 2 ^ 31 is a value of the format
split : (f : Format) (k : ℕ) → k ≤ 31 → 2 ^ (low f - k) * 2 ^ k ≡ 2 ^ low f
split binary32 k h = let e : 149 - k + k ≡ 149 = omega arith in sym (pow-add 2 (149 - k) k) ∙ ap (λ (j : ℕ). 2 ^ j) e
split binary64 k h = let e : 1074 - k + k ≡ 1074 = omega arith in sym (pow-add 2 (1074 - k) k) ∙ ap (λ (j : ℕ). 2 ^ j) e

under : (n p i j : ℕ) {top : ℕ} → n < p → i ≤ j → p * 2 ^ j ≤ top → n * 2 ^ i < top
under n p i j h l room = lt_of_lt_of_le (mul-lt-mul_of_pos_right h (pow_pos i)) (le_trans (mul-le-mul_left p (pow-le-pow_right (lit< tt) l)) room)

bounded : (f : Format) (n k : ℕ) → n < 2 ^ prec f → n * 2 ^ (low f - k) < 2 ^ (low f + suc (emax f))
bounded binary32 n k h = under n (2 ^ 24) (149 - k) 149 h (omega arith) (lit≤ tt)
bounded binary64 n k h = under n (2 ^ 53) (1074 - k) 1074 h (omega arith) (lit≤ tt)

exact : (f : Format) (s : Bool) (n k : ℕ) → n < 2 ^ prec f → k ≤ 31 → HasValue (round f s n (2 ^ k)) s n (2 ^ k)
exact f s n k small h =
    round_exact f s n (2 ^ k) n (low f - k) (pow_pos k) small (bounded f n k small)
    (ap (λ (z : ℕ). n * z) (sym (split f k h)) ∙ sym (mul_assoc n (2 ^ (low f - k)) (2 ^ k)))

-- ---- so a quotient as an f64, narrowed, is the fraction rounded once
own_sign : (s : Bool) → unlike s false ≡ s
own_sign true = refl
own_sign false = refl

quotient : (s : Bool) (n k : ℕ) (x y : Float) → n < 2 ^ 53 → k ≤ 31 → HasValue x s n 1 → HasValue y false (2 ^ k) 1
    → narrow (div binary64 x y) ≡ to_bits binary32 (round binary32 s n (2 ^ k))
unfolding narrow
quotient s n k x y small h v w =
    let e : div binary64 x y ≡ round binary64 s n (2 ^ k) =
    div_value binary64 x y s false n 1 (2 ^ k) 1 (lit< tt) (pow_pos k) v w ∙ rw (own_sign s, mul-one, mul-one) refl in
    ap (to_bits binary32) (ap (convert binary32) e ∙ convert_value binary32 (round binary64 s n (2 ^ k)) s n (2 ^ k) (pow_pos k) (exact binary64 s n k small h))

-- ---- the size of a whole number
abbrev size_of : ℤ → ℕ
size_of (pos n) = n
size_of (negsuc n) = suc n

minus_size : (v w : ℕ) → v < 2 ^ 32 → w ≤ 2 ^ 32 → size_of (minus v w) ≤ 2 ^ 32
minus_size v w h l = go (leb w v) refl
  where
    go : (t : Bool) → leb w v ≡ t → size_of (cond t (pos (v - w)) (negsuc (w - suc v))) ≤ 2 ^ 32
    go true e = omega arith
    go false e = omega (arith, leb-false w v e)

signed_size : (h v : ℕ) → v < 2 ^ 32 → 2 * h ≤ 2 ^ 32 → size_of (signed h v) ≤ 2 ^ 32
unfolding signed
signed_size h v small l = go (ltb v h)
  where
    go : (t : Bool) → size_of (cond t (pos v) (minus v (2 * h))) ≤ 2 ^ 32
    go true = omega arith
    go false = minus_size v (2 * h) small l

scale : (k : ℕ) → k ≤ 31 → HasValue (of_int binary64 (pos (2 ^ k))) false (2 ^ k) 1
scale k h = whole_exact binary64 (2 ^ k) (le_trans (pow-le-pow_right (lit< tt) h) (lit≤ tt))

sizes : (b : Bits) (v : ℕ) → v < 2 ^ 32 → size_of (whole b v) ≤ 2 ^ 32
unfolding whole
sizes bits.Eight v h = minus_size v 128 h (lit≤ tt)
sizes bits.Sixteen v h = signed_size 32768 v h (lit≤ tt)
sizes bits.TwentyFour v h = signed_size 8388608 v h (lit≤ tt)
sizes bits.ThirtyTwo v h = signed_size 2147483648 v h (lit≤ tt)

-- ---- of a whole number of 32 digits at most the quotient is the sample
leveled : (z : ℤ) (k : ℕ) → size_of z ≤ 2 ^ 32 → k ≤ 31 → narrow (div binary64 (of_int binary64 z) (of_int binary64 (pos (2 ^ k)))) ≡ to_bits binary32 (level z (2 ^ k))
unfolding level of_int
leveled (pos n) k small h = quotient false n k (of_int binary64 (pos n)) (of_int binary64 (pos (2 ^ k))) (omega arith) h (whole_exact binary64 n (omega arith)) (scale k h)
leveled (negsuc n) k small h =
    quotient true (suc n) k (of_int binary64 (negsuc n)) (of_int binary64 (pos (2 ^ k))) (omega arith) h (round_whole binary64 true (suc n) (omega arith)) (scale k h)

pub kept : (b : Bits) (v : ℕ) → v < 2 ^ 32 → narrow (div binary64 (of_int binary64 (whole b v)) (of_int binary64 (pos (full b)))) ≡ sample b v
unfolding whole sample
kept bits.Eight v h = leveled (minus v 128) 7 (sizes bits.Eight v h) (lit≤ tt)
kept bits.Sixteen v h = leveled (signed 32768 v) 15 (sizes bits.Sixteen v h) (lit≤ tt)
kept bits.TwentyFour v h = leveled (signed 8388608 v) 23 (sizes bits.TwentyFour v h) (lit≤ tt)
kept bits.ThirtyTwo v h = leveled (signed 2147483648 v) 31 (sizes bits.ThirtyTwo v h) (lit≤ tt)

counts : (z : ℤ) → size_of z ≤ 2 ^ 32 → T (in_float binary64 z)
unfolding in_float
counts (pos n) h = le→leb n (2 ^ 53) (omega arith)
counts (negsuc n) h = lt→ltb n (2 ^ 53) (omega arith)

pub counted : (b : Bits) (v : ℕ) → v < 2 ^ 32 → T (in_float binary64 (whole b v))
counted b v h = counts (whole b v) (sizes b v h)

-- ---- of up to 24 bits the sample is exact
minus_within : (h v : ℕ) → v < 2 * h → size_of (minus v h) ≤ h
minus_within h v below = go (leb h v) refl
  where
    go : (t : Bool) → leb h v ≡ t → size_of (cond t (pos (v - h)) (negsuc (h - suc v))) ≤ h
    go true e = omega arith
    go false e = omega (arith, leb-false h v e)

signed_within : (h v : ℕ) → v < 2 * h → size_of (signed h v) ≤ h
unfolding signed
signed_within h v below = go (ltb v h) refl
  where
    past : (t : Bool) → leb (2 * h) v ≡ t → h ≤ v → size_of (cond t (pos (v - 2 * h)) (negsuc (2 * h - suc v))) ≤ h
    past true e l = omega arith
    past false e l = omega arith

    go : (t : Bool) → ltb v h ≡ t → size_of (cond t (pos v) (minus v (2 * h))) ≤ h
    go true e = omega (arith, ltb-true v h e)
    go false e = past (leb (2 * h) v) refl (ltb-false v h e)

exact_level : (z : ℤ) (k : ℕ) → size_of z < 2 ^ 24 → k ≤ 31 → IsQuotient (level z (2 ^ k)) z (2 ^ k)
unfolding level
exact_level (pos n) k small h = exact binary32 false n k small h
exact_level (negsuc n) k small h = exact binary32 true (suc n) k small h

of_word : (b : Bits) (word : ℕ) → size b ≤ 3 → word < 2 ^ (8 * size b) → IsQuotient (level (whole b word) (full b)) (whole b word) (full b)
unfolding whole
of_word bits.Eight v few h = exact_level (minus v 128) 7 (lt_of_le_of_lt (minus_within 128 v h) (lit< tt)) (lit≤ tt)
of_word bits.Sixteen v few h = exact_level (signed 32768 v) 15 (lt_of_le_of_lt (signed_within 32768 v h) (lit< tt)) (lit≤ tt)
of_word bits.TwentyFour v few h = exact_level (signed 8388608 v) 23 (lt_of_le_of_lt (signed_within 8388608 v h) (lit< tt)) (lit≤ tt)
of_word bits.ThirtyTwo v few h = absurd (not_three few)
  where
    not_three : 4 ≤ 3 → ⊥
    not_three h = omega arith

pub exact_samples : ExactSamples
unfolding whole signed
exact_samples = record { exact = of_word; greatest = of_word bits.TwentyFour 0x7F_FFFF (lit≤ tt) (lit< tt); least = of_word bits.TwentyFour 0x80_0000 (lit≤ tt) (lit< tt) }
