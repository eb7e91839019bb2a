-- The code's factor is the definition's: entry × 2^(octaves + 10) is a whole number below 2^53, and over 2^40 it is entry × 2^octaves / 2^30. Assumes nothing.
use mathlib.Core.Path.{◌≡◌, refl, sym, ap, ◌∙◌, subst}
use mathlib.Core.Bool.{false}
use Prim.Native.Nat.{ℕ, suc, ◌+◌, ◌-◌, ◌*◌, ◌/◌, ◌%◌, ◌^◌, ◌≤◌, ◌<◌}
use native.Mathlib.Nat.{mul_assoc, mul_comm, mul-one, mul-pos, mul-le-mul_left, mul-lt-mul_of_pos_right, lt_of_lt_of_le}
use native.Mathlib.Omega.{arith}
use lib.Dec.{lit<, lit≤}
use lib.IntN.{ℤ, pos, negsuc}
use lib.Pow.{pow-add, pow_pos, pow_mono, shl_lt}
use lib.Ieee.{Float, fin, binary64, round, div, up, down, of_int}
use lib.Ieee.Exact.{HasValue, round_exact}
use lib.Ieee.Scale.{round_same}
use lib.Ieee.Fits.{down_pos}
use lib.Ieee.Back.{round_whole}
use borrow.Author.Tests.{ltb-false, leb-false}
use Rattle.rounding.proofs.Exact.{value_same}
use Rattle.rounding.proofs.Operations.{div_value}
use Rattle.detune.specs.Counted.{from_lowest}
use Rattle.detune.specs.Detune.{octaves, above, bad_cents}

-- ---- octaves counted from 10 below, and the cents above them
pub limit : (z : ℤ) → bad_cents z ≡ false → from_lowest z ≤ 24000
unfolding bad_cents
limit (pos n) h = let t = ltb-false 12000 n h in omega (arith, t)
limit (negsuc n) h = omega arith

pub index : (z : ℤ) → bad_cents z ≡ false → from_lowest z % 1200 ≡ above z
unfolding bad_cents above
index (pos n) h = omega arith
index (negsuc n) h = let t = leb-false 12000 n h in omega (arith, t)

pub under : (z : ℤ) → above z < 1200
unfolding above
under (pos n) = omega arith
under (negsuc n) = omega arith

eighth : (e a b : ℕ) → e * 2 ^ a * (2 ^ 30 * 2 ^ b) ≡ e * 2 ^ (a + b) * 2 ^ 30
eighth e a b = rw (pow-add 2 a b) (mul_assoc e (2 ^ a) (2 ^ 30 * 2 ^ b) ∙ ap (λ (x : ℕ). e * x) (ap (λ (x : ℕ). 2 ^ a * x) (mul_comm (2 ^ 30) (2 ^ b)) ∙ sym (mul_assoc (2 ^ a) (2 ^ b) (2 ^ 30))) ∙ sym (mul_assoc e (2 ^ a * 2 ^ b) (2 ^ 30)))

-- the two fractions are the same
pub fraction : (z : ℤ) (e : ℕ) → bad_cents z ≡ false → e * 2 ^ (from_lowest z / 1200) * (2 ^ 30 * down (octaves z)) ≡ e * up (octaves z) * 2 ^ 40
unfolding bad_cents octaves
fraction (pos n) e h =
    let p = n / 1200 in
    let q : (12000 + n) / 1200 ≡ p + 10 = omega arith in
    let w : e * 2 ^ (p + 10) ≡ e * 2 ^ p * 1024 = ap (λ (x : ℕ). e * x) (pow-add 2 p 10) ∙ sym (mul_assoc e (2 ^ p) 1024) in
    rw (q, w) (omega arith)
fraction (negsuc n) e h =
    let t = leb-false 12000 n h in
    let q : (11999 - n) / 1200 + suc (n / 1200) ≡ 10 = omega (arith, t) in
    eighth e ((11999 - n) / 1200) (suc (n / 1200)) ∙ rw q (omega arith)

-- ---- the code's quotient
module _ (z : ℤ) (e : ℕ) (good : bad_cents z ≡ false) (small : e < 2 ^ 31) where
  abbrev scaled : ℕ
  scaled = e * 2 ^ (from_lowest z / 1200)

  pub below : scaled < 2 ^ 51
  below =
      let t = limit z good in
      let q : from_lowest z / 1200 ≤ 20 = omega (arith, t) in
      lt_of_lt_of_le (mul-lt-mul_of_pos_right small (pow_pos (from_lowest z / 1200))) (mul-le-mul_left (2 ^ 31) (pow_mono q))

  pub whole : HasValue (of_int binary64 (pos scaled)) false scaled 1
  unfolding of_int
  whole = round_whole binary64 false scaled (let t = below in omega (arith, t))

  pub quotient : div binary64 (of_int binary64 (pos scaled)) (fin false 1 (pos 40)) ≡ round binary64 false (e * up (octaves z)) (2 ^ 30 * down (octaves z))
  quotient =
      div_value binary64 (of_int binary64 (pos scaled)) (fin false 1 (pos 40)) false false scaled 1 (2 ^ 40) 1 (lit< tt) (pow_pos 40) whole (refl, refl)
      ∙ round_same binary64 false (scaled * 1) (2 ^ 40 * 1) (e * up (octaves z)) (2 ^ 30 * down (octaves z)) (pow_pos 40) (mul-pos (pow_pos 30) (down_pos (octaves z)))
      (rw (mul-one scaled) (fraction z e good))

  -- nothing is rounded
  pub exact : HasValue (round binary64 false (e * up (octaves z)) (2 ^ 30 * down (octaves z))) false (e * up (octaves z)) (2 ^ 30 * down (octaves z))
  exact =
      let same : round binary64 false scaled (2 ^ 40) ≡ round binary64 false (e * up (octaves z)) (2 ^ 30 * down (octaves z)) =
      round_same binary64 false scaled (2 ^ 40) (e * up (octaves z)) (2 ^ 30 * down (octaves z)) (pow_pos 40) (mul-pos (pow_pos 30) (down_pos (octaves z))) (fraction z e good) in
      value_same (round binary64 false (e * up (octaves z)) (2 ^ 30 * down (octaves z))) false scaled (2 ^ 40) (e * up (octaves z)) (2 ^ 30 * down (octaves z)) (pow_pos 40)
      (subst (λ (x : Float). HasValue x false scaled (2 ^ 40)) same
      (round_exact binary64 false scaled (2 ^ 40) scaled 1034 (pow_pos 40) (let t = below in omega (arith, t))
      (lt_of_lt_of_le (shl_lt 51 1034 below) (pow_mono {i = 1085} {j = 2098} (lit≤ tt))) (sym (mul_assoc scaled (2 ^ 1034) (2 ^ 40)))))
      (fraction z e good)
