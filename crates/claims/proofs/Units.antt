-- The seconds of one sample and of a block of n samples, in binary64 at a rate r from 3,000 to 768,000, and their error. n is a power of two. Assumes nothing.
use mathlib.Core.Path.{◌≡◌, refl}
use mathlib.Core.Bool.{false}
use Prim.Native.Nat.{ℕ, ◌+◌, ◌*◌, ◌^◌, ◌≤◌, ◌<◌}
use native.Mathlib.Nat.{le_trans, lt_of_lt_of_le, mul-one, mul-le-mul_left, mul-le-mul_right, le_of_mul-le-mul_left, le_of_mul-le-mul_right, mul-lt-mul_of_pos_right}
use native.Mathlib.Omega.{arith}
use lib.Dec.{T, lit<, lit≤}
use lib.Pow.{pow_mono}
use lib.Ieee.{Float, fin, binary32, binary64, div, le, fits, of_bits, of_int}
use lib.IntN.{pos}
use lib.Ieee.Exact.{HasValue}
use lib.Ieee.Fits.{and_l, and_r, div-fits}
use lib.Ieee.Positive.{num, den, positive, den_pos, own_value, values_of_le, between}
use Rattle.rounding.specs.Laws.{Within, Rounded}
use Rattle.rounding.proofs.Operations.{div_near}
use Rattle.rounding.proofs.Exact.{Significand, significand, two_values, mul-pow, whole_exact}
use Rattle.buffer.specs.Limits.{valid_rate}
use Rattle.rounding.specs.Rounding.{whole}
use Rattle.seconds.specs.Seconds.{float_zero, one, dt, block_seconds}

pub one_value : HasValue one false 1 1
unfolding of_bits
one_value = (refl, refl)

pub none_value : HasValue float_zero false 0 1
unfolding of_bits
none_value = (refl, refl)

pub none_units : HasValue float_zero false 0 (2 ^ 1074)
unfolding of_bits
none_units = (refl, refl)

-- ---- a rate that a player can be made for: R of binary32's units, 2 ^ -149
pub record Rate (r : Float) : Type 0 where
  pub units : ℕ
  pub value : HasValue r false units (2 ^ 149)
  pub low : 3000 * 2 ^ 149 ≤ units
  pub high : units ≤ 768000 * 2 ^ 149

-- k times n / d, where n / d is a / c
at_most : (k n d a c : ℕ) → 0 < d → n * c ≡ a * d → n ≤ k * d → a ≤ k * c
at_most k n d a c D e h = le_of_mul-le-mul_right {k = d} (omega (arith, mul-le-mul_right c h)) D

at_least : (k n d a c : ℕ) → 0 < d → n * c ≡ a * d → k * d ≤ n → k * c ≤ a
at_least k n d a c D e h = le_of_mul-le-mul_right {k = d} (omega (arith, mul-le-mul_right c h)) D

pub rate_of : (r : Float) → T (fits binary32 r) → T (valid_rate r) → Rate r
unfolding valid_rate of_int
rate_of r f t =
    let lowest = fin false 375 (pos 3) in
    let highest = fin false 375 (pos 11) in
    let l : T (le lowest r) = and_l (le lowest r) (le r highest) t in
    let h : T (le r highest) = and_r (le lowest r) (le r highest) t in
    let p : T (positive r) = between lowest r highest tt tt l h in
    let v = own_value r p in
    let d : Significand binary32 r false = significand binary32 r false (num r) (den r) f v in
    let R = d.q * 2 ^ d.j in
    let e : num r * 2 ^ 149 ≡ R * den r = two_values r false false (num r) (den r) R (2 ^ 149) v d.value in
    record {
      units = R;
      value = d.value;
      low = at_least 3000 (num r) (den r) R (2 ^ 149) (den_pos r) e (rw mul-one at (values_of_le lowest r 3000 1 (num r) (den r) tt p (refl, refl) v l));
      high = at_most 768000 (num r) (den r) R (2 ^ 149) (den_pos r) e (rw mul-one at (values_of_le r highest (num r) (den r) 768000 1 p tt v (refl, refl) h));
    }

-- ---- The arithmetic, with P for 2 ^ 53, Q for 2 ^ 149 and u for 2 ^ 1074. W = Q * u is one frame, 1 / r is i units
pub roughly : (P x y : ℕ) → 0 < P → P * x ≤ P * y + y → x ≤ 2 * y
roughly P x y p h = le_of_mul-le-mul_left {k = P} (omega (arith, mul-le-mul_right y p)) p

one_near : (P R Q u i : ℕ) → Within (1 * Q * u) (P * (i * (R * 1))) (P * (1 * Q * u)) → Within (1 * (Q * u)) (P * (i * R)) (P * (1 * (Q * u)))
one_near P R Q u i h = omega arith

block_near : (P R W i n : ℕ) → Within (1 * W) (P * (i * R)) (P * (1 * W)) → Within (n * W) (P * (i * n * R)) (P * (n * W))
block_near P R W i n h = omega (arith, mul-le-mul_left n h.0, mul-le-mul_left n h.1)

-- at 3,000 frames in a second and more, n samples take at most n / 1,500 seconds
short : (P R Q u d n : ℕ) → 0 < P → 0 < Q → 3000 * Q ≤ R → P * (d * R) ≤ P * (n * (Q * u)) + n * (Q * u) → 1500 * d ≤ n * u
short P R Q u d n p q lo h = le_of_mul-le-mul_right {k = Q} (omega (arith, mul-le-mul_left d lo, roughly P (d * R) (n * (Q * u)) p h)) q

-- ---- the side conditions: nothing here is near either end of binary64's range
one_normal : (q R Q u : ℕ) → R ≤ 768000 * Q → q * 768000 ≤ u → q * (R * 1) ≤ 1 * Q * u
one_normal q R Q u hi h = omega (arith, mul-le-mul_left q hi, mul-le-mul_right Q h)

pub quotient_fine : (b M R Q : ℕ) → 0 < Q → 3000 * Q ≤ R → b < M → b * Q < M * (R * 1)
quotient_fine b M R Q q lo h = lt_of_lt_of_le (mul-lt-mul_of_pos_right h q) (mul-le-mul_left M (below R Q lo))
  where
    below : (a c : ℕ) → 3000 * c ≤ a → c ≤ a * 1
    below a c l = omega arith

pub by_one : (x y : ℕ) → x * 1 ≤ y → x ≤ y
by_one x y h = omega arith

pub rate_pos : (R Q : ℕ) → 0 < Q → 3000 * Q ≤ R → 0 < R
rate_pos R Q q lo = omega arith

scaled_fine : (i n u M : ℕ) → 0 < u → 1500 * i ≤ 1 * u → n ≤ 1024 → 2 ≤ M → i * n < M * u
scaled_fine i n u M U h N m = omega (arith, mul-le-mul_left i N, mul-le-mul_right u m)

-- ---- x seconds are n samples, with the relative error of one rounding; counted in whole multiples of 2 ^ -1223
pub record Lasts (x : Float) (R n : ℕ) : Type 0 where
  pub units : ℕ
  pub value : HasValue x false units (2 ^ 1074)
  pub near : Within (n * 2 ^ 1223) (2 ^ 53 * (units * R)) (2 ^ 53 * (n * 2 ^ 1223))
  pub brief : 1500 * units ≤ n * 2 ^ 1074

module _ (r : Float) (R : ℕ) (v : HasValue r false R (2 ^ 149)) (lo : 3000 * 2 ^ 149 ≤ R) (hi : R ≤ 768000 * 2 ^ 149) where
  pub sample_lasts : Lasts (dt r) R 1
  unfolding dt
  sample_lasts =
      let d : Rounded binary64 (div binary64 one r) (1 * 2 ^ 149) (R * 1) =
      div_near binary64 one r 1 1 R (2 ^ 149) (lit< tt) (lit< tt) one_value v (rate_pos R (2 ^ 149) (lit< tt) lo)
      (one_normal (2 ^ 52) R (2 ^ 149) (2 ^ 1074) hi (lit≤ tt)) (quotient_fine 1 (2 ^ 1023) R (2 ^ 149) (lit< tt) lo (lit< tt)) in
      let near = one_near (2 ^ 53) R (2 ^ 149) (2 ^ 1074) d.units d.near in
      record { units = d.units; value = d.value; near = near; brief = short (2 ^ 53) R (2 ^ 149) (2 ^ 1074) d.units 1 (lit< tt) (lit< tt) lo near.0 }

  sample_fits : T (fits binary64 (dt r))
  unfolding dt
  sample_fits = div-fits binary64 one r

  -- n = 2 ^ k samples, up to 1,024: times a power of two is exact
  pub block_lasts : (k : ℕ) → k ≤ 10 → Lasts (block_seconds (2 ^ k) r) R (2 ^ k)
  unfolding block_seconds
  block_lasts k K =
      let n = 2 ^ k in
      let N : n ≤ 2 ^ 10 = pow_mono K in
      let s = sample_lasts in
      let i = s.units in
      let near = block_near (2 ^ 53) R (2 ^ 1223) i n s.near in
      record {
        units = i * n;
        value =
            mul-pow binary64 (dt r) (whole n) false i k sample_fits s.value (whole_exact binary64 n (le_trans N (lit≤ tt)))
            (scaled_fine i n (2 ^ 1074) (2 ^ 1024) (lit< tt) s.brief N (lit≤ tt));
        near = near;
        brief = short (2 ^ 53) R (2 ^ 149) (2 ^ 1074) (i * n) n (lit< tt) (lit< tt) lo near.0;
      }

  pub block_samples : (k : ℕ) (K : k ≤ 10) → (block_lasts k K).units ≡ sample_lasts.units * 2 ^ k
  unfolding block_lasts
  block_samples k K = refl
