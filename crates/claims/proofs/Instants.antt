-- The instants of a block that begins at an accepted time, in binary64 at a rate from 3,000 to 768,000: each sample's is before the block's end. Assumes nothing.
use mathlib.Core.Path.{◌≡◌, refl, sym, ap, ◌∙◌}
use mathlib.Core.Bool.{Bool, true, false, true≢false}
use Prim.Native.Nat.{ℕ, zero, suc, ◌+◌, ◌-◌, ◌*◌, ◌^◌, ◌≤◌, ◌<◌}
use native.Mathlib.Nat.{le_trans, le_of_lt, mul-pos, mul-le-mul_left, mul-le-mul_right, le_of_mul-le-mul_left, le_of_mul-le-mul_right, lt_of_mul-lt-mul_left, mul-lt-mul_of_pos_right, zero-lt-suc}
use native.Mathlib.Omega.{arith}
use lib.Dec.{T, lit<, lit≤}
use lib.Pow.{pow_mono, pow_pos}
use lib.IntN.{ℤ}
use lib.Ieee.{Float, nan, inf, fin, Format, binary64, up, down, round, sum, add, mul, lt, le, eq, fits, of_bits}
use lib.Ieee.Bits.{is_true}
use lib.Ieee.Exact.{HasValue}
use lib.Ieee.Fits.{up_pos}
use lib.Ieee.Order.{round_mono}
use lib.Ieee.Scale.{finite}
use borrow.Author.Tests.{ltb-false, leb-true, lt-ltb}
use Rattle.rounding.specs.Laws.{Within}
use Rattle.rounding.proofs.Error.{RoundedAny}
use Rattle.rounding.proofs.Operations.{Summed, add_value, add_is, add_units, mul_near_any}
use Rattle.rounding.proofs.Exact.{Significand, significand, whole_exact}
use Rattle.rounding.proofs.Compare.{eq_value, lt_at, le_at}
use Rattle.rounding.proofs.Sum.{Order, order, less, more, sum_alike, sum_less, sum_none}
use Rattle.rounding.proofs.Sum as places
use Rattle.rounding.specs.Rounding.{whole}
use Rattle.seconds.specs.Seconds.{float_zero, dt, block_seconds, instant, block_end}
use Rattle.player.specs.Block.{latest}
use Rattle.claims.proofs.Order.{eq_alike, eq_refl, lt_not_le}
use Rattle.claims.proofs.Position.{Elapsed}
use Rattle.claims.proofs.Units.{Lasts, sample_lasts, block_lasts, block_samples, roughly, by_one}

-- ---- An accepted time, up to 2 ^ 30 seconds. It may be -0: `plus` is the same without the sign, and adds and compares alike
pub record Time (t : Float) : Type 0 where
  pub plus : Float
  pub units : ℕ
  pub value : HasValue plus false units (2 ^ 1074)
  pub bound : units ≤ 2 ^ 30 * 2 ^ 1074
  pub same : eq t plus ≡ true
  pub sums : (y : Float) (b : ℕ) → HasValue y false b (2 ^ 1074) → add binary64 t y ≡ add binary64 plus y

latest_value : HasValue latest false (2 ^ 30) 1
latest_value = (refl, refl)

-- -0 + b / d is +0 + b / d
zero_sum : (f : Format) (b d : ℕ) → sum f true 0 false b d ≡ sum f false 0 false b d
zero_sum f b d = go (order 0 b) ∙ sym (sum_alike f false 0 b d)
  where
    left : (z : ℕ) → z - 0 ≡ 0 + z
    left z = omega arith

    none_left : 0 ≡ b → 0 ≡ 0 + b
    none_left e = omega arith

    go : Order 0 b → sum f true 0 false b d ≡ round f false (0 + b) d
    go (less l) = sum_less f true false 0 b d refl l ∙ ap (λ (z : ℕ). round f false z d) (left b)
    go (more l) = absurd (omega arith)
    go (places.none e) = sum_none f true false 0 b d refl e ∙ ap (λ (z : ℕ). round f false z d) (none_left e)

no_units : (s : Bool) (e : ℤ) (c : ℕ) → HasValue (fin s 0 e) s 0 c
no_units s e c = (refl, omega arith)

zero_adds : (e : ℤ) (y : Float) (b : ℕ) → HasValue y false b (2 ^ 1074) → add binary64 (fin true 0 e) y ≡ add binary64 (fin false 0 e) y
zero_adds e y b v =
    let u = 2 ^ 1074 in
    add_value binary64 (fin true 0 e) y true false 0 1 b u (lit< tt) (lit< tt) (no_units true e 1) v ∙ zero_sum binary64 (b * 1) (1 * u)
    ∙ sym (add_value binary64 (fin false 0 e) y false false 0 1 b u (lit< tt) (lit< tt) (no_units false e 1) v)

zero_time : (e : ℤ) → Time (fin true 0 e)
zero_time e = record {
  plus = fin false 0 e;
  units = 0;
  value = no_units false e (2 ^ 1074);
  bound = lit≤ tt;
  same = eq_value (fin true 0 e) (fin false 0 e) true false 0 1 0 1 (lit< tt) (lit< tt) (no_units true e 1) (no_units false e 1);
  sums = zero_adds e;
}

pub time_of_lem : (t : Float) → T (fits binary64 t) → finite t ≡ true → lt t float_zero ≡ false → lt latest t ≡ false → Time t
unfolding lt of_bits
time_of_lem nan p q h k = absurd (true≢false (sym q))
time_of_lem (inf s) p q h k = absurd (true≢false (sym q))
time_of_lem (fin true zero e) p q h k = zero_time e
time_of_lem (fin true (suc m) e) p q h k = absurd (true≢false (sym (lt-ltb 0 (suc m * up e * 1 + 0 * down e) (above (suc m * up e) (0 * down e) (mul-pos (zero-lt-suc m) (up_pos e)))) ∙ h))
  where
    above : (a b : ℕ) → 0 < a → 0 < a * 1 + b
    above a b l = omega arith
time_of_lem (fin false m e) p q h k =
    let d : Significand binary64 (fin false m e) false = significand binary64 (fin false m e) false (m * up e) (down e) p (refl, refl) in
    let X = d.q * 2 ^ d.j in
    let c = lt_at latest (fin false m e) (2 ^ 30) 1 X (2 ^ 1074) (lit< tt) (lit< tt) latest_value d.value in
    record {
      plus = fin false m e;
      units = X;
      value = d.value;
      bound = by_one X (2 ^ 30 * 2 ^ 1074) (ltb-false (2 ^ 30 * 2 ^ 1074) (X * 1) (sym c ∙ k));
      same = eq_refl (fin false m e) refl;
      sums = λ y b v. refl;
    }

-- ---- The arithmetic, with P for 2 ^ 53, Q for 2 ^ 149 and u for 2 ^ 1074: the block begins at t units, one sample takes s units and n samples take d = s * n
-- a sample takes 2 ^ -21 seconds or more
sample_long : (P R Q u s C : ℕ) → 0 < Q → R ≤ 768000 * Q → 768000 * C + 1 ≤ P → P * (1 * (Q * u)) ≤ P * (s * R) + 1 * (Q * u) → C * u ≤ P * s
sample_long P R Q u s C q hi big h =
    le_of_mul-le-mul_right {k = 768000 * Q} (omega (arith, mul-le-mul_left (P * s) hi, mul-le-mul_right (Q * u) big)) (mul-pos (lit< tt) q)

-- so a block's end is later than its time
later : (P u t s n d v : ℕ) → 1 ≤ n → d ≡ s * n → t ≤ 1073741824 * u → d ≤ u → 0 < u → 4294967296 * u ≤ P * s → P * (t + d) ≤ P * v + (t + d) → t < v
later P u t s n d v N e T D U long h =
    let m = mul-le-mul_left (P * s) N in
    lt_of_mul-lt-mul_left P (omega (arith, ap (λ (z : ℕ). P * z) e))

-- i samples are m units
multiple_near : (P u s i m : ℕ) → 0 < u → Within (2 * (i * s * u) + P * (1 * u)) (2 * (P * (m * (1 * u)))) (2 * (P * (i * s * u))) → 2 * (P * m) ≤ 2 * (P * (i * s)) + (2 * (i * s) + P)
multiple_near P u s i m U h = le_of_mul-le-mul_right {k = u} (omega arith) U

multiple_small : (P u z m : ℕ) → 0 < P → P ≤ u → z ≤ u → 2 * (P * m) ≤ 2 * (P * z) + (2 * z + P) → m ≤ 4 * u
multiple_small P u z m p small l h = le_of_mul-le-mul_left {k = P} (omega (arith, mul-le-mul_left P l, mul-le-mul_right u p)) p

-- the i-th instant, at w units, is before the end, at v
before : (P u t s n d i m v w : ℕ) → suc i ≤ n → d ≡ s * n → t ≤ 1073741824 * u → d ≤ u → P ≤ u → 0 < P → 4294967296 * u ≤ P * s
    → 2 * (P * m) ≤ 2 * (P * (i * s)) + (2 * (i * s) + P) → P * (t + d) ≤ P * v + (t + d) → P * w ≤ P * (t + m) + (t + m) → w < v
before P u t s n d i m v w N e T D small p long hm hv hw =
    let a = mul-le-mul_left (P * s) N in
    let b = mul-le-mul_left s N in
    let c : m ≤ 4 * u = multiple_small P u (i * s) m p small (omega arith) hm in
    lt_of_mul-lt-mul_left P (omega (arith, ap (λ (z : ℕ). P * z) e))

part : (s n d i u : ℕ) → i < n → d ≡ s * n → d ≤ u → i * s ≤ u
part s n d i u I e l = omega (arith, mul-le-mul_left s I)

part_fine : (z u M : ℕ) → 0 < u → z ≤ u → 2 ≤ M → z < M * (1 * u)
part_fine z u M U h m = omega (arith, mul-le-mul_right u m)

pieces : (d n u : ℕ) → 1500 * d ≤ n * u → n ≤ 1024 → d ≤ u
pieces d n u h N = omega (arith, mul-le-mul_right u N)

sum_fine : (t m u M : ℕ) → 0 < u → t ≤ 1073741824 * u → m ≤ 4 * u → 1073741829 ≤ M → t + m < M * u
sum_fine t m u M U h g l = omega (arith, mul-le-mul_right u l)

end_bound : (P t d v u : ℕ) → 0 < P → t ≤ 1073741824 * u → d ≤ u → P * v ≤ P * (t + d) + (t + d) → v ≤ 1152921504606846976 * u
end_bound P t d v u p h g k = let a = roughly P v (t + d) p k in omega arith

four : (d u : ℕ) → d ≤ u → d ≤ 4 * u
four d u h = omega arith

moved : (t t' d u : ℕ) → t ≤ t' → (t + d) * u ≤ (t' + d) * u
moved t t' d u h = mul-le-mul_right u (omega arith)

module _ (r : Float) (R : ℕ) (v : HasValue r false R (2 ^ 149)) (lo : 3000 * 2 ^ 149 ≤ R) (hi : R ≤ 768000 * 2 ^ 149) (k : ℕ) (K : k ≤ 10) where
  d : Lasts (block_seconds (2 ^ k) r) R (2 ^ k)
  d = block_lasts r R v lo hi k K

  d_small : d.units ≤ 2 ^ 1074
  d_small = pieces d.units (2 ^ k) (2 ^ 1074) d.brief (pow_mono K)

  -- the block that begins at an accepted time t ends at t + d, rounded
  ends : (t : Float) (h : Time t) → Summed binary64 (block_end (2 ^ k) t r) (h.units + d.units)
  unfolding block_end
  ends t h =
      rw (h.sums (block_seconds (2 ^ k) r) d.units d.value)
      (add_units binary64 h.plus (block_seconds (2 ^ k) r) h.units d.units h.value d.value
      (sum_fine h.units d.units (2 ^ 1074) (2 ^ 1023) (lit< tt) h.bound (four d.units (2 ^ 1074) d_small) (lit≤ tt)))

  -- ---- not negative, finite and far below f64::MAX: the laws of `Elapsed`
  pub end_elapsed : (t : Float) → Time t → Elapsed (block_end (2 ^ k) t r)
  end_elapsed t h =
      let s = ends t h in
      record { units = s.units; value = s.value; bound = end_bound (2 ^ 53) h.units d.units s.units (2 ^ 1074) (lit< tt) h.bound d_small s.near.0 }

  -- ---- the end is later than the time
  sample_units : ℕ
  sample_units = (sample_lasts r R v lo hi).units

  d_samples : d.units ≡ sample_units * 2 ^ k
  unfolding d sample_units
  d_samples = block_samples r R v lo hi k K

  long : 4294967296 * 2 ^ 1074 ≤ 2 ^ 53 * sample_units
  unfolding sample_units
  long = sample_long (2 ^ 53) R (2 ^ 149) (2 ^ 1074) (sample_lasts r R v lo hi).units 4294967296 (lit< tt) hi (lit≤ tt) (sample_lasts r R v lo hi).near.1

  pub end_later : (t : Float) → Time t → (lt t (block_end (2 ^ k) t r) ≡ true) × (le (block_end (2 ^ k) t r) t ≡ false)
  end_later t h =
      let y = block_end (2 ^ k) t r in
      let u = 2 ^ 1074 in
      let s = ends t h in
      let l = later (2 ^ 53) u h.units sample_units (2 ^ k) d.units s.units (pow_pos k) d_samples h.bound d_small (lit< tt) long s.near.1 in
      let e : lt t y ≡ true = (eq_alike t h.plus y h.same).below ∙ lt_at h.plus y h.units u s.units u (lit< tt) (lit< tt) h.value s.value ∙ lt-ltb (h.units * u) (s.units * u) (mul-lt-mul_of_pos_right l (lit< tt)) in
      (e, lt_not_le t y e)

  -- ---- the instant of a sample of the block is before its end
  module _ (t : Float) (h : Time t) (i : ℕ) (I : i < 2 ^ k) where
    -- the seconds since the block's time
    since : Float
    since = mul binary64 (whole i) (dt r)

    small : i * sample_units ≤ 2 ^ 1074
    small = part sample_units (2 ^ k) d.units i (2 ^ 1074) I d_samples d_small

    since_near : RoundedAny binary64 since (i * sample_units) (1 * 2 ^ 1074)
    unfolding since sample_units
    since_near =
        let s = sample_lasts r R v lo hi in
        mul_near_any binary64 (whole i) (dt r) i 1 s.units (2 ^ 1074) (lit< tt) (lit< tt) (whole_exact binary64 i (le_trans (le_of_lt I) (le_trans (pow_mono K) (lit≤ tt)))) s.value
        (part_fine (i * s.units) (2 ^ 1074) (2 ^ 1023) (lit< tt) small (lit≤ tt))

    since_bound : 2 * (2 ^ 53 * since_near.units) ≤ 2 * (2 ^ 53 * (i * sample_units)) + (2 * (i * sample_units) + 2 ^ 53)
    since_bound = multiple_near (2 ^ 53) (2 ^ 1074) sample_units i since_near.units (lit< tt) since_near.near

    instant_near : Summed binary64 (instant t r i) (h.units + since_near.units)
    unfolding instant since
    instant_near =
        rw (h.sums since since_near.units since_near.value)
        (add_units binary64 h.plus since h.units since_near.units h.value since_near.value
        (sum_fine h.units since_near.units (2 ^ 1074) (2 ^ 1023) (lit< tt) h.bound (multiple_small (2 ^ 53) (2 ^ 1074) (i * sample_units) since_near.units (lit< tt) (lit≤ tt) small since_bound) (lit≤ tt)))

    pub instant_before_end : lt (instant t r i) (block_end (2 ^ k) t r) ≡ true
    instant_before_end =
        let u = 2 ^ 1074 in
        let b = ends t h in
        let l = before (2 ^ 53) u h.units sample_units (2 ^ k) d.units i since_near.units b.units instant_near.units I d_samples h.bound d_small (lit≤ tt) (lit< tt) long since_bound b.near.1 instant_near.near.0 in
        lt_at (instant t r i) (block_end (2 ^ k) t r) instant_near.units u b.units u (lit< tt) (lit< tt) instant_near.value b.value ∙ lt-ltb (instant_near.units * u) (b.units * u) (mul-lt-mul_of_pos_right l (lit< tt))

  -- ---- a later block does not end before
  pub end_mono : (t t' : Float) → Time t → Time t' → le t t' ≡ true → le (block_end (2 ^ k) t r) (block_end (2 ^ k) t' r) ≡ true
  unfolding block_end
  end_mono t t' h h' l =
      let u = 2 ^ 1074 in
      let y = block_seconds (2 ^ k) r in
      let e : le h.plus h'.plus ≡ true = sym (eq_alike t h.plus h'.plus h.same).at_most ∙ sym (eq_alike t' h'.plus t h'.same).at_least ∙ l in
      let c : h.units * u ≤ h'.units * u = leb-true (h.units * u) (h'.units * u) (sym (le_at h.plus h'.plus h.units u h'.units u (lit< tt) (lit< tt) h.value h'.value) ∙ e) in
      rw (h.sums y d.units d.value, h'.sums y d.units d.value, add_is binary64 h.plus y h.units d.units h.value d.value, add_is binary64 h'.plus y h'.units d.units h'.value d.value)
      (is_true (le (round binary64 false (h.units + d.units) u) (round binary64 false (h'.units + d.units) u))
      (round_mono binary64 (h.units + d.units) u (h'.units + d.units) u (lit< tt) (lit< tt) (moved h.units h'.units d.units u (le_of_mul-le-mul_right c (lit< tt)))))
