-- The fused sum close to a tie, narrowed (`Tied`): in units of a common place it is a whole number, whose digits are rounded to those of an f64, and then of an f32. Assumes nothing.
use Rattle.std.proofs.Common.{◌≡◌, ℕ, ◌+◌, ◌-◌, ◌*◌, ◌/◌, ◌%◌, ◌^◌, ◌<◌, ◌≤◌, min, Bool, true, false, cond, not, T, sym, ap, ◌∙◌, subst, inl, inr, mul-le-mul_right, add-mul, lt_of_mul-lt-mul_right, mul-pos, le_of_mul-le-mul_right, arith, pow_pos, pow-add}
use native.Mathlib.Nat.{eq_of_mul-eq-mul_right}
use lib.Ieee.{Float, binary64, unlike, round, add, mul, fits, is_nan, to_bits}
use lib.Ieee.Nearest.{closest}
use lib.Ieee.Scale.{round_same}
use Rattle.rounding.specs.Fields.{digits, place, negative, Full}
use Rattle.rounding.specs.Laws.{Within}
use Rattle.rounding.specs.Rounding.{narrow}
use Rattle.fused.specs.Fused.{fma}
use Rattle.fused.specs.Tied.{Beside, Tied, Total, twice_rounded}
use Rattle.rounding.proofs.Closest.{closest_near}
use Rattle.rounding.proofs.Pattern.{pattern, closest_le}
use Rattle.rounding.proofs.Read.{digits_lt, digits_full}
use Rattle.rounding.proofs.Single.{pat, high, whole_pattern}
use Rattle.rounding.proofs.Sum.{mul_sub_r}
use Rattle.fused.proofs.Twice.{Once, once_under, narrow_round, units_of, fused_once}
use Rattle.fused.proofs.Untied.{digits_are, Parts, parts}

-- ---- a common unit
-- U times m and c add up to X: so X is U times their sum
record Units (p q : Bool) (m c X U : ℕ) : Type 0 where
  e : ℕ
  is : X ≡ e * U
  total : Total p q m c e

difference : (X m c U : ℕ) → 0 < U → X + m * U ≡ c * U → (X ≡ (c - m) * U) × (c - m + m ≡ c)
difference X m c U pos h =
    let l : m ≤ c = le_of_mul-le-mul_right {k = U} (omega arith) pos in
    let d = mul_sub_r c m U in
    (omega arith, omega arith)

in_units : (p q : Bool) (m c X U : ℕ) → 0 < U → Total p q (m * U) (c * U) X → Units p q m c X U
in_units false false m c X U pos h = record { e = m + c; is = let d = add-mul m c U in omega arith; total = omega arith }
in_units true false m c X U pos h = let d = difference X m c U pos (omega arith) in let i = d.1 in record { e = c - m; is = d.0; total = omega arith }
in_units false true m c X U pos h = let d = difference X c m U pos (omega arith) in let i = d.1 in record { e = m - c; is = d.0; total = omega arith }
in_units true true m c X U pos h =
    let a : m * U ≡ 0 * U = omega arith in
    let b : c * U ≡ 0 * U = omega arith in
    let i : m ≡ 0 = eq_of_mul-eq-mul_right U pos m 0 a in
    let j : c ≡ 0 = eq_of_mul-eq-mul_right U pos c 0 b in
    record { e = 0; is = omega arith; total = omega arith }

-- the terms: X is 2 ^ (a + b + 29), for the places a and b
product_units : (d b A B h u X : ℕ) → X ≡ A * B * h → d * A * (b * h * B) * u ≡ d * b * (X * u)
product_units d b A B h u X e = omega (arith, ap (λ (z : ℕ). d * b * u * z) e)

term_units : (d C I u X : ℕ) → X * I ≡ C * u → d * C * (u * u) ≡ d * I * (X * u)
term_units d C I u X e = omega (arith, ap (λ (z : ℕ). d * u * z) e)

near_units : (d K J U D e X : ℕ) → K * D ≡ J * U → X ≡ e * U → 0 < U → Within (128 * (K * D)) X (d * K * D) → Within (128 * J) e (d * J)
near_units d K J U D e X f g pos w =
    let a = ap (λ (z : ℕ). d * z) f in
    (le_of_mul-le-mul_right {k = U} (omega arith) pos, le_of_mul-le-mul_right {k = U} (omega arith) pos)

crossed : (e X u J K : ℕ) → X * J ≡ K * u → e * (X * u) * (u * J) ≡ e * K * (u * u * u)
crossed e X u J K h = omega (arith, ap (λ (z : ℕ). e * u * u * z) h)

at_place : (x i y z : ℕ) → x + i ≡ y + z → 2 ^ x * 2 ^ i ≡ 2 ^ y * 2 ^ z
at_place x i y z e = sym (pow-add 2 x i) ∙ ap (λ (w : ℕ). 2 ^ w) e ∙ pow-add 2 y z

-- ---- the pattern of a number beside a tie
inside : (n : ℕ) → Beside n → (2 ^ 52 + 1024 ≤ digits binary64 n) × (digits binary64 n + 1024 ≤ 2 ^ 53)
inside n h = let d = digits_are n h.least h.most in (omega (arith, h.above, h.under), omega (arith, h.above, h.under))

module _ (d e K : ℕ) (pos : 0 < K) (lo : 2 ^ 52 + 1024 ≤ d) (hi : d + 1024 ≤ 2 ^ 53) (w : Within (128 * K) e (d * K)) where
  pub digits_from : 2 ^ 52 * K ≤ e
  digits_from = let a = mul-le-mul_right K lo in omega arith

  pub digits_to : e < 2 ^ 53 * K
  digits_to = let a = mul-le-mul_right K hi in omega arith

  pub rounded_from : 2 ^ 52 ≤ closest e K
  rounded_from = let a = mul-le-mul_right K lo in let near = closest_near e K pos in le_of_mul-le-mul_right {k = K} (omega arith) pos

  pub rounded_to : closest e K < 2 ^ 53
  rounded_to = let a = mul-le-mul_right K hi in let near = closest_near e K pos in lt_of_mul-lt-mul_right K {m = closest e K} {n = 2 ^ 53} (omega arith)

-- the digits and the place of a pattern
same_parts : (i d k q : ℕ) → i * 2 ^ 52 + d ≡ k * 2 ^ 52 + q → d < 2 ^ 53 → Full (2 ^ 52) i d → 2 ^ 52 ≤ q → q < 2 ^ 53 → 897 ≤ k → (i ≡ k) × (d ≡ q)
same_parts i d k q e s (inl z) l m h = absurd (omega arith)
same_parts i d k q e s (inr f) l m h = (omega arith, omega arith)

-- and its f32
single : (k q : ℕ) → 897 ≤ k → k ≤ 1148 → 2 ^ 52 ≤ q → q < 2 ^ 53 → pat false q k ≡ (k - 896) * 2 ^ 23 + closest q (2 ^ 29)
single k q a b c d = let l = closest_le q (2 ^ 29) in high false q k d (omega arith) (inr c) ∙ omega arith

module _ (n : ℕ) (h : Beside n) (j e X E : ℕ) (w : Within (128 * 2 ^ j) e (digits binary64 n * 2 ^ j)) (pos : 0 < E) (is : X * 2 ^ (1074 + j) ≡ e * 2 ^ place binary64 n * E) where
  k : ℕ
  k = place binary64 n

  q : ℕ
  q = closest e (2 ^ j)

  Z : ℕ
  Z = to_bits binary64 (round binary64 false X E)

  g : Parts n (digits binary64 n) (place binary64 n)
  g = parts n h.least h.most

  from : 2 ^ 52 ≤ q
  unfolding q
  from = rounded_from (digits binary64 n) e (2 ^ j) (pow_pos j) (inside n h).0 (inside n h).1 w

  to : q < 2 ^ 53
  unfolding q
  to = rounded_to (digits binary64 n) e (2 ^ j) (pow_pos j) (inside n h).0 (inside n h).1 w

  once_pattern : Z ≡ k * 2 ^ 52 + q
  unfolding Z k q
  once_pattern =
      ap (to_bits binary64) (round_same binary64 false X E (e * 2 ^ place binary64 n) (2 ^ (1074 + j)) pos (pow_pos (1074 + j)) is)
      ∙ pattern binary64 false e (place binary64 n) j
      (subst (λ (z : ℕ). e < z) (sym (pow-add 2 53 j)) (digits_to (digits binary64 n) e (2 ^ j) (pow_pos j) (inside n h).0 (inside n h).1 w))
      (inr (subst (λ (z : ℕ). z ≤ e) (sym (pow-add 2 52 j)) (digits_from (digits binary64 n) e (2 ^ j) (pow_pos j) (inside n h).0 (inside n h).1 w)))
      ∙ cut (place binary64 n) (closest e (2 ^ j)) g.high to
    where
      cut : (k q : ℕ) → k ≤ 1148 → q < 2 ^ 53 → 0 + min (k * 2 ^ 52 + q) (2047 * 2 ^ 52) ≡ k * 2 ^ 52 + q
      cut k q a b = omega arith

  its_parts : (place binary64 Z ≡ k) × (digits binary64 Z ≡ q)
  unfolding k
  its_parts =
      same_parts (place binary64 Z) (digits binary64 Z) k q (whole_pattern Z (small Z k q once_pattern g.high to) ∙ once_pattern) (digits_lt binary64 Z) (digits_full binary64 Z) from to g.low
    where
      small : (z k q : ℕ) → z ≡ k * 2 ^ 52 + q → k ≤ 1148 → q < 2 ^ 53 → z < 2 ^ 63
      small z k q e a b = omega arith

  pub rounded_twice : let z = to_bits binary64 (round binary64 false X E) in pat false (digits binary64 z) (place binary64 z) ≡ twice_rounded n j e
  unfolding Z k q
  rounded_twice = ap (λ (i : ℕ). pat false i (place binary64 Z)) its_parts.1 ∙ ap (pat false q) its_parts.0 ∙ single k q g.low g.high from to

-- ---- so the fused sum is narrowed
module _ (a b c n : ℕ) (x : Float) (S t s : Bool) (r : ℕ) (h : Tied a b c n (unlike S s) (unlike t s) r)
    (w : Once (units_of a * units_of b) (2 ^ 1074 * 2 ^ 1074) (units_of c) (digits binary64 n) (place binary64 n) x S t s) where
  pub narrow_side : cond s (2 ^ 31) 0 + r ≡ narrow x
  unfolding units_of
  narrow_side =
      let u : ℕ = 2 ^ 1074 in
      let da : ℕ = digits binary64 a in
      let db : ℕ = digits binary64 b in
      let dc : ℕ = digits binary64 c in
      let pa : ℕ = place binary64 a in
      let pb : ℕ = place binary64 b in
      let X : ℕ = 2 ^ (pa + pb + 29) in
      let J : ℕ = 2 ^ h.j in
      let K : ℕ = 2 ^ place binary64 n in
      let U : 0 < X * u = mul-pos (pow_pos (pa + pb + 29)) (pow_pos 1074) in
      let D : 0 < u * u = mul-pos (pow_pos 1074) (pow_pos 1074) in
      let eX : X ≡ 2 ^ pa * 2 ^ pb * 2 ^ 29 = pow-add 2 (pa + pb) 29 ∙ ap (λ (z : ℕ). z * 2 ^ 29) (pow-add 2 pa pb) in
      let eB : db ≡ db / 2 ^ 29 * 2 ^ 29 = whole db h.narrow in
      let eM : da * 2 ^ pa * (db * 2 ^ pb) * u ≡ da * (db / 2 ^ 29) * (X * u) = ap (λ (z : ℕ). da * 2 ^ pa * (z * 2 ^ pb) * u) eB ∙ product_units da (db / 2 ^ 29) (2 ^ pa) (2 ^ pb) (2 ^ 29) u X eX in
      let eC : dc * 2 ^ place binary64 c * (u * u) ≡ dc * 2 ^ h.i * (X * u) = term_units dc (2 ^ place binary64 c) (2 ^ h.i) u X (at_place (pa + pb + 29) h.i (place binary64 c) 1074 h.first) in
      let eK : X * J ≡ K * u = at_place (pa + pb + 29) h.j (place binary64 n) 1074 h.second in
      let tot : Total (unlike S s) (unlike t s) (da * (db / 2 ^ 29) * (X * u)) (dc * 2 ^ h.i * (X * u)) w.X =
      subst (λ (z : ℕ). Total (unlike S s) (unlike t s) z (dc * 2 ^ h.i * (X * u)) w.X) eM (subst (λ (z : ℕ). Total (unlike S s) (unlike t s) (da * 2 ^ pa * (db * 2 ^ pb) * u) z w.X) eC w.total) in
      let v = in_units (unlike S s) (unlike t s) (da * (db / 2 ^ 29)) (dc * 2 ^ h.i) w.X (X * u) U tot in
      let near : Within (128 * J) v.e (digits binary64 n * J) = near_units (digits binary64 n) K J (X * u) (u * u) v.e w.X (unit K J X u eK) v.is U w.near in
      let m : w.X * 2 ^ (1074 + h.j) ≡ v.e * K * (u * u * u) = ap (λ (z : ℕ). z * 2 ^ (1074 + h.j)) v.is ∙ ap (λ (z : ℕ). v.e * (X * u) * z) (pow-add 2 1074 h.j) ∙ crossed v.e X u J K eK in
      let o = once_under (da * 2 ^ pa * (db * 2 ^ pb)) (u * u) (dc * 2 ^ place binary64 c) n x S t s D (parts n h.beside.least h.beside.most) w in
      ap (λ (z : ℕ). cond s (2 ^ 31) 0 + z) (h.is v.e v.total near ∙ sym (rounded_twice n h.beside h.j v.e w.X (u * u * u) near (mul-pos D (pow_pos 1074)) m))
      ∙ sym (ap narrow w.is ∙ narrow_round s w.X (u * u * u) o)
    where
      whole : (i : ℕ) → i % 2 ^ 29 ≡ 0 → i ≡ i / 2 ^ 29 * 2 ^ 29
      whole i e = omega arith

      unit : (K J X u : ℕ) → X * J ≡ K * u → K * (u * u) ≡ J * (X * u)
      unit K J X u e = omega (arith, ap (λ (z : ℕ). z * u) e)

pub narrow_tied : (a b c : Float) → T (fits binary64 a) → T (fits binary64 b) → T (fits binary64 c) → (r : ℕ)
    → let p = mul binary64 a b in let y = add binary64 p c in T (not (is_nan p)) → T (not (is_nan y))
    → to_bits binary64 p % 2 ^ 63 ≤ to_bits binary64 y % 2 ^ 63 + 5 * 2 ^ 52
    → Tied (to_bits binary64 a) (to_bits binary64 b) (to_bits binary64 c) (to_bits binary64 y % 2 ^ 63) (unlike (negative binary64 (to_bits binary64 p)) (negative binary64 (to_bits binary64 y))) (unlike (negative binary64 (to_bits binary64 c)) (negative binary64 (to_bits binary64 y))) r
    → cond (negative binary64 (to_bits binary64 y)) (2 ^ 31) 0 + r ≡ narrow (fma binary64 a b c)
narrow_tied a b c ta tb tc r np ny l h =
    let p : Float = mul binary64 a b in
    let y : Float = add binary64 p c in
    narrow_side (to_bits binary64 a) (to_bits binary64 b) (to_bits binary64 c) (to_bits binary64 y % 2 ^ 63) (fma binary64 a b c) (negative binary64 (to_bits binary64 p)) (negative binary64 (to_bits binary64 c)) (negative binary64 (to_bits binary64 y)) r h
    (fused_once a b c ta tb tc np ny l (parts (to_bits binary64 y % 2 ^ 63) h.beside.least h.beside.most))
