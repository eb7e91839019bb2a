-- On which side of a tie a sum lies, from its last 64 digits: the laws of `beside` and `near_tie` and of their parts, over whole numbers and patterns. Assumes nothing.
use Rattle.std.proofs.Common.{◌≡◌, ℕ, zero, suc, ◌+◌, ◌-◌, ◌*◌, ◌/◌, ◌%◌, ◌^◌, ◌<◌, ◌≤◌, Bool, true, false, cond, eqb, ltb, sym, refl, ap, ◌∙◌, subst, inl, mul-le-mul_right, mod-eq_of_lt, lt_of_mul-lt-mul_right, arith, pow_pos, pow_mono, le-ltb, lt-ltb}
use Prim.Native.Nat.{Ordering}
use Prim.Native.Nat.{compare}
use native.Mathlib.Nat.{mul-add-div_right, mul-add-mod_self_right, div-eq_of_lt, pow-succ'}
use lib.Ieee.{binary64, nearest}
use lib.Ieee.Nearest.{closest}
use Rattle.rounding.specs.Fields.{field, digits, place}
use Rattle.rounding.specs.Laws.{Within}
use Rattle.rounding.specs.Raise.{raise}
use Rattle.fused.specs.Tied.{Beside, Reach, Sided, Tied, Total, LowTotal, twice_rounded}
use Rattle.fused.proofs.Bounds.{closest_is}
use Rattle.rounding.proofs.Closest.{compare_is, closest_near}
use Rattle.rounding.proofs.Raised.{guard_clear, tie_raise, where_set}
use Rattle.rounding.proofs.Read.{field_le}
use Rattle.rounding.proofs.Sum.{Order, order, less, more, none}
use Rattle.fused.proofs.Untied.{normal_digits, digits_are, place_is}
use Rattle.rounding.proofs.Single.{place_field}

-- ---- ties
-- half way between w and the next number
pub closest_half : (w u h : ℕ) → u ≡ 2 * h → 0 < h → closest (w * u + h) u ≡ w + w % 2
closest_half w u h e pos =
    let l : h < u = omega arith in
    let d : (w * u + h) / u ≡ w = mul-add-div_right (omega arith) w h ∙ ap (λ (x : ℕ). w + x) (div-eq_of_lt l) ∙ omega arith in
    let m : (w * u + h) % u ≡ h = mul-add-mod_self_right w u h ∙ mod-eq_of_lt l in
    ap (λ (x : ℕ). nearest x (compare ((w * u + h) % u * 2) u)) d ∙ ap (λ (x : ℕ). nearest w (compare (x * 2) u)) m ∙ ap (nearest w) (compare_is Ordering.eq (h * 2) u (omega arith))

-- what is at most half a unit from an even number is rounded to it
pub closest_even : (n q u h : ℕ) → u ≡ 2 * h → 0 < h → q % 2 ≡ 0 → q * u ≤ n + h → n ≤ q * u + h → closest n u ≡ q
closest_even n q u h e pos even lo hi = go (order (n + h) (q * u)) (order n (q * u + h))
  where
    above : n ≡ q * u + h → closest n u ≡ q
    above i = ap (λ (x : ℕ). closest x u) i ∙ closest_half q u h e pos ∙ omega arith

    below : (q' : ℕ) → q' ≡ q → n + h ≡ q' * u → closest n u ≡ q
    below zero c i = absurd (omega arith)
    below (suc w) c i = ap (λ (x : ℕ). closest x u) (omega arith) ∙ closest_half w u h e pos ∙ omega arith

    go : Order (n + h) (q * u) → Order n (q * u + h) → closest n u ≡ q
    go (less l) o = absurd (omega arith)
    go (none i) o = below q refl i
    go (more l) (more k) = absurd (omega arith)
    go (more l) (none i) = above i
    go (more l) (less k) = closest_is n q u (omega arith) (omega arith) (omega arith)

-- ---- the last 64 digits
abbrev Low : ℕ → ℕ → Type 0
Low x y = x % 2 ^ 64 ≡ y % 2 ^ 64

shift : (x y k : ℕ) → Low x y → Low (x + k) (y + k)
shift x y k h = omega arith

shift_back : (x y k : ℕ) → Low (x + k) (y + k) → Low x y
shift_back x y k h = omega arith

-- v and the tie, at i, are the sum e and half a unit
pub low_sum : (half p p' q q' v w x i e : ℕ) → Low (w + p) (half + p') → Low (x + q) (w + q') → (v + i % 2 ^ 64) % 2 ^ 64 ≡ x → Low (e + (p + q)) (p' + q') → Low (v + i) (e + half)
low_sum half p p' q q' v w x i e a b c t =
    shift_back (v + i) (e + half) (p + q)
    (first
    ∙ same (x + (p + q)) (x + q + p) (omega arith)
    ∙ shift (x + q) (w + q') p b
    ∙ same (w + q' + p) (w + p + q') (omega arith)
    ∙ shift (w + p) (half + p') q' a
    ∙ same (half + p' + q') (p' + q' + half) (omega arith)
    ∙ sym (shift (e + (p + q)) (p' + q') half t)
    ∙ same (e + (p + q) + half) (e + half + (p + q)) (omega arith))
  where
    same : (y z : ℕ) → y ≡ z → Low y z
    same y z h = ap (λ (k : ℕ). k % 2 ^ 64) h

    first : Low (v + i + (p + q)) (x + (p + q))
    first = shift (v + i) x (p + q) (omega arith)

-- v tells the distance
module _ (v J e half K : ℕ) (twice : K ≡ 2 * half) (small : K ≤ 2 ^ 50) (short : v < 2 ^ 64) (near : Within (640 * K) e J) (low : (v + J) % 2 ^ 64 ≡ (e + half) % 2 ^ 64) where
  pub not-below : v < 2 ^ 63 → e + half ≡ J + v
  not-below h = omega arith

  pub far_below : 2 ^ 63 ≤ v → e + half < J
  far_below h = omega arith

-- ---- the tie beside a pattern
-- an f32's digits below the tie, and the tie
abbrev low_digits : ℕ → ℕ
low_digits n = (2 ^ 52 + n % 2 ^ 52) / 2 ^ 29

abbrev tie_of : ℕ → ℕ
tie_of n = low_digits n * 2 ^ 29 + 2 ^ 28

module _ (n j e : ℕ) (h : Beside n) (w : Within (128 * 2 ^ j) e (digits binary64 n * 2 ^ j)) where
  abbrev l : ℕ
  l = low_digits n

  abbrev t : ℕ
  t = tie_of n

  tie_near : Within 512 (digits binary64 n) t
  tie_near = let d = digits_are n h.least h.most in (omega (arith, h.above, h.under), omega (arith, h.above, h.under))

  pub sum_near_tie : Within (640 * 2 ^ j) e (t * 2 ^ j)
  sum_near_tie = let a = mul-le-mul_right (2 ^ j) tie_near.0 in let b = mul-le-mul_right (2 ^ j) tie_near.1 in (omega arith, omega arith)

  lower_is : n / 2 ^ 29 - 0x1_c000_0000 ≡ (place binary64 n - 896) * 2 ^ 23 + l
  lower_is = let k = place_is n h.least h.most in omega (arith, h.least, h.most)

  -- the three sides: v is e - t * 2 ^ j, and half a unit more
  module _ (half v : ℕ) (twice : 2 ^ j ≡ 2 * half) (some : 0 < half) where
    pub on_tie : v ≤ 2 * half → e + half ≡ t * 2 ^ j + v → n / 2 ^ 29 - 0x1_c000_0000 + (n / 2 ^ 29 - 0x1_c000_0000) % 2 ^ 1 ≡ twice_rounded n j e
    on_tie s i =
        let q : closest e (2 ^ j) ≡ t = closest_even e t (2 ^ j) half twice some (omega arith) (omega arith) (omega arith) in
        let c : closest (closest e (2 ^ j)) (2 ^ 29) ≡ l + l % 2 = ap (λ (x : ℕ). closest x (2 ^ 29)) q ∙ closest_half l (2 ^ 29) (2 ^ 28) refl (omega arith) in
        let a = lower_is in
        omega arith

    pub above_tie : 2 * half < v → e + half ≡ t * 2 ^ j + v → n / 2 ^ 29 - 0x1_c000_0000 + 1 ≡ twice_rounded n j e
    above_tie s i =
        let q : ℕ = closest e (2 ^ j) in
        let near = closest_near e (2 ^ j) (omega arith) in
        let m = sum_near_tie in
        let lo : t < q = lt_of_mul-lt-mul_right (2 ^ j) {m = t} {n = q} (omega arith) in
        let hi : q < t + 642 = lt_of_mul-lt-mul_right (2 ^ j) {m = q} {n = t + 642} (omega arith) in
        let c : closest q (2 ^ 29) ≡ l + 1 = closest_is q (l + 1) (2 ^ 29) (omega arith) (omega arith) (omega arith) in
        let a = lower_is in
        omega arith

    pub below_tie : e + half < t * 2 ^ j → n / 2 ^ 29 - 0x1_c000_0000 ≡ twice_rounded n j e
    below_tie i =
        let q : ℕ = closest e (2 ^ j) in
        let near = closest_near e (2 ^ j) (omega arith) in
        let m = sum_near_tie in
        let lo : q < t = lt_of_mul-lt-mul_right (2 ^ j) {m = q} {n = t} (omega arith) in
        let hi : t < q + 642 = lt_of_mul-lt-mul_right (2 ^ j) {m = t} {n = q + 642} (omega arith) in
        let c : closest q (2 ^ 29) ≡ l = closest_is q l (2 ^ 29) (omega arith) (omega arith) (omega arith) in
        let a = lower_is in
        omega arith

-- ---- the code's numbers: a unit, half of it, v, and what was joined on the way to it
abbrev unit_of : ℕ → ℕ
unit_of j = 1 * 2 ^ j % 2 ^ 64

abbrev half_of : ℕ → ℕ
half_of j = unit_of j / 2

pub half_is : (j : ℕ) → 1 ≤ j → j ≤ 50 → (2 ^ j ≡ 2 * half_of j) × (2 ^ j ≤ 2 ^ 50) × (0 < half_of j) × (unit_of j ≡ 2 ^ j)
half_is j a b =
    let k : 2 ^ j ≡ 2 * 2 ^ (j - 1) = ap (λ (x : ℕ). 2 ^ x) (before j a) ∙ pow-succ' 2 (j - 1) in
    let m : 2 ^ j ≤ 2 ^ 50 = pow_mono {i = j} {j = 50} b in
    let z : 0 < 2 ^ (j - 1) = pow_pos (j - 1) in
    let h : unit_of j ≡ 2 ^ j = mod-eq_of_lt (omega arith) ∙ omega arith in
    (omega arith, m, omega arith, h)
  where
    before : (j : ℕ) → 1 ≤ j → j ≡ suc (j - 1)
    before j h = omega arith

module _ (n j : ℕ) (p q : Bool) (m c w x v : ℕ) (h : Beside n) (some : 1 ≤ j) (few : j ≤ 50) (short : v < 2 ^ 64)
    (a : (w + cond p m 0) % 2 ^ 64 ≡ (half_of j + cond p 0 m) % 2 ^ 64) (b : (x + cond q c 0) % 2 ^ 64 ≡ (w + cond q 0 c) % 2 ^ 64) (d : (v + tie_of n * 2 ^ j % 2 ^ 64) % 2 ^ 64 ≡ x) where
  low : (e : ℕ) → LowTotal p q m c e → (v + tie_of n * 2 ^ j) % 2 ^ 64 ≡ (e + half_of j) % 2 ^ 64
  low e i = low_sum (half_of j) (cond p m 0) (cond p 0 m) (cond q c 0) (cond q 0 c) v w x (tie_of n * 2 ^ j) e a b d i

  sided_on : v ≤ 2 * half_of j → Sided n j p q m c (n / 2 ^ 29 - 0x1_c000_0000 + (n / 2 ^ 29 - 0x1_c000_0000) % 2)
  sided_on s e i near =
      let g = half_is j some few in
      let f : v < 2 ^ 63 = omega (arith, g.0, g.1) in
      on_tie n j e h near (half_of j) v g.0 g.2 s (not-below v (tie_of n * 2 ^ j) e (half_of j) (2 ^ j) g.0 g.1 short (sum_near_tie n j e h near) (low e i) f)

  sided_above : 2 * half_of j < v → v < 2 ^ 63 → Sided n j p q m c (n / 2 ^ 29 - 0x1_c000_0000 + 1)
  sided_above s f e i near =
      let g = half_is j some few in
      above_tie n j e h near (half_of j) v g.0 g.2 s (not-below v (tie_of n * 2 ^ j) e (half_of j) (2 ^ j) g.0 g.1 short (sum_near_tie n j e h near) (low e i) f)

  sided_below : 2 ^ 63 ≤ v → Sided n j p q m c (n / 2 ^ 29 - 0x1_c000_0000)
  sided_below f e i near =
      let g = half_is j some few in
      below_tie n j e h near (half_of j) v g.0 g.2 (far_below v (tie_of n * 2 ^ j) e (half_of j) (2 ^ j) g.0 g.1 short (sum_near_tie n j e h near) (low e i) f)

  abbrev lower : ℕ
  lower = n / 2 ^ 29 - 0x1_c000_0000

  -- the sum, rounded to an f64: its guard is set where it is not below the tie, and its sticky digit where it is not on it
  abbrev r : ℕ
  r = raise (ltb v (2 ^ 63)) (ltb (unit_of j) v) (eqb (lower % 2) 1)

  twice : unit_of j ≡ 2 * half_of j
  twice = let g = half_is j some few in g.3 ∙ g.0

  pub sided : Sided n j p q m c (lower + r)
  sided = go (order v (2 ^ 63)) (order (unit_of j) v)
    where
      on : v ≤ unit_of j → Sided n j p q m c (lower + r)
      on l =
          let g = half_is j some few in
          rw (lt-ltb v (2 ^ 63) (omega (arith, g.1, g.3)))
          (rw (le-ltb (unit_of j) v l) (subst (Sided n j p q m c) (tie_raise lower (lower % 2) refl (omega arith)) (sided_on (omega (arith, twice)))))

      below : 2 ^ 63 ≤ v → Sided n j p q m c (lower + r)
      below l = subst (λ (x : ℕ). Sided n j p q m c (lower + x)) (sym (guard_clear _ _ _ (le-ltb v (2 ^ 63) l))) (subst (Sided n j p q m c) (omega arith) (sided_below l))

      go : Order v (2 ^ 63) → Order (unit_of j) v → Sided n j p q m c (lower + r)
      go (less k) (less l) =
          subst (λ (x : ℕ). Sided n j p q m c (lower + x)) (sym (where_set _ _ _ (lt-ltb v (2 ^ 63) k) (inl (lt-ltb (unit_of j) v l)))) (sided_above (omega (arith, twice)) k)
      go (less k) (none l) = on (omega arith)
      go (less k) (more l) = on (omega arith)
      go (none k) o = below (omega arith)
      go (more k) o = below (omega arith)

-- ---- the three terms at a common place
low_total : (p q : Bool) (m c e : ℕ) → Total p q m c e → LowTotal p q (m % 2 ^ 64) (c % 2 ^ 64) e
low_total true true m c e t = omega arith
low_total true false m c e t = omega arith
low_total false true m c e t = omega arith
low_total false false m c e t = omega arith

pub tied : (a b c n : ℕ) (p q : Bool) (f e g x i j u v w m r : ℕ) → Beside n → Reach b e i j → f ≡ field binary64 a → e ≡ field binary64 b → g ≡ field binary64 c → x ≡ f + e + 27
    → (i + x) % 2 ^ 64 ≡ g + 1073 → (j + x) % 2 ^ 64 ≡ n / 2 ^ 52 + 1073 → u ≡ 2 ^ 52 + a % 2 ^ 52 → v ≡ 2 ^ 52 + b % 2 ^ 52 → w ≡ 2 ^ 52 + c % 2 ^ 52 → m ≡ u * (v / 2 ^ 29) % 2 ^ 64
    → Sided n j p q m (w * 2 ^ i % 2 ^ 64) r → Tied a b c n p q r
tied a b c n p q f e g x i j u v w m r h k ef ee eg ex ei ej eu ev ew em s =
    let t = place_is n h.least h.most in
    let fa = field_le binary64 a in
    let fc = field_le binary64 c in
    let la = place_field a in
    let lb = place_field b in
    let lc = place_field c in
    let nb : 0 < field binary64 b = omega (arith, k.some) in
    let na : 0 < field binary64 a = omega (arith, k.few, k.second_few, h.least, h.most) in
    let nc : 0 < field binary64 c = omega (arith, k.first, k.second_few, h.least, h.most) in
    let da : u ≡ digits binary64 a = eu ∙ sym (normal_digits a na) in
    let db : v ≡ digits binary64 b = ev ∙ sym (normal_digits b nb) in
    let dc : w ≡ digits binary64 c = ew ∙ sym (normal_digits c nc) in
    record {
      beside = h;
      i = i;
      j = j;
      narrow = omega (arith, k.narrow);
      first = omega (arith, k.first);
      second = omega (arith, k.second_few, h.least, h.most);
      is = λ z o near. s z
          (subst (λ (y : ℕ). LowTotal p q y (w * 2 ^ i % 2 ^ 64) z)
          (sym (em ∙ ap (λ (y : ℕ). y * (v / 2 ^ 29) % 2 ^ 64) da ∙ ap (λ (y : ℕ). digits binary64 a * (y / 2 ^ 29) % 2 ^ 64) db))
          (subst (λ (y : ℕ). LowTotal p q (digits binary64 a * (digits binary64 b / 2 ^ 29) % 2 ^ 64) (y * 2 ^ i % 2 ^ 64) z) (sym dc)
          (low_total p q (digits binary64 a * (digits binary64 b / 2 ^ 29)) (digits binary64 c * 2 ^ i) z o)))
          near;
    }
