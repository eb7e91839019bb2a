-- a * b + c rounded once is near a * b + c rounded after the product and after the sum, where the product is not large beside the sum (`fused_once`). So both narrow to the same f32, where the latter is apart from the ties (`Apart`). Assumes nothing.
use Rattle.std.proofs.Common.{◌≡◌, ℕ, ◌+◌, ◌-◌, ◌*◌, ◌%◌, ◌^◌, ◌<◌, ◌≤◌, Bool, true, false, cond, not, T, eqb, sym, refl, ap, ◌∙◌, subst, le_trans, le_of_lt, mul-le-mul_right, mod-lt, mul_assoc, mul-le-mul_left, mul-lt-mul_of_pos_right, mul-pos, arith, lit≤, pow_pos, pow_mono}
use mathlib.Core.Bool.{beq, false≢true}
use native.Mathlib.Nat.{eq_of_mul-eq-mul_right}
use lib.Ieee.{Float, nan, inf, fin, Format, low, binary32, binary64, unlike, round, sum, neg, add, mul, fits, is_nan, to_bits}
use lib.Ieee.Exact.{HasValue}
use lib.Ieee.Fits.{round-fits, add-fits, mul-fits}
use lib.Ieee.Scale.{finite, grid, overflow, round_val, round_under}
use Rattle.fused.specs.Apart.{Apart}
use Rattle.rounding.specs.Fields.{digits, place, negative}
use Rattle.rounding.specs.Laws.{Within}
use Rattle.rounding.specs.Rounding.{narrow, magnitude}
use Rattle.fused.specs.Fused.{fma}
use Rattle.fused.specs.Tied.{Total}
use Rattle.rounding.proofs.Error.{grid_near_any, grid_near_whole, grid_under}
use Rattle.rounding.proofs.Exact.{two_values, value_unique}
use Rattle.fused.proofs.Bounds.{Off, Linked, cancel_unit, product_above, product_below, linked_sum, linked_above, linked_below, sum_near, once_near, near_patterns, at_most_32}
use Rattle.rounding.proofs.Operations.{add_value, mul_value}
use Rattle.rounding.proofs.Pattern.{sign_apart}
use Rattle.std.proofs.lemmas.Float.{T_from_true}
use Rattle.fused.proofs.Finite.{of_finite}
use Rattle.fused.proofs.Product.{fma_value}
use Rattle.rounding.proofs.Read.{read, digits_lt, digits_full, convert_value}
use Rattle.rounding.proofs.SignBit.{low_pattern, magnitude_fits, of_low}
use Rattle.rounding.proofs.Signs.{value_neg, round_not, magnitude_value}
use Rattle.rounding.proofs.Single.{pat, whole_pattern}
use Rattle.rounding.proofs.Sum.{sum_alike, sum_more, sum_less, sum_none, sum_same, Order, order, less, more, none}
use Rattle.fused.proofs.Untied.{Parts, parts, not_negative, below_ones, same_pattern}

-- ---- a finite result has finite operands
finite_sum : (f : Format) (x y : Float) → finite (add f x y) ≡ true → (finite x ≡ true) × (finite y ≡ true)
unfolding add
finite_sum f nan y h = absurd (false≢true h)
finite_sum f (inf u) nan h = absurd (false≢true h)
finite_sum f (inf u) (inf v) h = absurd (go (beq u v) h)
  where
    go : (b : Bool) → finite (cond b (inf u) nan) ≡ true → ⊥
    go true k = false≢true k
    go false k = false≢true k
finite_sum f (inf u) (fin v n d) h = absurd (false≢true h)
finite_sum f (fin u m e) nan h = absurd (false≢true h)
finite_sum f (fin u m e) (inf v) h = absurd (false≢true h)
finite_sum f (fin u m e) (fin v n d) h = (refl, refl)

finite_product : (f : Format) (x y : Float) → finite (mul f x y) ≡ true → (finite x ≡ true) × (finite y ≡ true)
unfolding mul
finite_product f nan y h = absurd (false≢true h)
finite_product f (inf u) nan h = absurd (false≢true h)
finite_product f (inf u) (inf v) h = absurd (false≢true h)
finite_product f (inf u) (fin v n d) h = absurd (go (eqb n 0) h)
  where
    go : (b : Bool) → finite (cond b nan (inf (unlike u v))) ≡ true → ⊥
    go true k = false≢true k
    go false k = false≢true k
finite_product f (fin u m e) nan h = absurd (false≢true h)
finite_product f (fin u m e) (inf v) h = absurd (go (eqb m 0) h)
  where
    go : (b : Bool) → finite (cond b nan (inf (unlike u v))) ≡ true → ⊥
    go true k = false≢true k
    go false k = false≢true k
finite_product f (fin u m e) (fin v n d) h = (refl, refl)

-- ---- a value by the digits and the place of its pattern
has_finite : (x : Float) (s : Bool) (i j : ℕ) → HasValue x s i j → finite x ≡ true
has_finite nan s i j v = absurd v
has_finite (inf u) s i j v = absurd v
has_finite (fin u m g) s i j v = refl

by_digits : (x : Float) (s : Bool) (a : ℕ) → T (fits binary64 x) → HasValue x s a (2 ^ 1074) → a ≡ digits binary64 (to_bits binary64 x) * 2 ^ place binary64 (to_bits binary64 x)
by_digits x s a t h =
    let b : ℕ = to_bits binary64 x in
    eq_of_mul-eq-mul_right (2 ^ 1074) (pow_pos 1074) a (digits binary64 b * 2 ^ place binary64 b)
    (two_values x s (negative binary64 b) a (2 ^ 1074) (digits binary64 b * 2 ^ place binary64 b) (2 ^ 1074) h (of_finite x t (has_finite x s a (2 ^ 1074) h)).value)

-- ---- a rounded fraction with either sign, narrowed
round_value : (f : Format) (s : Bool) (a c : ℕ) → grid f a c < overflow f → HasValue (round f s a c) s (grid f a c) (2 ^ low f)
round_value f false a c l = round_val f a c l
round_value f true a c l = subst (λ (x : Float). HasValue x true (grid f a c) (2 ^ low f)) (sym (round_not f false a c)) (value_neg (round f false a c) false (grid f a c) (2 ^ low f) (round_val f a c l))

pub narrow_round : (s : Bool) (a c : ℕ) → grid binary64 a c < overflow binary64
    → let b = to_bits binary64 (round binary64 false a c) in
    narrow (round binary64 s a c) ≡ cond s (2 ^ 31) 0 + pat false (digits binary64 b) (place binary64 b)
unfolding narrow
narrow_round s a c l =
    ap (to_bits binary32) (convert_value binary32 (round binary64 s a c) s (grid binary64 a c) (2 ^ 1074) (pow_pos 1074) (round_value binary64 s a c l))
    ∙ sign_apart binary32 s (grid binary64 a c) (2 ^ 1074)
    ∙ ap (λ (x : ℕ). cond s (2 ^ 31) 0 + to_bits binary32 (round binary32 false x (2 ^ 1074))) (by_digits (round binary64 false a c) false (grid binary64 a c) (round-fits binary64 false a c) (round_val binary64 a c l))

-- ---- finite values
finite_neg : (x : Float) → finite (neg x) ≡ true → finite x ≡ true
unfolding neg
finite_neg nan h = h
finite_neg (inf s) h = h
finite_neg (fin s m e) h = refl

under_any : (f : Format) (s : Bool) (a c : ℕ) → finite (round f s a c) ≡ true → grid f a c < overflow f
under_any f false a c h = round_under f a c (T_from_true _ h)
under_any f true a c h = round_under f a c (T_from_true _ (finite_neg (round f false a c) (subst (λ (x : Float). finite x ≡ true) (round_not f false a c) h)))

same_sign : (x : Float) (s t : Bool) (a c b d : ℕ) → HasValue x s a c → HasValue x t b d → s ≡ t
same_sign nan s t a c b d h k = absurd h
same_sign (inf u) s t a c b d h k = absurd h
same_sign (fin u m e) s t a c b d h k = sym h.0 ∙ k.0

finite_magnitude : (x : Float) → finite (magnitude x) ≡ true → finite x ≡ true
unfolding magnitude
finite_magnitude nan h = h
finite_magnitude (inf s) h = h
finite_magnitude (fin s m e) h = refl

-- ---- the numbers
not_over : (T Y D u E : ℕ) → T ≤ 66 * (Y * D) + D → 66 * Y + 1 < E * u → 0 < D → T < E * (D * u)
not_over T Y D u E t y d = let a = mul-lt-mul_of_pos_right y d in omega arith

small : (d k : ℕ) → d < 2 * 2 ^ 52 → k ≤ 1148 → 66 * (d * 2 ^ k) + 1 < 2 ^ 1023 * 2 ^ 1074
small d k s h =
    let a : d * 2 ^ k ≤ 2 ^ 53 * 2 ^ 1148 = le_trans (mul-le-mul_right (2 ^ k) (le_of_lt s)) (mul-le-mul_left (2 ^ 53) (pow_mono {i = k} {j = 1148} h)) in
    go (d * 2 ^ k) (2 ^ 53 * 2 ^ 1148) (2 ^ 1023 * 2 ^ 1074) a (lit≤ tt)
  where
    go : (y w e : ℕ) → y ≤ w → 66 * w + 2 ≤ e → 66 * y + 1 < e
    go y w e h k = omega arith

at_least_three : (k : ℕ) → 897 ≤ k → 3 ≤ 2 ^ k
at_least_three k h = le_trans (lit≤ tt) (pow_mono {i = 2} {j = k} (omega arith))

at_least_six : (d k : ℕ) → 2 ^ 52 ≤ d → 897 ≤ k → 6 ≤ d * 2 ^ k
at_least_six d k h l = let a = mul-le-mul_left d (at_least_three k l) in omega arith

-- ---- x is one rounding of N / D and C, which have the signs S and t: of X / D, with the sign s. It is near the digits d at the place k
pub record Once (N D C d k : ℕ) (x : Float) (S t s : Bool) : Type 0 where
  pub X : ℕ
  pub is : x ≡ round binary64 s X (D * 2 ^ 1074)
  pub total : Total (unlike S s) (unlike t s) (N * 2 ^ 1074) (C * D) X
  pub near : Within (128 * (2 ^ k * D)) X (d * 2 ^ k * D)
  pub most : X ≤ 66 * (d * 2 ^ k * D) + D

record Signed (N D C d k : ℕ) (x y : Float) (S t : Bool) : Type 0 where
  s : Bool
  value : HasValue y s (d * 2 ^ k) (2 ^ 1074)
  once : Once N D C d k x S t s

unlike_self : (s : Bool) → unlike s s ≡ false
unlike_self true = refl
unlike_self false = refl

unlike_other : (s t : Bool) → beq s t ≡ false → (unlike s t ≡ true) × (unlike t s ≡ true)
unlike_other true true e = absurd (false≢true (sym e))
unlike_other true false e = (refl, refl)
unlike_other false true e = (refl, refl)
unlike_other false false e = absurd (false≢true (sym e))

-- y is P and C, added with the signs s and t and rounded; x is N / D and C. b is y's pattern without its sign
module _ (N D C b : ℕ) (pos : 0 < D) (g : Parts b (digits binary64 b) (place binary64 b)) (most : grid binary64 N D ≤ 32 * (digits binary64 b * 2 ^ place binary64 b))
    (x y : Float) (v : HasValue (magnitude y) false (digits binary64 b * 2 ^ place binary64 b) (2 ^ 1074)) where
  P : ℕ
  P = grid binary64 N D

  Y : ℕ
  Y = digits binary64 b * 2 ^ place binary64 b

  some : 6 ≤ Y
  unfolding Y
  some = at_least_six (digits binary64 b) (place binary64 b) g.full g.low

  product : Off (2 ^ 53) D (N * 2 ^ 1074) P
  unfolding P
  product = grid_near_any binary64 N D pos

  small_product : P ≤ 32 * Y
  unfolding P Y
  small_product = most

  abbrev Result : Bool → Bool → Type 0
  Result S t = Signed N D C (digits binary64 b) (place binary64 b) x y S t

  -- y is q rounded
  value_of : (s : Bool) (q : ℕ) → y ≡ round binary64 s q (2 ^ 1074) → HasValue y s (grid binary64 q (2 ^ 1074)) (2 ^ 1074)
  value_of s q e =
      subst (λ (z : Float). HasValue z s (grid binary64 q (2 ^ 1074)) (2 ^ 1074)) (sym e)
      (round_value binary64 s q (2 ^ 1074) (under_any binary64 s q (2 ^ 1074) (subst (λ (z : Float). finite z ≡ true) e (finite_magnitude y (has_finite (magnitude y) false _ _ v)))))

  rounded_to : (s : Bool) (q : ℕ) → y ≡ round binary64 s q (2 ^ 1074) → grid binary64 q (2 ^ 1074) ≡ Y
  unfolding Y
  rounded_to s q e = value_unique (magnitude y) false (grid binary64 q (2 ^ 1074)) (digits binary64 b * 2 ^ place binary64 b) (2 ^ 1074) (magnitude_value y s (grid binary64 q (2 ^ 1074)) (2 ^ 1074) (value_of s q e)) v

  total : (s : Bool) (q : ℕ) → y ≡ round binary64 s q (2 ^ 1074) → Within q (2 ^ 53 * Y) (2 ^ 53 * q)
  total s q e = subst (λ (z : ℕ). Within q (2 ^ 53 * z) (2 ^ 53 * q)) (rounded_to s q e) (grid_near_whole binary64 q)

  -- and x is X / D rounded, near it
  finish : (S t s : Bool) (q X : ℕ) → y ≡ round binary64 s q (2 ^ 1074) → x ≡ round binary64 s X (D * 2 ^ 1074) → Linked (2 ^ 53) D (N * 2 ^ 1074) q Y X → Total (unlike S s) (unlike t s) (N * 2 ^ 1074) (C * D) X → Result S t
  unfolding Y P
  finish S t s q X ey ex link made =
      let d : ℕ = digits binary64 b in
      let k : ℕ = place binary64 b in
      record {
        s = s;
        value = subst (λ (i : ℕ). HasValue y s i (2 ^ 1074)) (rounded_to s q ey) (value_of s q ey);
        once = record {
          X = X;
          is = ex;
          total = made;
          near = sum_near (2 ^ 53) D (N * 2 ^ 1074) C P (d * 2 ^ k) q (lit≤ tt) pos some product (total s q ey) most X (2 ^ k) link (mul-le-mul_right (2 ^ k) (le_of_lt g.short)) (at_least_three k g.low);
          most = link.1;
        };
      }

  alike : (s : Bool) → y ≡ sum binary64 s P s C (2 ^ 1074) → x ≡ sum binary64 s (N * 2 ^ 1074) s (C * D) (D * 2 ^ 1074) → Result s s
  alike s ey ex =
      let e = ey ∙ sum_alike binary64 s P C (2 ^ 1074) in
      finish s s s (P + C) (N * 2 ^ 1074 + C * D) e (ex ∙ sum_alike binary64 s (N * 2 ^ 1074) (C * D) (D * 2 ^ 1074))
      (linked_sum (2 ^ 53) D (N * 2 ^ 1074) C P Y (P + C) (lit≤ tt) pos some product (total s (P + C) e) small_product refl (N * 2 ^ 1074 + C * D) refl)
      (subst (λ (u : Bool). Total u u (N * 2 ^ 1074) (C * D) (N * 2 ^ 1074 + C * D)) (sym (unlike_self s)) (plus (N * 2 ^ 1074) (C * D)))
    where
      plus : (i j : ℕ) → i + j + (0 + 0) ≡ i + j
      plus i j = omega arith

  back : (i j : ℕ) → j < i → i - j + j ≡ i
  back i j l = omega arith

  back_first : (i j : ℕ) → j < i → i - j + (0 + j) ≡ i + 0
  back_first i j l = omega arith

  back_second : (i j : ℕ) → j < i → i - j + (j + 0) ≡ 0 + i
  back_second i j l = omega arith

  unalike : (s t : Bool) → beq s t ≡ false → y ≡ sum binary64 s P t C (2 ^ 1074) → x ≡ sum binary64 s (N * 2 ^ 1074) t (C * D) (D * 2 ^ 1074) → Result s t
  unalike s t apart ey ex = go (order P C)
    where
      M : ℕ
      M = N * 2 ^ 1074

      go : Order P C → Result s t
      go (more l) =
          let e = ey ∙ sum_more binary64 s t P C (2 ^ 1074) apart l in
          let w = total s (P - C) e in
          let m = product_above (2 ^ 53) D M C P Y (P - C) (lit≤ tt) pos some product w small_product (back P C l) in
          finish s t s (P - C) (M - C * D) e (ex ∙ sum_more binary64 s t M (C * D) (D * 2 ^ 1074) apart m)
          (linked_above (2 ^ 53) D M C P Y (P - C) (lit≤ tt) pos some product w small_product (back P C l) (M - C * D) (back M (C * D) m))
          (subst (λ (u : Bool). Total u (unlike t s) M (C * D) (M - C * D)) (sym (unlike_self s)) (subst (λ (u : Bool). Total false u M (C * D) (M - C * D)) (sym (unlike_other s t apart).1) (back_first M (C * D) m)))
      go (less l) =
          let e = ey ∙ sum_less binary64 s t P C (2 ^ 1074) apart l in
          let w = total t (C - P) e in
          let m = product_below (2 ^ 53) D M C P Y (C - P) (lit≤ tt) pos some product w small_product (back C P l) in
          finish s t t (C - P) (C * D - M) e (ex ∙ sum_less binary64 s t M (C * D) (D * 2 ^ 1074) apart m)
          (linked_below (2 ^ 53) D M C P Y (C - P) (lit≤ tt) pos some product w small_product (back C P l) (C * D - M) (back (C * D) M m))
          (subst (λ (u : Bool). Total (unlike s t) u M (C * D) (C * D - M)) (sym (unlike_self t)) (subst (λ (u : Bool). Total u false M (C * D) (C * D - M)) (sym (unlike_other s t apart).0) (back_second (C * D) M m)))
      go (none q) = absurd (nothing Y some (total false 0 (ey ∙ sum_none binary64 s t P C (2 ^ 1074) apart q)))
        where
          nothing : (z : ℕ) → 6 ≤ z → Within 0 (2 ^ 53 * z) (2 ^ 53 * 0) → ⊥
          nothing z l w = omega arith

  either : (s t : Bool) → y ≡ sum binary64 s (grid binary64 N D) t C (2 ^ 1074) → x ≡ sum binary64 s (N * 2 ^ 1074) t (C * D) (D * 2 ^ 1074) → Result s t
  unfolding P
  either true true ey ex = alike true ey ex
  either false false ey ex = alike false ey ex
  either true false ey ex = unalike true false refl ey ex
  either false true ey ex = unalike false true refl ey ex

-- ---- so the fused sum of three floats
shared : (i u : ℕ) → i * u * u ≡ i * (u * u)
shared i u = mul_assoc i u u

-- a float's size in units, by its pattern
unfoldable pub units_of : ℕ → ℕ
units_of b = digits binary64 b * 2 ^ place binary64 b

pub fused_once : (a b c : Float) → T (fits binary64 a) → T (fits binary64 b) → T (fits binary64 c)
    → let p = mul binary64 a b in let y = add binary64 p c in let n = to_bits binary64 y % 2 ^ 63 in T (not (is_nan p)) → T (not (is_nan y))
    → to_bits binary64 p % 2 ^ 63 ≤ n + 5 * 2 ^ 52 → Parts n (digits binary64 n) (place binary64 n)
    → Once (units_of (to_bits binary64 a) * units_of (to_bits binary64 b)) (2 ^ 1074 * 2 ^ 1074) (units_of (to_bits binary64 c)) (digits binary64 n) (place binary64 n) (fma binary64 a b c)
    (negative binary64 (to_bits binary64 p)) (negative binary64 (to_bits binary64 c)) (negative binary64 (to_bits binary64 y))
unfolding units_of
fused_once a b c ta tb tc np ny l g =
    let u : ℕ = 2 ^ 1074 in
    let p : Float = mul binary64 a b in
    let y : Float = add binary64 p c in
    let fp = mul-fits binary64 a b in
    let fy = add-fits binary64 p c in
    let n : ℕ = to_bits binary64 y % 2 ^ 63 in
    let d : ℕ = digits binary64 n in
    let k : ℕ = place binary64 n in
    let Y : ℕ = d * 2 ^ k in
    let v : HasValue (magnitude y) false Y u =
    subst (λ (s : Bool). HasValue (magnitude y) s Y u) (not_negative n d k g)
    (subst (λ (x : Float). HasValue x (negative binary64 n) Y u) (of_low binary64 y fy ny) (read binary64 n (below_ones n d k g))) in
    let gy = finite_magnitude y (has_finite (magnitude y) false Y u v) in
    let fs = finite_sum binary64 p c gy in
    let ff = finite_product binary64 a b fs.0 in
    let va = (of_finite a ta ff.0).value in
    let vb = (of_finite b tb ff.1).value in
    let vc = (of_finite c tc fs.1).value in
    let sa : Bool = negative binary64 (to_bits binary64 a) in
    let sb : Bool = negative binary64 (to_bits binary64 b) in
    let sc : Bool = negative binary64 (to_bits binary64 c) in
    let A : ℕ = digits binary64 (to_bits binary64 a) * 2 ^ place binary64 (to_bits binary64 a) in
    let B : ℕ = digits binary64 (to_bits binary64 b) * 2 ^ place binary64 (to_bits binary64 b) in
    let C : ℕ = digits binary64 (to_bits binary64 c) * 2 ^ place binary64 (to_bits binary64 c) in
    let S : Bool = unlike sa sb in
    let P : ℕ = grid binary64 (A * B) (u * u) in
    let ep : p ≡ round binary64 S (A * B) (u * u) = mul_value binary64 a b sa sb A u B u (pow_pos 1074) (pow_pos 1074) va vb in
    let vp : HasValue p S P u =
    subst (λ (x : Float). HasValue x S P u) (sym ep) (round_value binary64 S (A * B) (u * u) (under_any binary64 S (A * B) (u * u) (subst (λ (x : Float). finite x ≡ true) ep fs.0))) in
    let i : ℕ = to_bits binary64 p % 2 ^ 63 in
    let ei : P ≡ digits binary64 i * 2 ^ place binary64 i =
    subst (λ (x : ℕ). P ≡ digits binary64 x * 2 ^ place binary64 x) (sym (low_pattern binary64 p fp np)) (by_digits (magnitude p) false P (magnitude_fits binary64 p fp) (magnitude_value p S P u vp)) in
    let most : P ≤ 32 * Y =
    subst (λ (x : ℕ). x ≤ 32 * Y) (sym ei)
    (at_most_32 (2 ^ 52) (lit≤ tt) d k (digits binary64 i) (place binary64 i) g.full g.short (digits_full binary64 i) (digits_lt binary64 i)
    (ordered _ _ i n (whole_pattern i (mod-lt (to_bits binary64 p) (pow_pos 63))) g.sum l)) in
    let ey = add_value binary64 p c S sc P u C u (pow_pos 1074) (pow_pos 1074) vp vc
    ∙ sum_same binary64 S sc (P * u) (C * u) (u * u) P C u (mul-pos (pow_pos 1074) (pow_pos 1074)) (pow_pos 1074) (shared P u) (shared C u) in
    let ex = fma_value binary64 a b c sa sb sc A u B u C u (pow_pos 1074) (pow_pos 1074) (pow_pos 1074) va vb vc in
    let r = either (A * B) (u * u) C n (mul-pos (pow_pos 1074) (pow_pos 1074)) g most (fma binary64 a b c) y v S sc ey ex in
    let hs : r.s ≡ negative binary64 (to_bits binary64 y) = same_sign y r.s (negative binary64 (to_bits binary64 y)) Y u _ u r.value (of_finite y fy gy).value in
    let hp : S ≡ negative binary64 (to_bits binary64 p) = same_sign p S (negative binary64 (to_bits binary64 p)) P u _ u vp (of_finite p fp fs.0).value in
    subst (λ (z : Bool). Once (A * B) (u * u) C d k (fma binary64 a b c) z sc (negative binary64 (to_bits binary64 y))) hp (subst (λ (z : Bool). Once (A * B) (u * u) C d k (fma binary64 a b c) S sc z) hs r.once)
  where
    ordered : (i j k n : ℕ) → i ≡ k → j ≡ n → k ≤ n + 5 * 2 ^ 52 → i ≤ j + 5 * 2 ^ 52
    ordered i j k n e f l = omega arith

-- it does not overflow
pub once_under : (N D C b : ℕ) (x : Float) (S t s : Bool) → 0 < D → Parts b (digits binary64 b) (place binary64 b) → (w : Once N D C (digits binary64 b) (place binary64 b) x S t s)
    → grid binary64 w.X (D * 2 ^ 1074) < overflow binary64
once_under N D C b x S t s pos g w =
    grid_under binary64 w.X (D * 2 ^ 1074) (mul-pos pos (pow_pos 1074)) (not_over w.X (digits binary64 b * 2 ^ place binary64 b) D (2 ^ 1074) (2 ^ 1023) w.most (small (digits binary64 b) (place binary64 b) g.short g.high) pos)

-- ---- where y is apart from the ties, x is narrowed as y is
narrow_near : (N D C b r : ℕ) (x : Float) (S t s : Bool) → 0 < D → Apart b r → Once N D C (digits binary64 b) (place binary64 b) x S t s → cond s (2 ^ 31) 0 + r ≡ narrow x
narrow_near N D C b r x S t s pos h w =
    let g = parts b h.least h.most in
    let d : ℕ = digits binary64 b in
    let k : ℕ = place binary64 b in
    let X : ℕ = w.X in
    let E : ℕ = D * 2 ^ 1074 in
    let z : Float = round binary64 false X E in
    let e : ℕ = digits binary64 (to_bits binary64 z) in
    let j : ℕ = place binary64 (to_bits binary64 z) in
    let R : ℕ = grid binary64 X E in
    let o = once_under N D C b x S t s pos g w in
    let m : Within (256 * 2 ^ k) R (d * 2 ^ k) =
    once_near (2 ^ 53) D X (d * 2 ^ k) R (2 ^ k) (lit≤ tt) pos w.near w.most (cancel_unit (2 ^ 53) D (2 ^ 1074) X R (pow_pos 1074) (grid_near_any binary64 X E (mul-pos pos (pow_pos 1074))))
    (mul-le-mul_right (2 ^ k) (le_of_lt g.short)) (at_least_three k g.low) in
    let u : Within (256 * 2 ^ k) (e * 2 ^ j) (d * 2 ^ k) = subst (λ (i : ℕ). Within (256 * 2 ^ k) i (d * 2 ^ k)) (by_digits z false R (round-fits binary64 false X E) (round_val binary64 X E o)) m in
    let n : Within 512 (j * 2 ^ 52 + e) (k * 2 ^ 52 + d) = near_patterns (2 ^ 52) (lit≤ tt) d k e j g.full g.short (digits_full binary64 (to_bits binary64 z)) (digits_lt binary64 (to_bits binary64 z)) u in
    let p : pat false e j ≡ r = same_pattern b r h e j (digits_lt binary64 (to_bits binary64 z)) (digits_full binary64 (to_bits binary64 z)) (subst (λ (i : ℕ). Within 512 (j * 2 ^ 52 + e) i) g.sum n) in
    sym (ap narrow w.is ∙ narrow_round s X E o ∙ ap (λ (i : ℕ). cond s (2 ^ 31) 0 + i) p)

pub narrow_alike : (a b c : Float) → T (fits binary64 a) → T (fits binary64 b) → T (fits binary64 c) → (r : ℕ)
    → let p = mul binary64 a b in let y = add binary64 p c in T (not (is_nan p)) → T (not (is_nan y))
    → to_bits binary64 p % 2 ^ 63 ≤ to_bits binary64 y % 2 ^ 63 + 5 * 2 ^ 52 → Apart (to_bits binary64 y % 2 ^ 63) r
    → cond (negative binary64 (to_bits binary64 y)) (2 ^ 31) 0 + r ≡ narrow (fma binary64 a b c)
narrow_alike a b c ta tb tc r np ny l h =
    narrow_near _ (2 ^ 1074 * 2 ^ 1074) _ _ r (fma binary64 a b c) _ _ _ (mul-pos (pow_pos 1074) (pow_pos 1074)) h (fused_once a b c ta tb tc np ny l (parts _ h.least h.most))
