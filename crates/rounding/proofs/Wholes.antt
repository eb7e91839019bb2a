-- The whole numbers below, above and nearest to a value, by any fraction that the value equals, in a format given as a parameter; and where a value is whole already.
-- Assumes nothing.
use Rattle.std.proofs.Common.{◌≡◌, ℕ, zero, suc, ◌+◌, ◌-◌, ◌*◌, ◌/◌, ◌%◌, ◌^◌, ◌<◌, ◌≤◌, Bool, true, false, cond, not, T, ◌⊎◌, pos, sym, refl, ap, ◌∙◌, subst, inl, inr, le_trans, le_of_eq, le_of_suc-le-suc, lt_of_lt_of_le, mod-eq_of_lt, mul-le-mul_right, mod-lt, zero-lt-suc, mul_assoc, suc-mul, mul_comm, div-lt_iff_lt-mul, add-mul, le_antisymm, eq-or-lt_of_le, mul-le-mul_left, mul-pos, div-add-mod', zero-add, mul-one, mul-add, div-le_self, mul_right_comm, le_of_mul-le-mul_right, div-one, mul_left_comm, arith, le→leb, pow_pos, pow_mono, pow-add, le-leb}
use native.Mathlib.Nat.{div-div-eq-div-mul, add-div_right, div-eq_of_lt}
use lib.Arith.{digits_div}
use lib.Pow.{shr_le}
use lib.Ieee.{Float, nan, inf, fin, Format, binary64, prec, low, ones, up, down, round, neg, fits, is_nan, of_int, in_float, of_bits, to_bits}
use lib.Ieee.Bits.{of_bits-fits, of_bits-to_bits}
use lib.Ieee.Exact.{HasValue}
use lib.Ieee.Fits.{down_pos}
use lib.Ieee.Nearest.{div_same}
use Rattle.rounding.specs.Fields.{field, digits, place, negative}
use borrow.Author.Tests.{lt-leb}
use Rattle.rounding.specs.Sticky.{some}
use Rattle.rounding.specs.Rounding.{cut, lifted, half_up, floor, ceil, round_away}
use Rattle.rounding.proofs.Exact.{value_same, round_same_float}
use Rattle.rounding.proofs.Signs.{round_not}
use Rattle.rounding.proofs.Sticky.{power, rest}
use Rattle.rounding.proofs.Read.{read, read_inf, digits_lt, field_le, no_nan_bits}

-- ---- equal fractions have the same whole numbers about them
lifted_le : (a c n : ℕ) → 0 < c → a ≤ n * c → lifted a c ≤ n
lifted_le a c n C h = le_of_suc-le-suc ((div-lt_iff_lt-mul C).1 (subst (λ (x : ℕ). a + (c - 1) < x) (sym (suc-mul n c)) (omega arith)))

pub lifted_ge : (a c : ℕ) → 0 < c → a ≤ lifted a c * c
lifted_ge a c C =
    let e = div-add-mod' (a + (c - 1)) c in
    let l = mod-lt (a + (c - 1)) C in
    omega arith

lifted_mono : (a c b d : ℕ) → 0 < c → 0 < d → a * d ≡ b * c → lifted a c ≤ lifted b d
lifted_mono a c b d C D e =
    let n = lifted b d in
    lifted_le a c n C
    (le_of_mul-le-mul_right (le_trans (le_of_eq e) (le_trans (mul-le-mul_right c (lifted_ge b d D)) (le_of_eq (mul_right_comm n d c)))) D)

pub lifted_same : (a c b d : ℕ) → 0 < c → 0 < d → a * d ≡ b * c → lifted a c ≡ lifted b d
lifted_same a c b d C D e = le_antisymm (lifted_mono a c b d C D e) (lifted_mono b d a c D C (sym e))

pub half_same : (a c b d : ℕ) → 0 < c → 0 < d → a * d ≡ b * c → half_up a c ≡ half_up b d
half_same a c b d C D e =
    div_same (2 * a + c) (2 * c) (2 * b + d) (2 * d) (mul-pos (zero-lt-suc 1) C) (mul-pos (zero-lt-suc 1) D)
    (add-mul (2 * a) c (2 * d) ∙ sum (2 * a * (2 * d)) (2 * b * (2 * c)) (c * (2 * d)) (d * (2 * c)) (four a d ∙ ap (λ (x : ℕ). 4 * x) e ∙ sym (four b c)) (simp (mul_comm, mul_left_comm)) ∙ sym (add-mul (2 * b) d (2 * c)))
  where
    four : (a d : ℕ) → 2 * a * (2 * d) ≡ 4 * (a * d)
    four a d = mul_assoc 2 a (2 * d) ∙ ap (λ (x : ℕ). 2 * x) (mul_left_comm a 2 d) ∙ sym (mul_assoc 2 2 (a * d))

    sum : (x y p q : ℕ) → x ≡ y → p ≡ q → x + p ≡ y + q
    sum x y p q g h = omega arith

-- ---- floor and the nearest whole number of a value that equals a / c
module _ (f : Format) where
  pub floor_value : (x : Float) (s : Bool) (a c : ℕ) → 0 < c → HasValue x s a c → floor f x ≡ round f s (cond s (lifted a c) (cut a c)) 1
  unfolding floor
  floor_value nan s a c C v = absurd v
  floor_value (inf t) s a c C v = absurd v
  floor_value (fin t m e) s a c C v =
      ap (λ (b : Bool). round f b (cond b (lifted (m * up e) (down e)) (cut (m * up e) (down e))) 1) v.0
      ∙ ap (λ (x : ℕ). round f s (cond s x (cut (m * up e) (down e))) 1) (lifted_same (m * up e) (down e) a c (down_pos e) C v.1)
      ∙ ap (λ (x : ℕ). round f s (cond s (lifted a c) x) 1) (div_same (m * up e) (down e) a c (down_pos e) C v.1)

  pub away_value : (x : Float) (s : Bool) (a c : ℕ) → 0 < c → HasValue x s a c → round_away f x ≡ round f s (half_up a c) 1
  unfolding round_away
  away_value nan s a c C v = absurd v
  away_value (inf t) s a c C v = absurd v
  away_value (fin t m e) s a c C v =
      ap (λ (b : Bool). round f b (half_up (m * up e) (down e)) 1) v.0 ∙ ap (λ (x : ℕ). round f s x 1) (half_same (m * up e) (down e) a c (down_pos e) C v.1)

-- ---- a power of two taken off both parts of a fraction
pub value_down : (x : Float) (s : Bool) (a k l : ℕ) → HasValue x s (a * 2 ^ k) (2 ^ (l + k)) → HasValue x s a (2 ^ l)
value_down x s a k l v = value_same x s (a * 2 ^ k) (2 ^ (l + k)) a (2 ^ l) (pow_pos (l + k)) v (mul_right_comm a (2 ^ k) (2 ^ l) ∙ mul_assoc a (2 ^ l) (2 ^ k) ∙ ap (λ (z : ℕ). a * z) (sym (pow-add 2 l k)))

-- ---- a value that is whole
pub cut_one : (n : ℕ) → cut n 1 ≡ n
cut_one n = div-one n

pub lifted_one : (n : ℕ) → lifted n 1 ≡ n
lifted_one n = omega arith

pub half_one : (n : ℕ) → half_up n 1 ≡ n
half_one n = omega arith

either : (s : Bool) (a b n : ℕ) → a ≡ n → b ≡ n → cond s a b ≡ n
either true a b n p q = p
either false a b n p q = q

-- of a pattern whose place is at or above that of 1, the value is whole, and is what `round` makes of that whole number
module _ (f : Format) (b : ℕ) (finite : field f b < ones f) (whole : low f ≤ place f b) where
  n : ℕ
  n = digits f b * 2 ^ (place f b - low f)

  value : HasValue (of_bits f b) (negative f b) n 1
  unfolding n
  value =
      let k = place f b in
      let j = k - low f in
      let split : 2 ^ k ≡ 2 ^ j * 2 ^ low f = ap (λ (x : ℕ). 2 ^ x) (omega arith) ∙ pow-add 2 j (low f) in
      value_down (of_bits f b) (negative f b) n (low f) 0
      (subst (λ (x : ℕ). HasValue (of_bits f b) (negative f b) (digits f b * 2 ^ j * 2 ^ low f) (2 ^ x)) (sym (zero-add (low f)))
      (subst (λ (x : ℕ). HasValue (of_bits f b) (negative f b) x (2 ^ low f)) (ap (λ (x : ℕ). digits f b * x) split ∙ sym (mul_assoc (digits f b) (2 ^ j) (2 ^ low f))) (read f b finite)))

  itself : round f (negative f b) n 1 ≡ of_bits f b
  itself = round_same_float f (of_bits f b) (negative f b) n 1 (zero-lt-suc 0) (of_bits-fits f b) value

  pub floor_whole : floor f (of_bits f b) ≡ of_bits f b
  floor_whole =
      let s = negative f b in
      floor_value f (of_bits f b) s n 1 (zero-lt-suc 0) value ∙ ap (λ (x : ℕ). round f s x 1) (either s (lifted n 1) (cut n 1) n (lifted_one n) (cut_one n)) ∙ itself

  pub away_whole : round_away f (of_bits f b) ≡ of_bits f b
  away_whole =
      let s = negative f b in
      away_value f (of_bits f b) s n 1 (zero-lt-suc 0) value ∙ ap (λ (x : ℕ). round f s x 1) (half_one n) ∙ itself

-- ---- upwards is downwards of the negative
pub ceil_floor : (f : Format) (x : Float) → neg (floor f (neg x)) ≡ ceil f x
unfolding ceil floor neg
ceil_floor f nan = refl
ceil_floor f (inf true) = refl
ceil_floor f (inf false) = refl
ceil_floor f (fin true m e) = sym (round_not f false (cut (m * up e) (down e)) 1)
ceil_floor f (fin false m e) = sym (round_not f true (lifted (m * up e) (down e)) 1)

-- ---- how the code comes to them
pub lifted_some : (d u : ℕ) → 0 < u → lifted d u ≡ d / u + some (d % u)
lifted_some d u B = go (d % u) refl (div-add-mod' d u) (mod-lt d B)
  where
    again : (x y : ℕ) → x ≡ y → x / u ≡ y / u
    again x y e = ap (λ (z : ℕ). z / u) e

    go : (r : ℕ) → d % u ≡ r → d / u * u + d % u ≡ d → d % u < u → lifted d u ≡ d / u + some (d % u)
    go zero z e l = again (d + (u - 1)) (d / u * u + (u - 1)) (omega arith) ∙ digits_div (d / u) (omega arith) ∙ omega arith
    go (suc r) z e l =
        let w : suc (d / u) * u ≡ d / u * u + u = suc-mul (d / u) u in
        again (d + (u - 1)) (suc (d / u) * u + r) (omega arith) ∙ digits_div (suc (d / u)) (omega arith) ∙ omega arith

pub half_shift : (d t : ℕ) → 0 < t → half_up d (2 * t) ≡ (d / t + 1) / 2
half_shift d t B =
    div_same (2 * d + 2 * t) (2 * (2 * t)) (d + t) (2 * t) (mul-pos (zero-lt-suc 1) (mul-pos (zero-lt-suc 1) B)) (mul-pos (zero-lt-suc 1) B)
    (ap (λ (x : ℕ). x * (2 * t)) (sym (mul-add 2 d t) ∙ mul_comm 2 (d + t)) ∙ mul_assoc (d + t) 2 (2 * t))
    ∙ ap (λ (x : ℕ). (d + t) / x) (mul_comm 2 t)
    ∙ sym (div-div-eq-div-mul (d + t) t 2)
    ∙ ap (λ (x : ℕ). x / 2) (add-div_right d B)

pub cut_le : (d u : ℕ) → cut d u ≤ d
cut_le d u = div-le_self d u

pub lifted_le_self : (d u : ℕ) → 0 < u → lifted d u ≤ d
lifted_le_self d u B = lifted_le d u d B (le_trans (le_of_eq (sym (mul-one d))) (mul-le-mul_left d B))

-- by shifts of a number of 64 digits
pub cut_past : (d s : ℕ) → d < 2 ^ 64 → 64 ≤ s → 0 ≡ cut d (2 ^ s)
cut_past d s h g = sym (div-eq_of_lt (lt_of_lt_of_le h (pow_mono g)))

pub lifted_shift : (d s : ℕ) → d < 2 ^ 64 → d / 2 ^ s + some (d - d / 2 ^ s * 2 ^ s % 2 ^ 64) ≡ lifted d (2 ^ s)
lifted_shift d s h = ap (λ (x : ℕ). d / 2 ^ s + some x) (rest d (2 ^ s) h) ∙ sym (lifted_some d (2 ^ s) (pow_pos s))

pub lifted_past : (d s : ℕ) → d < 2 ^ 64 → 64 ≤ s → some d ≡ lifted d (2 ^ s)
lifted_past d s h g =
    let l = lt_of_lt_of_le h (pow_mono g) in
    sym (lifted_some d (2 ^ s) (pow_pos s) ∙ ap (λ (x : ℕ). x + some (d % 2 ^ s)) (div-eq_of_lt l) ∙ ap (λ (x : ℕ). 0 + some x) (mod-eq_of_lt l) ∙ zero-add (some d))

-- ---- an f64 x whose place p is below that of 1: x is d / 2 ^ (1074 - p), and the code hands back a whole number with x's sign
abbrev pub signed : Bool → ℕ → Float
signed false n = of_int binary64 (pos n)
signed true n = neg (of_int binary64 (pos n))

signed_is : (s : Bool) (n : ℕ) → signed s n ≡ round binary64 s n 1
unfolding of_int
signed_is false n = refl
signed_is true n = sym (round_not binary64 false n 1)

below_ones : (b : ℕ) → place binary64 b < 1074 → field binary64 b < 2047
unfolding place
below_ones b h = omega arith

-- what the code's test of the sign's bit tells
plus_sign : (b : ℕ) → b < 2 ^ 63 → negative binary64 b ≡ false
plus_sign b h = lt-leb (2 ^ 63) b h

minus_sign : (b : ℕ) → 2 ^ 63 ≤ b → negative binary64 b ≡ true
minus_sign b h = le-leb (2 ^ 63) b h

module _ (x : Float) (held : T (fits binary64 x)) (p d : ℕ) (P : p ≡ place binary64 (to_bits binary64 x)) (D : d ≡ digits binary64 (to_bits binary64 x)) (small : p < 1074) where
  part : HasValue x (negative binary64 (to_bits binary64 x)) d (2 ^ (1074 - p))
  part =
      let b = to_bits binary64 x in
      let e : 1074 - p + p ≡ 1074 = omega arith in
      subst (λ (y : Float). HasValue y (negative binary64 b) d (2 ^ (1074 - p))) (of_bits-to_bits binary64 x held)
      (value_down (of_bits binary64 b) (negative binary64 b) d p (1074 - p)
      (subst (λ (l : ℕ). HasValue (of_bits binary64 b) (negative binary64 b) (d * 2 ^ p) (2 ^ l)) (sym e)
      (subst (λ (k : ℕ). HasValue (of_bits binary64 b) (negative binary64 b) (d * 2 ^ k) (2 ^ 1074)) (sym P)
      (subst (λ (k : ℕ). HasValue (of_bits binary64 b) (negative binary64 b) (k * 2 ^ place binary64 b) (2 ^ 1074)) (sym D) (read binary64 b (below_ones b (subst (λ (k : ℕ). k < 1074) P small)))))))

  floor_part : (s : Bool) (n : ℕ) → negative binary64 (to_bits binary64 x) ≡ s → n ≡ cond s (lifted d (2 ^ (1074 - p))) (cut d (2 ^ (1074 - p))) → signed s n ≡ floor binary64 x
  floor_part s n S N =
      signed_is s n ∙ ap (λ (k : ℕ). round binary64 s k 1) N
      ∙ sym (floor_value binary64 x s d (2 ^ (1074 - p)) (pow_pos (1074 - p)) (subst (λ (t : Bool). HasValue x t d (2 ^ (1074 - p))) S part))

  away_part : (s : Bool) (n : ℕ) → negative binary64 (to_bits binary64 x) ≡ s → n ≡ half_up d (2 ^ (1074 - p)) → signed s n ≡ round_away binary64 x
  away_part s n S N =
      signed_is s n ∙ ap (λ (k : ℕ). round binary64 s k 1) N
      ∙ sym (away_value binary64 x s d (2 ^ (1074 - p)) (pow_pos (1074 - p)) (subst (λ (t : Bool). HasValue x t d (2 ^ (1074 - p))) S part))

-- by the code's test of the sign's bit
module _ (x : Float) (held : T (fits binary64 x)) (small : place binary64 (to_bits binary64 x) < 1074) where
  abbrev own : ℕ
  own = digits binary64 (to_bits binary64 x)

  abbrev unit : ℕ
  unit = 2 ^ (1074 - place binary64 (to_bits binary64 x))

  pub floor_above : (n : ℕ) → to_bits binary64 x < 2 ^ 63 → n ≡ cut own unit → of_int binary64 (pos n) ≡ floor binary64 x
  floor_above n s e = floor_part x held _ _ refl refl small false n (plus_sign _ s) e

  pub floor_below : (n : ℕ) → 2 ^ 63 ≤ to_bits binary64 x → n ≡ lifted own unit → neg (of_int binary64 (pos n)) ≡ floor binary64 x
  floor_below n s e = floor_part x held _ _ refl refl small true n (minus_sign _ s) e

  pub away_above : (n : ℕ) → to_bits binary64 x < 2 ^ 63 → n ≡ half_up own unit → of_int binary64 (pos n) ≡ round_away binary64 x
  away_above n s e = away_part x held _ _ refl refl small false n (plus_sign _ s) e

  pub away_below : (n : ℕ) → 2 ^ 63 ≤ to_bits binary64 x → n ≡ half_up own unit → neg (of_int binary64 (pos n)) ≡ round_away binary64 x
  away_below n s e = away_part x held _ _ refl refl small true n (minus_sign _ s) e

-- ---- an f64 whose place is at or above that of 1, and a NaN: the code hands back x
module _ (x : Float) (held : T (fits binary64 x)) (no : T (not (is_nan x))) (high : 1074 ≤ place binary64 (to_bits binary64 x)) where
  kept : (F : Float → Float) → ((s : Bool) → F (inf s) ≡ inf s) → (field binary64 (to_bits binary64 x) < 2047 → F (of_bits binary64 (to_bits binary64 x)) ≡ of_bits binary64 (to_bits binary64 x)) → x ≡ F x
  kept F I W =
      let b = to_bits binary64 x in
      let e = of_bits-to_bits binary64 x held in
      sym (subst (λ (y : Float). F y ≡ y) e (go (eq-or-lt_of_le (field_le binary64 b))))
    where
      go : (field binary64 (to_bits binary64 x) ≡ 2047) ⊎ (field binary64 (to_bits binary64 x) < 2047) → F (of_bits binary64 (to_bits binary64 x)) ≡ of_bits binary64 (to_bits binary64 x)
      go (inl e) = let i = read_inf binary64 (to_bits binary64 x) e (no_nan_bits binary64 x held no) in subst (λ (y : Float). F y ≡ y) (sym i) (I (negative binary64 (to_bits binary64 x)))
      go (inr l) = W l

  pub floor_kept : x ≡ floor binary64 x
  unfolding floor
  floor_kept = kept (floor binary64) (λ s. refl) (λ l. floor_whole binary64 (to_bits binary64 x) l high)

  pub away_kept : x ≡ round_away binary64 x
  unfolding round_away
  away_kept = kept (round_away binary64) (λ s. refl) (λ l. away_whole binary64 (to_bits binary64 x) l high)

pub floor_nan : (x : Float) → x ≡ nan → x ≡ floor binary64 x
unfolding floor
floor_nan x e = subst (λ (y : Float). y ≡ floor binary64 y) (sym e) refl

pub away_nan : (x : Float) → x ≡ nan → x ≡ round_away binary64 x
unfolding round_away
away_nan x e = subst (λ (y : Float). y ≡ round_away binary64 y) (sym e) refl

-- ---- what the code has to show on the way
pub below : (f : Format) (b d : ℕ) → d ≡ digits f b → d < 2 ^ prec f
below f b d e = subst (λ (n : ℕ). n < 2 ^ prec f) (sym e) (digits_lt f b)

pub cast_fits : (n : ℕ) → n ≤ 2 ^ 53 → T (in_float binary64 (pos n))
unfolding in_float
cast_fits n h = le→leb n (2 ^ 53) h

pub half_le : (d s : ℕ) → d < 2 ^ 53 → 1 ≤ s → half_up d (2 ^ s) ≤ 2 ^ 53
half_le d s h g =
    let t = 2 ^ (s - 1) in
    let e : 2 * t ≡ 2 ^ s = power s g in
    let l : half_up d (2 ^ s) ≡ (d / t + 1) / 2 = ap (λ (x : ℕ). half_up d x) (sym e) ∙ half_shift d t (pow_pos (s - 1)) in
    let m = shr_le d (s - 1) in
    omega arith
