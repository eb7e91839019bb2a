-- The Euclidean remainder, in a format given as a parameter: exact of a dividend that is not negative, and one rounding of what is missing to the divisor's size of another.
-- And the records of the laws of whole numbers. Assumes nothing.
use Rattle.std.proofs.Common.{◌≡◌, ℕ, zero, suc, ◌+◌, ◌-◌, ◌*◌, ◌%◌, ◌^◌, ◌<◌, ◌≤◌, Bool, true, false, cond, not, T, ◌⊎◌, inl, inr, sym, refl, ap, ◌∙◌, subst, le_of_lt, mod-lt, mul-pos, mul-le-mul_right, mul-lt-mul_of_pos_right, mul_assoc, ◌||◌, zero-lt-suc, arith, pow_pos, lt-ltb, le-ltb, eq-eqb}
use lib.Ieee.{Float, nan, inf, fin, Format, low, up, down, round, add, rem, lt, eq, le, of_bits, to_unsigned}
use lib.Ieee.Exact.{HasValue}
use lib.Ieee.Fits.{up_pos}
use lib.Ieee.Order.{round_mono}
use lib.Ieee.Scale.{round_same}
use Rattle.rounding.specs.Rounding.{floor, ceil, round_away, magnitude, rem_euclid}
use Rattle.rounding.specs.Wholes.{InUnits, WholeLaws, TruncateLaws, EuclidLaws}
use Rattle.rounding.proofs.Compare.{lt_value, is_le, holds, fails}
use Rattle.rounding.proofs.Exact.{round_same_float, value_same}
use Rattle.rounding.proofs.Integral.{floor_plus, floor_minus, ceil_plus, ceil_minus, away, floor_fits, ceil_fits, away_fits, truncate_plus, truncate_past, truncate_minus}
use Rattle.rounding.proofs.Modulo.{rem_exact, zero_value, not_below_zero}
use Rattle.rounding.proofs.Operations.{add_value}
use Rattle.rounding.proofs.SignBit.{magnitude_fits}
use Rattle.rounding.proofs.Signs.{magnitude_value}
use Rattle.rounding.proofs.Sum.{sum_less, mul_sub_r}

-- ---- by what the remainder is
module _ (f : Format) (x y : Float) where
  from_rest : lt (rem f x y) (of_bits f 0) ≡ false → rem_euclid f x y ≡ rem f x y
  unfolding rem_euclid
  from_rest e = ap (λ (z : Bool). cond z (add f (rem f x y) (magnitude y)) (rem f x y)) e

  from_sum : lt (rem f x y) (of_bits f 0) ≡ true → rem_euclid f x y ≡ add f (rem f x y) (magnitude y)
  unfolding rem_euclid
  from_sum e = ap (λ (z : Bool). cond z (add f (rem f x y) (magnitude y)) (rem f x y)) e

  from_nan : rem f x y ≡ nan → rem_euclid f x y ≡ nan
  unfolding lt
  from_nan e = from_rest (ap (λ (r : Float). lt r (of_bits f 0)) e ∙ none) ∙ e
    where
      none : lt nan (of_bits f 0) ≡ false
      none = refl

-- a value against zero
module _ (f : Format) (x : Float) (a c : ℕ) (C : 0 < c) where
  plus_zero : HasValue x false a c → lt x (of_bits f 0) ≡ false
  plus_zero v = lt_value x (of_bits f 0) false false a c 0 1 C (zero-lt-suc 0) v (zero_value f) ∙ le-ltb (a * 1) (0 * c) (omega arith)

  minus_zero : HasValue x true a c → a ≡ 0 → lt x (of_bits f 0) ≡ false
  minus_zero v e = lt_value x (of_bits f 0) true false a c 0 1 C (zero-lt-suc 0) v (zero_value f) ∙ le-ltb 0 (a * 1 + 0 * c) (omega arith)

  under_zero : HasValue x true a c → 0 < a → lt x (of_bits f 0) ≡ true
  under_zero v l = lt_value x (of_bits f 0) true false a c 0 1 C (zero-lt-suc 0) v (zero_value f) ∙ lt-ltb 0 (a * 1 + 0 * c) (omega arith)

-- ---- x is a units with the sign s, y is b units with the sign t
module _ (f : Format) (x y : Float) where
  rest : (s t : Bool) (a b : ℕ) → InUnits f x y s t a b → HasValue (rem f x y) s (a % b) (2 ^ low f)
  rest s t a b d = rem_exact f x y s t a b d.0 d.1 d.2 d.3 d.4

  size_of : (s t : Bool) (a b : ℕ) → InUnits f x y s t a b → HasValue (magnitude y) false b (2 ^ low f)
  size_of s t a b d = magnitude_value y t b (2 ^ low f) d.3

  pub plus : (t : Bool) (a b : ℕ) → InUnits f x y false t a b → HasValue (rem_euclid f x y) false (a % b) (2 ^ low f)
  plus t a b d =
      let r = rest false t a b d in
      subst (λ (z : Float). HasValue z false (a % b) (2 ^ low f)) (sym (from_rest f x y (plus_zero f (rem f x y) (a % b) (2 ^ low f) (pow_pos (low f)) r))) r

  pub minus_none : (t : Bool) (a b : ℕ) → InUnits f x y true t a b → a % b ≡ 0 → HasValue (rem_euclid f x y) true 0 1
  minus_none t a b d e =
      let r = rest true t a b d in
      subst (λ (z : Float). HasValue z true 0 1) (sym (from_rest f x y (minus_zero f (rem f x y) (a % b) (2 ^ low f) (pow_pos (low f)) r e)))
      (value_same (rem f x y) true (a % b) (2 ^ low f) 0 1 (pow_pos (low f)) r (omega arith))

  pub minus_some : (t : Bool) (a b : ℕ) → InUnits f x y true t a b → 0 < a % b → rem_euclid f x y ≡ round f false (b - a % b) (2 ^ low f)
  minus_some t a b d l =
      let u = 2 ^ low f in
      let U : 0 < u = pow_pos (low f) in
      let r = rest true t a b d in
      let k = a % b in
      let h : k < b = mod-lt a d.4 in
      from_sum f x y (under_zero f (rem f x y) k u U r l)
      ∙ add_value f (rem f x y) (magnitude y) true false k u b u U U r (size_of true t a b d)
      ∙ sum_less f true false (k * u) (b * u) (u * u) refl (times k b u U h)
      ∙ round_same f false (b * u - k * u) (u * u) (b - k) u (mul-pos U U) U (ap (λ (z : ℕ). z * u) (sym (mul_sub_r b k u)) ∙ mul_assoc (b - k) u u)
    where
      times : (k b u : ℕ) → 0 < u → k < b → k * u < b * u
      times k b u U h = mul-lt-mul_of_pos_right h U

  -- the two cases of a negative dividend
  Case : ℕ → ℕ → Type 0
  Case a b = (a % b ≡ 0) ⊎ (0 < a % b)

  case : (a b : ℕ) → Case a b
  unfolding Case
  case a b = go (a % b) refl
    where
      go : (k : ℕ) → a % b ≡ k → (a % b ≡ 0) ⊎ (0 < a % b)
      go zero e = inl e
      go (suc k) e = inr (subst (λ (z : ℕ). 0 < z) (sym e) (zero-lt-suc k))

  pub not_below : (s t : Bool) (a b : ℕ) → InUnits f x y s t a b → T (not (lt (rem_euclid f x y) (of_bits f 0)))
  unfolding Case
  not_below false t a b d = fails (plus_zero f (rem_euclid f x y) (a % b) (2 ^ low f) (pow_pos (low f)) (plus t a b d))
  not_below true t a b d = go (case a b)
    where
      go : Case a b → T (not (lt (rem_euclid f x y) (of_bits f 0)))
      go (inl e) = fails (minus_zero f (rem_euclid f x y) 0 1 (zero-lt-suc 0) (minus_none t a b d e) refl)
      go (inr l) = fails (ap (λ (z : Float). lt z (of_bits f 0)) (minus_some t a b d l) ∙ not_below_zero f (b - a % b) (2 ^ low f))

  pub at_most : (s t : Bool) (a b : ℕ) → InUnits f x y s t a b → T (le (rem_euclid f x y) (magnitude y))
  unfolding le Case
  at_most false t a b d =
      is_le (rem_euclid f x y) (magnitude y) (a % b) (2 ^ low f) b (2 ^ low f) (pow_pos (low f)) (pow_pos (low f)) (plus t a b d) (size_of false t a b d)
      (mul-le-mul_right (2 ^ low f) (le_of_lt (mod-lt a d.4)))
  at_most true t a b d = go (case a b)
    where
      less : HasValue (rem_euclid f x y) true 0 1 → T (le (rem_euclid f x y) (magnitude y))
      less v =
          or_l _ (eq (rem_euclid f x y) (magnitude y)) (holds
          (lt_value (rem_euclid f x y) (magnitude y) true false 0 1 b (2 ^ low f) (zero-lt-suc 0) (pow_pos (low f)) v (size_of true t a b d)
          ∙ lt-ltb 0 (0 * 2 ^ low f + b * 1) (room b (2 ^ low f) d.4)))
        where
          room : (b u : ℕ) → 0 < b → 0 < 0 * u + b * 1
          room b u h = omega arith

          or_l : (p q : Bool) → T p → T (p || q)
          or_l true q h = tt
          or_l false q h = absurd h

      go : Case a b → T (le (rem_euclid f x y) (magnitude y))
      go (inl e) = less (minus_none t a b d e)
      go (inr l) =
          let own : round f false b (2 ^ low f) ≡ magnitude y = round_same_float f (magnitude y) false b (2 ^ low f) (pow_pos (low f)) (magnitude_fits f y d.1) (size_of true t a b d) in
          ap₂T (sym (minus_some t a b d l)) own (round_mono f (b - a % b) (2 ^ low f) b (2 ^ low f) (pow_pos (low f)) (pow_pos (low f)) (mul-le-mul_right (2 ^ low f) (part b (a % b))))
        where
          part : (b k : ℕ) → b - k ≤ b
          part b k = omega arith

          ap₂T : {p p' q q' : Float} → p ≡ p' → q ≡ q' → T (le p q) → T (le p' q')
          ap₂T {p} {p'} {q} {q'} e g h = subst (λ (z : Float). T (le z q')) e (subst (λ (z : Float). T (le p z)) g h)

-- ---- where there is no value, and by an infinity
module _ (f : Format) where
  pub of_nan : (y : Float) → rem_euclid f nan y ≡ nan
  unfolding rem
  of_nan y = from_nan f nan y none
    where
      none : rem f nan y ≡ nan
      none = refl

  pub of_infinity : (s : Bool) (y : Float) → rem_euclid f (inf s) y ≡ nan
  unfolding rem
  of_infinity s y = from_nan f (inf s) y none
    where
      none : rem f (inf s) y ≡ nan
      none = refl

  pub by_nan : (x : Float) → rem_euclid f x nan ≡ nan
  unfolding rem
  by_nan x = from_nan f x nan (none x)
    where
      none : (x : Float) → rem f x nan ≡ nan
      none nan = refl
      none (inf s) = refl
      none (fin s m e) = refl

  pub by_zero : (x y : Float) (t : Bool) → HasValue y t 0 1 → rem_euclid f x y ≡ nan
  unfolding rem
  by_zero x y t v = from_nan f x y (none x y v)
    where
      empty : (n u d : ℕ) → 0 < u → n * u * 1 ≡ 0 * d → n ≡ 0
      empty zero u d U e = refl
      empty (suc n) u d U e = absurd (no (suc n * u) d (mul-pos (zero-lt-suc n) U) e)
        where
          no : (a d : ℕ) → 0 < a → a * 1 ≡ 0 * d → ⊥
          no a d h e = omega arith

      none : (x y : Float) → HasValue y t 0 1 → rem f x y ≡ nan
      none nan y v = refl
      none (inf s) y v = refl
      none (fin s m e) nan v = absurd v
      none (fin s m e) (inf q) v = absurd v
      none (fin s m e) (fin q n g) v =
          ap (λ (b : Bool). cond b nan (round f s (m * up e * down g % (n * up g * down e)) (down e * down g))) (eq-eqb n 0 (empty n (up g) (down g) (up_pos g) v.1))

  -- by an infinity the remainder is the dividend
  whole : (x : Float) (t s : Bool) (a c : ℕ) → HasValue x s a c → rem f x (inf t) ≡ x
  unfolding rem
  whole nan t s a c v = absurd v
  whole (inf q) t s a c v = absurd v
  whole (fin q m e) t s a c v = refl

  -- a fraction of its own for a value
  pub by_infinity : (x : Float) (t : Bool) (a c : ℕ) → 0 < c → HasValue x false a c → rem_euclid f x (inf t) ≡ x
  by_infinity x t a c C v =
      let e = whole x t false a c v in
      from_rest f x (inf t) (ap (λ (z : Float). lt z (of_bits f 0)) e ∙ plus_zero f x a c C v) ∙ e

  pub zero_by_infinity : (x : Float) (t : Bool) → HasValue x true 0 1 → rem_euclid f x (inf t) ≡ x
  zero_by_infinity x t v =
      let e = whole x t true 0 1 v in
      from_rest f x (inf t) (ap (λ (z : Float). lt z (of_bits f 0)) e ∙ minus_zero f x 0 1 (zero-lt-suc 0) v refl) ∙ e

  pub minus_by_infinity : (x : Float) (t : Bool) (a c : ℕ) → 0 < c → HasValue x true a c → 0 < a → rem_euclid f x (inf t) ≡ inf false
  unfolding add magnitude
  minus_by_infinity x t a c C v l =
      let e = whole x t true a c v in
      from_sum f x (inf t) (ap (λ (z : Float). lt z (of_bits f 0)) e ∙ under_zero f x a c C v l) ∙ ap (λ (z : Float). add f z (magnitude (inf t))) e ∙ infinite x v
    where
      infinite : (x : Float) → HasValue x true a c → add f x (magnitude (inf t)) ≡ inf false
      infinite nan v = absurd v
      infinite (inf q) v = absurd v
      infinite (fin q m e) v = refl

-- ---- the records
pub wholes : (f : Format) → WholeLaws f
unfolding floor ceil round_away
wholes f =
    record {
      floor_plus = floor_plus f;
      floor_minus = floor_minus f;
      ceil_plus = ceil_plus f;
      ceil_minus = ceil_minus f;
      away = away f;
      floor_fits = floor_fits f;
      ceil_fits = ceil_fits f;
      away_fits = away_fits f;
      of_infinity = at_infinity;
      of_nan = at_nan;
    }
  where
    at_infinity : (s : Bool) → (floor f (inf s) ≡ inf s) × (ceil f (inf s) ≡ inf s) × (round_away f (inf s) ≡ inf s)
    at_infinity s = (refl, refl, refl)

    at_nan : (floor f nan ≡ nan) × (ceil f nan ≡ nan) × (round_away f nan ≡ nan)
    at_nan = (refl, refl, refl)

pub truncation : TruncateLaws
unfolding to_unsigned
truncation =
    record {
      plus = truncate_plus;
      past = truncate_past;
      minus = truncate_minus;
      of_infinity = at_infinity;
      of_nan = at_nan;
    }
  where
    at_infinity : (to_unsigned 64 (inf false) ≡ 2 ^ 64 - 1) × (to_unsigned 64 (inf true) ≡ 0)
    at_infinity = (refl, refl)

    at_nan : to_unsigned 64 nan ≡ 0
    at_nan = refl

pub euclid : (f : Format) → EuclidLaws f
euclid f =
    record {
      plus = plus f;
      minus_none = minus_none f;
      minus_some = minus_some f;
      not_below = not_below f;
      at_most = at_most f;
      of_infinity = of_infinity f;
      by_zero = by_zero f;
      of_nan = of_nan f;
      by_nan = by_nan f;
      by_infinity = by_infinity f;
      zero_by_infinity = zero_by_infinity f;
      minus_by_infinity = minus_by_infinity f;
    }
