-- The whole numbers beside a value are exact, in a format given as a parameter: of a value that is not whole they have no more digits than it has, and a whole one is its own.
-- And what they are in plain numbers. Assumes nothing.
use Rattle.std.proofs.Common.{◌≡◌, ℕ, suc, ◌+◌, ◌-◌, ◌*◌, ◌/◌, ◌^◌, ◌<◌, ◌≤◌, min, Bool, true, false, cond, not, T, leb, sym, ap, ◌∙◌, subst, le_trans, le_of_lt, le_of_suc-le-suc, mod-lt, mul_assoc, mul_left_comm, mul-le-mul_left, mul-one, mul-pos, zero-add, zero-lt-suc, suc-mul, div-lt_iff_lt-mul, div-add-mod', arith, leb→le, pow_pos, pow-add}
use native.Mathlib.Nat.{le-div_iff_mul-le}
use lib.Dec.{nleb→lt}
use lib.Ieee.{Float, nan, inf, fin, Format, low, up, down, round, fits, to_unsigned}
use lib.Ieee.Back.{round_whole}
use lib.Ieee.Exact.{HasValue}
use lib.Ieee.Fits.{down_pos, round-fits, nan-fits, inf-fits}
use lib.Ieee.Nearest.{div_same}
use Rattle.rounding.specs.Rounding.{cut, lifted, half_up, floor, ceil, round_away}
use Rattle.rounding.specs.Wholes.{Under, Above, Nearest, IsWhole}
use Rattle.rounding.proofs.Exact.{Significand, significand, two_values, round_same_float}
use Rattle.rounding.proofs.Wholes.{lifted_same, half_same, lifted_ge, cut_one, lifted_one, half_one, cut_le, lifted_le_self, value_down, floor_value, away_value}

-- ---- F gives a whole number of a fraction: the same of equal ones, its own of a whole one, and one that is at most the numerator
module _ (f : Format) (F : ℕ → ℕ → ℕ) (same : (a c b d : ℕ) → 0 < c → 0 < d → a * d ≡ b * c → F a c ≡ F b d) (one : (n : ℕ) → F n 1 ≡ n) (less : (d u : ℕ) → 0 < u → F d u ≤ d) where
  pub exact : (x : Float) (s : Bool) (a c : ℕ) → 0 < c → T (fits f x) → HasValue x s a c → HasValue (round f s (F a c) 1) s (F a c) 1
  exact x s a c C held v = go (leb (low f) d.j) (leb→le (low f) d.j) (nleb→lt (low f) d.j)
    where
      d : Significand f x s
      d = significand f x s a c held v

      go : (z : Bool) → (T z → low f ≤ d.j) → (T (not z) → d.j < low f) → HasValue (round f s (F a c) 1) s (F a c) 1
      go true high small =
          let h = high tt in
          let i = d.j - low f in
          let n = d.q * 2 ^ i in
          let split : d.q * 2 ^ d.j ≡ n * 2 ^ low f = ap (λ (z : ℕ). d.q * 2 ^ z) (back h) ∙ ap (λ (z : ℕ). d.q * z) (pow-add 2 i (low f)) ∙ sym (mul_assoc d.q (2 ^ i) (2 ^ low f)) in
          let w : HasValue x s n 1 =
          value_down x s n (low f) 0
          (subst (λ (z : ℕ). HasValue x s (n * 2 ^ low f) (2 ^ z)) (sym (zero-add (low f))) (subst (λ (z : ℕ). HasValue x s z (2 ^ low f)) split d.value)) in
          let e : F a c ≡ n = same a c n 1 C (zero-lt-suc 0) (two_values x s s a c n 1 v w) ∙ one n in
          subst (λ (z : ℕ). HasValue (round f s z 1) s z 1) (sym e) (subst (λ (y : Float). HasValue y s n 1) (sym (round_same_float f x s n 1 (zero-lt-suc 0) held w)) w)
        where
          back : {l j : ℕ} → l ≤ j → j ≡ j - l + l
          back h = omega arith
      go false high small =
          let k = low f - d.j in
          let e : k + d.j ≡ low f = back (small tt) in
          let w : HasValue x s d.q (2 ^ k) = value_down x s d.q d.j k (subst (λ (l : ℕ). HasValue x s (d.q * 2 ^ d.j) (2 ^ l)) (sym e) d.value) in
          let g : F a c ≡ F d.q (2 ^ k) = same a c d.q (2 ^ k) C (pow_pos k) (two_values x s s a c d.q (2 ^ k) v w) in
          subst (λ (z : ℕ). HasValue (round f s z 1) s z 1) (sym g) (round_whole f s (F d.q (2 ^ k)) (le_trans (less d.q (2 ^ k) (pow_pos k)) (le_of_lt d.short)))
        where
          back : {l j : ℕ} → j < l → l - j + j ≡ l
          back h = omega arith

half_le_self : (d u : ℕ) → 0 < u → half_up d u ≤ d
half_le_self d u U =
    let m : d * 1 ≤ d * u = mul-le-mul_left d U in
    le_of_suc-le-suc ((div-lt_iff_lt-mul (mul-pos (zero-lt-suc 1) U)).1 (room d u U m))
  where
    room : (d u : ℕ) → 0 < u → d * 1 ≤ d * u → 2 * d + u < suc d * (2 * u)
    room d u U m = subst (λ (z : ℕ). 2 * d + u < z) (sym (suc-mul d (2 * u) ∙ ap (λ (z : ℕ). z + 2 * u) (mul_left_comm d 2 u))) (omega (arith, mul-one d))

-- ---- what they are in plain numbers
cut_is : (a c : ℕ) → 0 < c → Under (cut a c) a c
cut_is a c C =
    let e = div-add-mod' a c in
    let l = mod-lt a C in
    (omega arith, omega arith)

lifted_is : (a c : ℕ) → 0 < c → Above (lifted a c) a c
lifted_is a c C =
    let e = div-add-mod' (a + (c - 1)) c in
    let l = mod-lt (a + (c - 1)) C in
    (lifted_ge a c C, omega arith)

half_is : (a c : ℕ) → 0 < c → Nearest (half_up a c) a c
half_is a c C =
    let e = div-add-mod' (2 * a + c) (2 * c) in
    let l = mod-lt (2 * a + c) (mul-pos (zero-lt-suc 1) C) in
    let m = mul_left_comm (half_up a c) 2 c in
    (omega (arith, m, e, l), omega (arith, m, e, l))

-- ---- the laws
module _ (f : Format) where
  ceil_value : (x : Float) (s : Bool) (a c : ℕ) → 0 < c → HasValue x s a c → ceil f x ≡ round f s (cond s (cut a c) (lifted a c)) 1
  unfolding ceil
  ceil_value nan s a c C v = absurd v
  ceil_value (inf t) s a c C v = absurd v
  ceil_value (fin t m e) s a c C v =
      ap (λ (b : Bool). round f b (cond b (cut (m * up e) (down e)) (lifted (m * up e) (down e))) 1) v.0
      ∙ ap (λ (x : ℕ). round f s (cond s (cut (m * up e) (down e)) x) 1) (lifted_same (m * up e) (down e) a c (down_pos e) C v.1)
      ∙ ap (λ (x : ℕ). round f s (cond s x (lifted a c)) 1) (div_same (m * up e) (down e) a c (down_pos e) C v.1)

  module _ (x y : Float) (s : Bool) (a c : ℕ) (C : 0 < c) (held : T (fits f x)) (v : HasValue x s a c) where
    by_cut : y ≡ round f s (cut a c) 1 → IsWhole y s (λ (n : ℕ). Under n a c)
    by_cut e = record { size = cut a c; value = subst (λ (z : Float). HasValue z s (cut a c) 1) (sym e) (exact f cut div_same cut_one (λ d u U. cut_le d u) x s a c C held v); is = cut_is a c C }

    by_lifted : y ≡ round f s (lifted a c) 1 → IsWhole y s (λ (n : ℕ). Above n a c)
    by_lifted e = record { size = lifted a c; value = subst (λ (z : Float). HasValue z s (lifted a c) 1) (sym e) (exact f lifted lifted_same lifted_one lifted_le_self x s a c C held v); is = lifted_is a c C }

    by_half : y ≡ round f s (half_up a c) 1 → IsWhole y s (λ (n : ℕ). Nearest n a c)
    by_half e = record { size = half_up a c; value = subst (λ (z : Float). HasValue z s (half_up a c) 1) (sym e) (exact f half_up half_same half_one half_le_self x s a c C held v); is = half_is a c C }

  pub floor_plus : (x : Float) (a c : ℕ) → 0 < c → T (fits f x) → HasValue x false a c → IsWhole (floor f x) false (λ (n : ℕ). Under n a c)
  floor_plus x a c C held v = by_cut x (floor f x) false a c C held v (floor_value f x false a c C v)

  pub floor_minus : (x : Float) (a c : ℕ) → 0 < c → T (fits f x) → HasValue x true a c → IsWhole (floor f x) true (λ (n : ℕ). Above n a c)
  floor_minus x a c C held v = by_lifted x (floor f x) true a c C held v (floor_value f x true a c C v)

  pub ceil_plus : (x : Float) (a c : ℕ) → 0 < c → T (fits f x) → HasValue x false a c → IsWhole (ceil f x) false (λ (n : ℕ). Above n a c)
  ceil_plus x a c C held v = by_lifted x (ceil f x) false a c C held v (ceil_value x false a c C v)

  pub ceil_minus : (x : Float) (a c : ℕ) → 0 < c → T (fits f x) → HasValue x true a c → IsWhole (ceil f x) true (λ (n : ℕ). Under n a c)
  ceil_minus x a c C held v = by_cut x (ceil f x) true a c C held v (ceil_value x true a c C v)

  pub away : (x : Float) (s : Bool) (a c : ℕ) → 0 < c → T (fits f x) → HasValue x s a c → IsWhole (round_away f x) s (λ (n : ℕ). Nearest n a c)
  away x s a c C held v = by_half x (round_away f x) s a c C held v (away_value f x s a c C v)

  pub floor_fits : (x : Float) → T (fits f (floor f x))
  unfolding floor
  floor_fits nan = nan-fits f
  floor_fits (inf s) = inf-fits f s
  floor_fits (fin s m e) = round-fits f s (cond s (lifted (m * up e) (down e)) (cut (m * up e) (down e))) 1

  pub ceil_fits : (x : Float) → T (fits f (ceil f x))
  unfolding ceil
  ceil_fits nan = nan-fits f
  ceil_fits (inf s) = inf-fits f s
  ceil_fits (fin s m e) = round-fits f s (cond s (cut (m * up e) (down e)) (lifted (m * up e) (down e))) 1

  pub away_fits : (x : Float) → T (fits f (round_away f x))
  unfolding round_away
  away_fits nan = nan-fits f
  away_fits (inf s) = inf-fits f s
  away_fits (fin s m e) = round-fits f s (half_up (m * up e) (down e)) 1

-- ---- truncation. p is 2 ^ 64
capped : (q p : ℕ) → q < p → min q (p - 1) ≡ q
capped q p l = omega arith

at_cap : (q p : ℕ) → p ≤ q → min q (p - 1) ≡ p - 1
at_cap q p l = omega arith

counted : (x : Float) (a c : ℕ) → 0 < c → HasValue x false a c → to_unsigned 64 x ≡ min (a / c) (2 ^ 64 - 1)
unfolding to_unsigned
counted nan a c C v = absurd v
counted (inf t) a c C v = absurd v
counted (fin t m e) a c C v =
    ap (λ (b : Bool). cond b 0 (min (m * up e / down e) (2 ^ 64 - 1))) v.0 ∙ ap (λ (z : ℕ). min z (2 ^ 64 - 1)) (div_same (m * up e) (down e) a c (down_pos e) C v.1)

pub truncate_plus : (x : Float) (a c : ℕ) → 0 < c → HasValue x false a c → a < 2 ^ 64 * c → Under (to_unsigned 64 x) a c
truncate_plus x a c C v l = subst (λ (n : ℕ). Under n a c) (sym (counted x a c C v ∙ capped (a / c) (2 ^ 64) ((div-lt_iff_lt-mul C).1 l))) (cut_is a c C)

pub truncate_past : (x : Float) (a c : ℕ) → 0 < c → HasValue x false a c → 2 ^ 64 * c ≤ a → to_unsigned 64 x ≡ 2 ^ 64 - 1
truncate_past x a c C v l = counted x a c C v ∙ at_cap (a / c) (2 ^ 64) ((le-div_iff_mul-le C).1 l)

pub truncate_minus : (x : Float) (a c : ℕ) → HasValue x true a c → to_unsigned 64 x ≡ 0
unfolding to_unsigned
truncate_minus nan a c v = absurd v
truncate_minus (inf t) a c v = absurd v
truncate_minus (fin t m e) a c v = ap (λ (b : Bool). cond b 0 (min (m * up e / down e) (2 ^ 64 - 1))) v.0
