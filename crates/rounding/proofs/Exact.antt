-- Where nothing is lost, in any format f: a value is one float, a value of the format rounds to itself, and a product with a power of two is exact.
-- Assumes nothing.
use Rattle.std.proofs.Common.{◌≡◌, ℕ, zero, suc, ◌+◌, ◌-◌, ◌*◌, ◌%◌, ◌^◌, ◌<◌, ◌≤◌, Bool, true, false, not, ◌&&◌, T, eqb, ltb, leb, ℤ, pos, negsuc, sym, refl, ap, ◌∙◌, subst, le_of_eq, lt_of_lt_of_le, le_of_suc-le-suc, lt_of_le_of_lt, mul_assoc, mul_comm, lt_of_mul-lt-mul_right, mul-lt-mul_of_pos_right, mul-pos, lt_of_not-le, zero-mul, mul-one, sub-add_cancel, not-le_of_lt, mul_left_comm, arith, ltb→lt, leb→le, pow_pos, pow-add}
use native.Mathlib.Nat.{eq_of_mul-eq-mul_right}
use lib.Pow.{pow-lt}
use lib.Ieee.{Float, nan, inf, fin, Format, binary32, prec, emax, low, unlike, up, down, round, mul, fits, is_nan, of_int, of_bits, to_bits}
use lib.Ieee.Fits.{down_pos, and_l, and_r, round-fits}
use lib.Ieee.Exact.{HasValue, round_exact}
use lib.Ieee.Back.{round_whole}
use lib.Ieee.Bits.{of_bits-to_bits, of_bits-fits, to_bits-of_bits}
use lib.Ieee.Positive.{num, den, den_pos}
use lib.Ieee.Scale.{overflow}
use Rattle.rounding.specs.Laws.{Units}
use Rattle.rounding.specs.Rounding.{convert, narrow, widen}
use Rattle.rounding.proofs.Operations.{mul_value}
use Rattle.rounding.proofs.Pattern.{value_pattern}

-- ---- the fractions that a value equals
cross : (x : Float) (s : Bool) (a c : ℕ) → HasValue x s a c → num x * c ≡ a * den x
cross nan s a c h = absurd h
cross (inf t) s a c h = absurd h
cross (fin t m e) s a c h = h.1

pub two_values : (x : Float) (s t : Bool) (a c b d : ℕ) → HasValue x s a c → HasValue x t b d → a * d ≡ b * c
two_values x s t a c b d h k =
    eq_of_mul-eq-mul_right (den x) (den_pos x) (a * d) (b * c) (omega (arith, ap (λ (z : ℕ). z * d) (cross x s a c h), ap (λ (z : ℕ). z * c) (cross x t b d k)))

-- the numerator is determined by the denominator
pub value_unique : (x : Float) (s : Bool) (a b c : ℕ) → HasValue x s a c → HasValue x s b c → a ≡ b
value_unique x s a b c h k = eq_of_mul-eq-mul_right (den x) (den_pos x) a b (sym (cross x s a c h) ∙ cross x s b c k)

-- from one fraction to an equal one
pub value_same : (x : Float) (s : Bool) (a c b d : ℕ) → 0 < c → HasValue x s a c → a * d ≡ b * c → HasValue x s b d
value_same nan s a c b d C h e = h
value_same (inf t) s a c b d C h e = h
value_same (fin t m g) s a c b d C h e =
    (h.0, eq_of_mul-eq-mul_right c C (m * up g * d) (b * down g) (omega (arith, ap (λ (z : ℕ). z * d) h.1, ap (λ (z : ℕ). z * down g) e)))

-- ---- a value of the format is q * 2 ^ j units, with q of at most prec digits
pub record Significand (f : Format) (x : Float) (s : Bool) : Type 0 where
  pub q : ℕ
  pub j : ℕ
  pub short : q < 2 ^ prec f
  pub value : HasValue x s (q * 2 ^ j) (2 ^ low f)

parts : (f : Format) (s : Bool) (m : ℕ) (e : ℤ) → T (fits f (fin s (suc m) e)) → (suc m < 2 ^ prec f) × (down e ≤ 2 ^ low f)
unfolding fits
parts f s m e t =
    let a : Bool = eqb (suc m % 2) 1 in
    let b : Bool = ltb (suc m) (2 ^ prec f) in
    let c : Bool = leb (down e) (2 ^ low f) in
    let abc : T (a && b && c) = and_l (a && b && c) (ltb (suc m * up e) (2 ^ suc (emax f) * down e)) t in
    (ltb→lt (suc m) (2 ^ prec f) (and_r a b (and_l (a && b) c abc)), leb→le (down e) (2 ^ low f) (and_r (a && b) c abc))

-- 2 ^ k is at most 2 ^ l only for a k up to l
exponent : (k l : ℕ) → 2 ^ k ≤ 2 ^ l → l - k + k ≡ l
exponent k l h = sub-add_cancel (le_of_suc-le-suc (lt_of_not-le (λ (g : suc l ≤ k). not-le_of_lt (pow-lt g) h)))

none : (u l d : ℕ) → 0 * u * l ≡ 0 * 1 * d
none u l d = omega arith

pub significand : (f : Format) (x : Float) (s : Bool) (a c : ℕ) → T (fits f x) → HasValue x s a c → Significand f x s
significand f nan s a c t h = absurd h
significand f (inf r) s a c t h = absurd h
significand f (fin r zero e) s a c t h = record { q = 0; j = 0; short = pow_pos (prec f); value = (h.0, none (up e) (2 ^ low f) (down e)) }
significand f (fin r (suc m) (pos k)) s a c t h =
    record { q = suc m; j = k + low f; short = (parts f r m (pos k) t).0; value = (h.0, rw (pow-add, mul-one) (mul_assoc (suc m) (2 ^ k) (2 ^ low f))) }
significand f (fin r (suc m) (negsuc k)) s a c t h =
    let e : 2 ^ low f ≡ 2 ^ (low f - suc k) * 2 ^ suc k = ap (λ (z : ℕ). 2 ^ z) (sym (exponent (suc k) (low f) (parts f r m (negsuc k) t).1)) ∙ pow-add 2 (low f - suc k) (suc k) in
    record { q = suc m; j = low f - suc k; short = (parts f r m (negsuc k) t).0; value = (h.0, ap (λ (z : ℕ). z * 2 ^ low f) (mul-one (suc m)) ∙ ap (λ (z : ℕ). suc m * z) e ∙ sym (mul_assoc (suc m) (2 ^ (low f - suc k)) (2 ^ suc k))) }

-- so it is a whole number of units
pub in_units : (f : Format) (x : Float) (s : Bool) (a c : ℕ) → T (fits f x) → HasValue x s a c → Units f x s
in_units f x s a c t h = let d = significand f x s a c t h in record { units = d.q * 2 ^ d.j; value = d.value }

-- ---- two floats of the format with the same value are the same
pub same_float : (f : Format) (x y : Float) (s : Bool) (a c : ℕ) → 0 < c → T (fits f x) → T (fits f y) → HasValue x s a c → HasValue y s a c → x ≡ y
same_float f x y s a c C p q h k =
    let d = significand f x s a c p h in
    let n = d.q * 2 ^ d.j in
    let v : HasValue y s n (2 ^ low f) = value_same y s a c n (2 ^ low f) C k (two_values x s s a c n (2 ^ low f) h d.value) in
    sym (of_bits-to_bits f x p) ∙ ap (of_bits f) (value_pattern f x s n d.value ∙ sym (value_pattern f y s n v)) ∙ of_bits-to_bits f y q

-- ---- 2 ^ t times a value of the format, where it is below 2 ^ (emax + 1)
pub mul-pow : (f : Format) (x w : Float) (s : Bool) (a t : ℕ) → T (fits f x) → HasValue x s a (2 ^ low f) → HasValue w false (2 ^ t) 1 → a * 2 ^ t < overflow f → HasValue (mul f x w) s (a * 2 ^ t) (2 ^ low f)
mul-pow f x w s a t p h k l =
    let u = 2 ^ low f in
    let d = significand f x s a u p h in
    let e : a ≡ d.q * 2 ^ d.j = value_unique x s a (d.q * 2 ^ d.j) u h d.value in
    let e' : a * 2 ^ t ≡ d.q * 2 ^ (d.j + t) = ap (λ (z : ℕ). z * 2 ^ t) e ∙ rw pow-add (mul_assoc d.q (2 ^ d.j) (2 ^ t)) in
    rw (mul_value f x w s false a u (2 ^ t) 1 (pow_pos (low f)) (pow_pos 0) h k, mul-one, own_sign s)
    (round_exact f s (a * 2 ^ t) u d.q (d.j + t) (pow_pos (low f)) d.short (subst (λ (z : ℕ). z < overflow f) e' l) (ap (λ (z : ℕ). z * u) e'))
  where
    own_sign : (s : Bool) → unlike s false ≡ s
    own_sign true = refl
    own_sign false = refl

-- ---- a value of the format rounds to itself
-- a value of the format is below 2 ^ (emax + 1)
bounded : (f : Format) (x : Float) (s : Bool) (a c : ℕ) → T (fits f x) → HasValue x s a c → num x < 2 ^ suc (emax f) * den x
unfolding fits
bounded f nan s a c t h = absurd h
bounded f (inf r) s a c t h = absurd h
bounded f (fin r zero e) s a c t h = lt_of_le_of_lt (le_of_eq (zero-mul (up e))) (mul-pos (pow_pos (suc (emax f))) (down_pos e))
bounded f (fin r (suc m) e) s a c t h =
    ltb→lt (suc m * up e) (2 ^ suc (emax f) * down e)
    (and_r (eqb (suc m % 2) 1 && ltb (suc m) (2 ^ prec f) && leb (down e) (2 ^ low f)) (ltb (suc m * up e) (2 ^ suc (emax f) * down e)) t)

pub fits_under : (f : Format) (x : Float) (s : Bool) (a : ℕ) → T (fits f x) → HasValue x s a (2 ^ low f) → a < overflow f
fits_under f x s a t h =
    let u = 2 ^ low f in
    lt_of_mul-lt-mul_right (den x)
    (rw (pow-add, ← cross x s a u h) (lt_of_lt_of_le (mul-lt-mul_of_pos_right (bounded f x s a u t h) (pow_pos (low f))) (le_of_eq (simp (mul_assoc, mul_comm, mul_left_comm)))))

pub round_same_float : (f : Format) (x : Float) (s : Bool) (a c : ℕ) → 0 < c → T (fits f x) → HasValue x s a c → round f s a c ≡ x
round_same_float f x s a c C p h =
    let d = significand f x s a c p h in
    same_float f (round f s a c) x s a c C (round-fits f s a c) p
    (round_exact f s a c d.q d.j C d.short (fits_under f x s (d.q * 2 ^ d.j) p d.value) (two_values x s s a c (d.q * 2 ^ d.j) (2 ^ low f) h d.value)) h

pub round-zero : (f : Format) (s : Bool) (n q : ℕ) → n ≡ 0 → 0 < q → round f s n q ≡ fin s 0 (pos 0)
unfolding fits
round-zero f s n q e Q = round_same_float f (fin s 0 (pos 0)) s n q Q tt (refl, zero-mul q ∙ sym (ap (λ (z : ℕ). z * 1) e))

-- so does `convert`, and a pattern of f32 that is no NaN's comes back
pub convert_same : (f : Format) (x : Float) → T (fits f x) → convert f x ≡ x
unfolding convert
convert_same f nan h = refl
convert_same f (inf s) h = refl
convert_same f (fin s m e) h = round_same_float f (fin s m e) s (m * up e) (down e) (down_pos e) h (refl, refl)

pub narrow_widen : (b : ℕ) → b < 2 ^ 32 → T (not (is_nan (widen b))) → narrow (widen b) ≡ b
unfolding narrow widen
narrow_widen b l n = ap (to_bits binary32) (convert_same binary32 (of_bits binary32 b) (of_bits-fits binary32 b)) ∙ to_bits-of_bits binary32 b l n

-- a whole number up to 2 ^ prec is a value of the format: 2 ^ 24 for binary32
pub whole_exact : (f : Format) (n : ℕ) → n ≤ 2 ^ prec f → HasValue (of_int f (pos n)) false n 1
unfolding of_int
whole_exact f n h = round_whole f false n h
