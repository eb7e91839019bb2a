-- The remainder `rem`, in any format f: by any fractions that the operands equal, exact, and the identity below the divisor; and `rem_euclid` where the dividend is not negative. Assumes nothing.
use Rattle.std.proofs.Common.{◌≡◌, ℕ, suc, ◌+◌, ◌-◌, ◌*◌, ◌/◌, ◌%◌, ◌^◌, ◌<◌, ◌≤◌, Bool, true, false, cond, not, T, eqb, ltb, leb, pos, sym, refl, ap, ◌∙◌, subst, ap₂, le_trans, lt_trans, le_of_eq, lt_of_le_of_lt, le_of_lt, mod-lt, mod-eq_of_lt, zero-lt-suc, mul_assoc, mul-pos, div-add-mod', mul-one, arith, leb→le, pow_pos, le-ltb}
use native.Mathlib.Nat.{mod-le, mul-mod_left, eq_of_mul-eq-mul_right}
use lib.Dec.{nleb→lt}
use lib.Ieee.{Float, nan, inf, fin, Format, binary32, binary64, prec, emax, low, up, down, odd, units, round, add, rem, lt, fits, of_bits}
use lib.Ieee.Exact.{HasValue, odd_sign, round_exact}
use lib.Ieee.Fits.{down_pos, round_is}
use lib.Ieee.Nearest.{div_same}
use lib.Ieee.Positive.{first_pos}
use lib.Ieee.Scale.{overflow, round_same}
use Rattle.rounding.specs.Rounding.{magnitude, rem_euclid}
use Rattle.rounding.proofs.Compare.{lt_at}
use Rattle.rounding.proofs.Difference.{align}
use Rattle.rounding.proofs.Exact.{Significand, significand, value_same, value_unique, fits_under, round_same_float, round-zero}
use Rattle.rounding.proofs.Operations.{first, second, not-zero}

-- ---- x is ±a / c, y is ±b / d
-- remainders of numbers in proportion are in that proportion
scaled : (q x y r k a b s l : ℕ) → q * y + r ≡ x → q * b + s ≡ a → x * k ≡ a * l → y * k ≡ b * l → r * k ≡ s * l
scaled q x y r k a b s l e g h i = omega (arith, ap (λ (z : ℕ). z * k) e, ap (λ (z : ℕ). z * l) g, ap (λ (z : ℕ). q * z) i)

mod_alike : (x y k a b l : ℕ) → 0 < y → 0 < b → 0 < k → 0 < l → x * k ≡ a * l → y * k ≡ b * l → x % y * k ≡ a % b * l
mod_alike x y k a b l Y B K L h i =
    let e : x * b ≡ a * y = eq_of_mul-eq-mul_right (k * l) (mul-pos K L) (x * b) (a * y) (omega (arith, ap (λ (z : ℕ). z * (b * l)) h, ap (λ (z : ℕ). z * (a * l)) i)) in
    let g : a / b * b + a % b ≡ a = div-add-mod' a b in
    scaled (x / y) x y (x % y) k a b (a % b) l (div-add-mod' x y) (subst (λ (z : ℕ). z * b + a % b ≡ a) (sym (div_same x y a b Y B e)) g) h i

pub rem_value : (f : Format) (x y : Float) (s t : Bool) (a c b d : ℕ) → 0 < c → 0 < d → 0 < b → HasValue x s a c → HasValue y t b d → rem f x y ≡ round f s (a * d % (b * c)) (c * d)
unfolding rem
rem_value f nan y s t a c b d C D B h k = absurd h
rem_value f (inf u) y s t a c b d C D B h k = absurd h
rem_value f (fin u m e) nan s t a c b d C D B h k = absurd k
rem_value f (fin u m e) (inf v) s t a c b d C D B h k = absurd k
rem_value f (fin u m e) (fin v n g) s t a c b d C D B h k =
    let N : 0 < n * up g = first_pos (n * up g) d (subst (λ (z : ℕ). 0 < z) (sym k.1) (mul-pos B (down_pos g))) in
    let K : 0 < c * d = mul-pos C D in
    let L : 0 < down e * down g = mul-pos (down_pos e) (down_pos g) in
    go (eqb n 0) (not-zero n (first_pos n (up g) N))
    ∙ round_same f u (m * up e * down g % (n * up g * down e)) (down e * down g) (a * d % (b * c)) (c * d) L K
    (mod_alike (m * up e * down g) (n * up g * down e) (c * d) (a * d) (b * c) (down e * down g) (mul-pos N (down_pos e)) (mul-pos B C) K L
    (first (m * up e) (down e) (down g) a c d h.1) (second (n * up g) (down e) (down g) b c d k.1))
    ∙ ap (λ (p : Bool). round f p (a * d % (b * c)) (c * d)) h.0
  where
    r : Float
    r = round f u (m * up e * down g % (n * up g * down e)) (down e * down g)

    go : (z : Bool) → (T z → ⊥) → cond z nan r ≡ r
    go true z = absurd (z tt)
    go false z = refl

-- below the divisor it is the dividend, and of a multiple of the divisor it is zero
module _ (f : Format) (x y : Float) (s t : Bool) (a c b d : ℕ) (C : 0 < c) (D : 0 < d) (B : 0 < b) (h : HasValue x s a c) (k : HasValue y t b d) where
  pub rem_less : T (fits f x) → a * d < b * c → rem f x y ≡ x
  rem_less p l =
      rem_value f x y s t a c b d C D B h k
      ∙ ap (λ (z : ℕ). round f s z (c * d)) (mod-eq_of_lt l)
      ∙ round_same_float f x s (a * d) (c * d) (mul-pos C D) p (value_same x s a c (a * d) (c * d) C h (omega arith))

  pub rem_multiple : (n : ℕ) → a * d ≡ n * (b * c) → rem f x y ≡ fin s 0 (pos 0)
  rem_multiple n e =
      rem_value f x y s t a c b d C D B h k
      ∙ round-zero f s (a * d % (b * c)) (c * d) (ap (λ (z : ℕ). z % (b * c)) e ∙ mul-mod_left n (b * c)) (mul-pos C D)

-- ---- it is exact: in units, x is X and y is Y
mod_times : (x y k : ℕ) → 0 < y → 0 < k → x * k % (y * k) ≡ x % y * k
mod_times x y k Y K = sym (mul-one (x * k % (y * k))) ∙ mod_alike (x * k) (y * k) 1 x y k (mul-pos Y K) Y (zero-lt-suc 0) K (mul-one (x * k)) (mul-one (y * k))

-- a remainder that is q * 2 ^ j, with a q of at most prec digits
exact_at : (f : Format) (x y : Float) (s t : Bool) (X Y q j : ℕ) → 0 < Y → HasValue x s X (2 ^ low f) → HasValue y t Y (2 ^ low f) → X < overflow f → X % Y ≡ q * 2 ^ j → q < 2 ^ prec f → HasValue (rem f x y) s (X % Y) (2 ^ low f)
exact_at f x y s t X Y q j P h k under e short =
    let u = 2 ^ low f in
    let U : 0 < u = pow_pos (low f) in
    let is : rem f x y ≡ round f s (X % Y) u =
    rem_value f x y s t X u Y u U U P h k ∙ round_same f s (X * u % (Y * u)) (u * u) (X % Y) u (mul-pos U U) U (ap (λ (z : ℕ). z * u) (mod_times X Y u P U) ∙ mul_assoc (X % Y) u u) in
    rw is (round_exact f s (X % Y) u q j U short (lt_of_le_of_lt (le_trans (le_of_eq (sym e)) (mod-le X Y)) under) (ap (λ (z : ℕ). z * u) e))

pub rem_exact : (f : Format) (x y : Float) (s t : Bool) (X Y : ℕ) → T (fits f x) → T (fits f y) → HasValue x s X (2 ^ low f) → HasValue y t Y (2 ^ low f) → 0 < Y → HasValue (rem f x y) s (X % Y) (2 ^ low f)
rem_exact f x y s t X Y p q h k P = go (leb b.j a.j) (leb→le b.j a.j) (nleb→lt b.j a.j)
  where
    u : ℕ
    u = 2 ^ low f

    a : Significand f x s
    a = significand f x s X u p h

    b : Significand f y t
    b = significand f y t Y u q k

    eX : X ≡ a.q * 2 ^ a.j
    eX = value_unique x s X (a.q * 2 ^ a.j) u h a.value

    eY : Y ≡ b.q * 2 ^ b.j
    eY = value_unique y t Y (b.q * 2 ^ b.j) u k b.value

    some : 0 < b.q
    some = first_pos b.q (2 ^ b.j) (subst (λ (z : ℕ). 0 < z) eY P)

    go : (z : Bool) → (T z → b.j ≤ a.j) → (T (not z) → a.j < b.j) → HasValue (rem f x y) s (X % Y) u
    go true le gt =
        let m = a.q * 2 ^ (a.j - b.j) in
        exact_at f x y s t X Y (m % b.q) b.j P h k (fits_under f x s X p h)
        (ap₂ (λ (i j : ℕ). i % j) (eX ∙ align a.q b.j a.j (le tt)) eY ∙ mod_times m b.q (2 ^ b.j) some (pow_pos b.j))
        (lt_trans (mod-lt m some) b.short)
    go false le gt =
        let m = b.q * 2 ^ (b.j - a.j) in
        exact_at f x y s t X Y (a.q % m) a.j P h k (fits_under f x s X p h)
        (ap₂ (λ (i j : ℕ). i % j) eX (eY ∙ align b.q a.j b.j (le_of_lt (gt tt))) ∙ mod_times a.q m (2 ^ a.j) (mul-pos some (pow_pos (b.j - a.j))) (pow_pos a.j))
        (lt_of_le_of_lt (mod-le a.q m) a.short)

-- ---- `rem_euclid` of a dividend that is not negative
pub zero_value : (f : Format) → HasValue (of_bits f 0) false 0 1
unfolding of_bits
zero_value binary32 = (refl, refl)
zero_value binary64 = (refl, refl)

above_zero : (f : Format) (b : Bool) (m k : ℕ) → lt (cond b (odd (suc (prec f)) false m k (low f)) (inf false)) (of_bits f 0) ≡ false
unfolding lt of_bits
above_zero f true m k =
    lt_at (odd (suc (prec f)) false m k (low f)) (of_bits f 0) (m * 2 ^ k) (2 ^ low f) 0 1 (pow_pos (low f)) (zero-lt-suc 0) (odd_sign (suc (prec f)) false m k (low f)) (zero_value f)
    ∙ le-ltb (m * 2 ^ k * 1) (0 * 2 ^ low f) (omega arith)
above_zero f false m k = infinite f
  where
    infinite : (f : Format) → lt (inf false) (of_bits f 0) ≡ false
    infinite binary32 = refl
    infinite binary64 = refl

units_above : (f : Format) (m k : ℕ) → lt (units f false m k) (of_bits f 0) ≡ false
unfolding units
units_above f m k = above_zero f (ltb (m * 2 ^ k) (2 ^ (low f + suc (emax f)))) m k

pub not_below_zero : (f : Format) (n q : ℕ) → lt (round f false n q) (of_bits f 0) ≡ false
not_below_zero f n q = ap (λ (x : Float). lt x (of_bits f 0)) (round_is f false n q) ∙ units_above f _ _

pub euclid_plus : (f : Format) (x y : Float) (t : Bool) (a c b d : ℕ) → 0 < c → 0 < d → 0 < b → HasValue x false a c → HasValue y t b d → rem_euclid f x y ≡ rem f x y
unfolding rem_euclid
euclid_plus f x y t a c b d C D B h k =
    ap (λ (z : Bool). cond z (add f (rem f x y) (magnitude y)) (rem f x y))
    (ap (λ (r : Float). lt r (of_bits f 0)) (rem_value f x y false t a c b d C D B h k) ∙ not_below_zero f (a * d % (b * c)) (c * d))
