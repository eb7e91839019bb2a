-- The error of one rounding, in any format f. A unit is the format's smallest value, 2 ^ -low. In units a fraction a / c is n / c, with n = a * 2 ^ low f,
-- and `round f false a c` is `grid f a c` units (`round_val` of lib.Ieee.Scale). Every bound is between whole numbers. Assumes nothing.
use Rattle.std.proofs.Common.{◌≡◌, ℕ, suc, ◌+◌, ◌-◌, ◌*◌, ◌/◌, ◌^◌, ◌<◌, ◌≤◌, Bool, true, false, not, T, leb, sym, ap, ◌∙◌, subst, le_trans, le_of_eq, lt_of_lt_of_le, le_of_lt, mul-le-mul_right, mul_assoc, mul_comm, div-lt_iff_lt-mul, lt_of_mul-lt-mul_right, mul-le-mul_left, mul-lt-mul_of_pos_right, mul-pos, pow-suc, le-div_iff_mul-le, mul-one, mul_right_comm, le_of_mul-le-mul_right, mul_left_comm, arith, leb→le, pow_pos, pow_mono, pow-add}
use lib.Dec.{nleb→lt}
use lib.Ieee.{Float, Format, prec, emax, low, size, round}
use lib.Ieee.Digits.{size_reaches, size-le}
use lib.Ieee.Fits.{two, two-le_pos}
use lib.Ieee.Exact.{HasValue}
use lib.Ieee.Order.{drop, kept}
use lib.Ieee.Scale.{grid, overflow, round_val, normal_of_fraction}
use Rattle.rounding.specs.Laws.{Within, Relative, Normal, Below, Rounded}
use Rattle.rounding.proofs.Closest.{closest_near}
use Rattle.rounding.proofs.Pattern.{twice}

-- what is kept is off by half of the last digit that is kept: 2 ^ drop units
half_step : (p n c : ℕ) → 0 < c → Within (c * 2 ^ drop p n c) (2 * (kept p n c * 2 ^ drop p n c * c)) (2 * n)
half_step p n c C =
    let k = drop p n c in
    let r = closest_near n (c * 2 ^ k) (mul-pos C (pow_pos k)) in
    let e : kept p n c * (c * 2 ^ k) ≡ kept p n c * 2 ^ k * c = simp (mul_assoc, mul_comm (2 ^ k) c) in
    omega arith

-- ---- in the normal range that digit is small beside the fraction: 2 ^ p times it is at most twice the fraction
top_digit : (p z : ℕ) → 0 < p → p ≤ z → p - 1 + (z - p) < z
top_digit p z P h = omega arith

last_digit : (p n c : ℕ) → 2 ≤ p → 0 < c → p ≤ size (n / c) → 2 ^ p * (c * 2 ^ drop p n c) ≤ 2 * n
last_digit p n c P C N =
    let k = drop p n c in
    let a : 2 ^ (p - 1 + k) * c ≤ n = (le-div_iff_mul-le C).0 (size_reaches (n / c) (p - 1 + k) (top_digit p (size (n / c)) (two-le_pos p P) N)) in
    let b : 2 ^ (p - 1) * 2 ^ k * c ≤ n = rw pow-add at a in
    let e : 2 ^ p * (c * 2 ^ k) ≡ 2 * (2 ^ (p - 1) * 2 ^ k * c) = rw (twice p P) (simp (mul_assoc, mul_comm, mul_left_comm)) in
    omega arith

-- from 2 * x within u of 2 * n, with P * u at most 2 * n, to P * x within n of P * n
relative : (P u x n : ℕ) → Within u (2 * x) (2 * n) → P * u ≤ 2 * n → Within n (P * x) (P * n)
relative P u x n h l = omega (arith, mul-le-mul_left P h.0, mul-le-mul_left P h.1)

-- so the relative error is 2 ^ -prec at most
pub grid_near : (f : Format) (a c : ℕ) → 0 < c → Normal f a c → Relative f (grid f a c) (a * 2 ^ low f) c
grid_near f a c C N =
    let p = prec f in
    let n = a * 2 ^ low f in
    relative (2 ^ p) (c * 2 ^ drop p n c) (grid f a c * c) n (half_step p n c C) (last_digit p n c (two f) C (normal_of_fraction f a c C N))

-- ---- below 2 ^ prec units nothing is dropped, and the error is half a unit at most
few : (z p : ℕ) → z ≤ p → z - p ≡ 0
few z p h = omega arith

whole_step : (p n c : ℕ) → 0 < c → size (n / c) ≤ p → Within c (2 * (kept p n c * 2 ^ drop p n c * c)) (2 * n)
whole_step p n c C h =
    let e : c * 2 ^ drop p n c ≡ c = ap (λ (k : ℕ). c * 2 ^ k) (few (size (n / c)) p h) ∙ mul-one c in
    subst (λ (t : ℕ). Within t (2 * (kept p n c * 2 ^ drop p n c * c)) (2 * n)) e (half_step p n c C)

pub grid_near_small : (f : Format) (a c : ℕ) → 0 < c → a * 2 ^ low f < 2 ^ prec f * c → Within c (2 * (grid f a c * c)) (2 * (a * 2 ^ low f))
grid_near_small f a c C h = whole_step (prec f) (a * 2 ^ low f) c C (size-le (a * 2 ^ low f / c) (prec f) ((div-lt_iff_lt-mul C).1 h))

-- a whole number of units below 2 ^ prec stays as it is, and so any whole number of units has the relative error
same_whole : (g q c : ℕ) → 0 < c → Within c (2 * (g * c)) (2 * (q * c)) → g ≡ q
same_whole g q c C h =
    let a : g ≤ q = lt_of_double (lt_of_mul-lt-mul_right c (tight g q h.0)) in
    let b : q ≤ g = lt_of_double (lt_of_mul-lt-mul_right c (tight q g h.1)) in
    omega arith
  where
    tight : (x y : ℕ) → 2 * (x * c) ≤ 2 * (y * c) + c → 2 * x * c < (2 * y + 2) * c
    tight x y l = omega arith

    lt_of_double : {x y : ℕ} → 2 * x < 2 * y + 2 → x ≤ y
    lt_of_double l = omega arith

exactly : (f : Format) (q : ℕ) → q < 2 ^ prec f → grid f q (2 ^ low f) ≡ q
exactly f q h = same_whole (grid f q (2 ^ low f)) q (2 ^ low f) (pow_pos (low f)) (grid_near_small f q (2 ^ low f) (pow_pos (low f)) (mul-lt-mul_of_pos_right h (pow_pos (low f))))

lower : (p : ℕ) → 2 ^ (p - 1) ≤ 2 ^ p
lower p = pow_mono (less p)
  where
    less : (q : ℕ) → q - 1 ≤ q
    less q = omega arith

cancel : (P g q u : ℕ) → 0 < u → Within (q * u) (P * (g * u)) (P * (q * u)) → Within q (P * g) (P * q)
cancel P g q u U h = (le_of_mul-le-mul_right {k = u} (omega arith) U, le_of_mul-le-mul_right {k = u} (omega arith) U)

pub grid_near_whole : (f : Format) (q : ℕ) → Within q (2 ^ prec f * grid f q (2 ^ low f)) (2 ^ prec f * q)
grid_near_whole f q = go (leb (2 ^ prec f) q) (leb→le (2 ^ prec f) q) (nleb→lt (2 ^ prec f) q)
  where
    go : (b : Bool) → (T b → 2 ^ prec f ≤ q) → (T (not b) → q < 2 ^ prec f) → Within q (2 ^ prec f * grid f q (2 ^ low f)) (2 ^ prec f * q)
    go true h k =
        cancel (2 ^ prec f) (grid f q (2 ^ low f)) q (2 ^ low f) (pow_pos (low f))
        (grid_near f q (2 ^ low f) (pow_pos (low f)) (mul-le-mul_right (2 ^ low f) (le_trans (lower (prec f)) (h tt))))
    go false h k = let e = exactly f q (k tt) in omega (arith, ap (λ (x : ℕ). 2 ^ prec f * x) e)

-- ---- what is below 2 ^ emax does not overflow
under_normal : (P u g n c M : ℕ) → 0 < P → 2 * (g * c) ≤ 2 * n + u → P * u ≤ 2 * n → n < M * c → g < 2 * M
under_normal P u g n c M pos h l b =
    let s : 1 * u ≤ P * u = mul-le-mul_right u pos in
    lt_of_mul-lt-mul_right c {m = g} {n = 2 * M} (omega arith)

under_small : (g n c M : ℕ) → 0 < M → 2 * (g * c) ≤ 2 * n + c → n < M * c → g < 2 * M
under_small g n c M pos h b =
    let s : 1 * c ≤ M * c = mul-le-mul_right c pos in
    lt_of_mul-lt-mul_right c {m = g} {n = 2 * M} (omega arith)

doubled : (l e : ℕ) → 2 ^ (l + suc e) ≡ 2 * (2 ^ e * 2 ^ l)
doubled l e = rw (pow-add, pow-suc) (simp (mul_comm, mul_left_comm))

kept_under : (p n c M : ℕ) → 2 ≤ p → 0 < c → 0 < M → n < M * c → kept p n c * 2 ^ drop p n c < 2 * M
kept_under p n c M P C pos b = go (leb p (size (n / c))) (leb→le p (size (n / c))) (nleb→lt p (size (n / c)))
  where
    go : (t : Bool) → (T t → p ≤ size (n / c)) → (T (not t) → size (n / c) < p) → kept p n c * 2 ^ drop p n c < 2 * M
    go true h k = under_normal (2 ^ p) (c * 2 ^ drop p n c) (kept p n c * 2 ^ drop p n c) n c M (pow_pos p) (half_step p n c C).0 (last_digit p n c P C (h tt)) b
    go false h k = under_small (kept p n c * 2 ^ drop p n c) n c M pos (whole_step p n c C (le_of_lt (k tt))).0 b

pub grid_under : (f : Format) (a c : ℕ) → 0 < c → a < 2 ^ emax f * c → grid f a c < overflow f
grid_under f a c C h =
    let M = 2 ^ emax f * 2 ^ low f in
    let b : a * 2 ^ low f < M * c = lt_of_lt_of_le (mul-lt-mul_of_pos_right h (pow_pos (low f))) (le_of_eq (mul_right_comm (2 ^ emax f) c (2 ^ low f))) in
    subst (λ (x : ℕ). grid f a c < x) (sym (doubled (low f) (emax f))) (kept_under (prec f) (a * 2 ^ low f) c M (two f) C (mul-pos (pow_pos (emax f)) (pow_pos (low f))) b)

-- ---- so `round`: its value in units, and the error
pub round_near : (f : Format) (a c : ℕ) → 0 < c → Normal f a c → Below f a c → Rounded f (round f false a c) a c
round_near f a c C N h = record { units = grid f a c; value = round_val f a c (grid_under f a c C h); near = grid_near f a c C N }

-- below 2 ^ prec units, subnormal values included: half a unit
pub round_near_small : (f : Format) (a c : ℕ) → 0 < c → a * 2 ^ low f < 2 ^ prec f * c → a < 2 ^ emax f * c
    → HasValue (round f false a c) false (grid f a c) (2 ^ low f) × Within c (2 * (grid f a c * c)) (2 * (a * 2 ^ low f))
round_near_small f a c C h l = (round_val f a c (grid_under f a c C l), grid_near_small f a c C h)

-- ---- In any range: half a unit, or the relative error. It asks for no lower bound, so zero and what may come to be zero are covered too
pub record RoundedAny (f : Format) (x : Float) (a c : ℕ) : Type 0 where
  pub units : ℕ
  pub value : HasValue x false units (2 ^ low f)
  pub near : Within (2 * (a * 2 ^ low f) + 2 ^ prec f * c) (2 * (2 ^ prec f * (units * c))) (2 * (2 ^ prec f * (a * 2 ^ low f)))

of_relative : (P x n c : ℕ) → Within n (P * x) (P * n) → Within (2 * n + P * c) (2 * (P * x)) (2 * (P * n))
of_relative P x n c h = omega arith

of_half : (P x n c : ℕ) → Within c (2 * x) (2 * n) → Within (2 * n + P * c) (2 * (P * x)) (2 * (P * n))
of_half P x n c h = omega (arith, mul-le-mul_left P h.0, mul-le-mul_left P h.1)

pub grid_near_any : (f : Format) (a c : ℕ) → 0 < c → Within (2 * (a * 2 ^ low f) + 2 ^ prec f * c) (2 * (2 ^ prec f * (grid f a c * c))) (2 * (2 ^ prec f * (a * 2 ^ low f)))
grid_near_any f a c C = go (leb N n) (leb→le N n) (nleb→lt N n)
  where
    n : ℕ
    n = a * 2 ^ low f

    N : ℕ
    N = 2 ^ (prec f - 1) * c

    go : (b : Bool) → (T b → N ≤ n) → (T (not b) → n < N) → Within (2 * n + 2 ^ prec f * c) (2 * (2 ^ prec f * (grid f a c * c))) (2 * (2 ^ prec f * n))
    go true h k = of_relative (2 ^ prec f) (grid f a c * c) n c (grid_near f a c C (h tt))
    go false h k = of_half (2 ^ prec f) (grid f a c * c) n c (grid_near_small f a c C (lt_of_lt_of_le (k tt) (mul-le-mul_right c (lower (prec f)))))

pub round_near_any : (f : Format) (a c : ℕ) → 0 < c → a < 2 ^ emax f * c → RoundedAny f (round f false a c) a c
round_near_any f a c C l = record { units = grid f a c; value = round_val f a c (grid_under f a c C l); near = grid_near_any f a c C }
