-- A number with a sticky digit in the place of its low digits: how it goes with sums, differences and the order, and that rounding does not see the difference, nor that of sums of two signed fractions, in a format given as a parameter.
-- Assumes nothing.
use Rattle.std.specs.Int.{from_bool}
use Rattle.std.proofs.Common.{eqb, eq-eqb, ne_eqb, ◌≡◌, ℕ, zero, suc, ◌+◌, ◌-◌, ◌*◌, ◌/◌, ◌%◌, ◌^◌, ◌<◌, ◌≤◌, min, Bool, true, false, cond, not, T, ltb, leb, ◌⊎◌, sym, refl, ap, ◌∙◌, subst, inl, inr, le_trans, le_of_eq, lt_of_lt_of_le, lt_of_le_of_lt, add-zero, le_of_lt, add_assoc, mul-le-mul_right, mod-lt, mul_assoc, suc-mul, mul_comm, div-lt_iff_lt-mul, add-mul, add_comm, eq-or-lt_of_le, mul-lt-mul_of_pos_right, mul-pos, lt_of_not-le, div-add-mod', le-div_iff_mul-le, zero-mul, mul_right_comm, not-le_of_lt, le_of_mul-le-mul_right, mul-div_cancel, arith, ltb→lt, lt→ltb, leb→le, nltb→le, pow_pos, pow_mono, pow-add, le-ltb, lt-ltb}
use native.Mathlib.Nat.{pow-succ'}
use native.Mathlib.Nat.{mul-mod_left}
use lib.Dec.{nleb→lt}
use lib.Arith.{digits_div, digits_mod, mod-mul}
use lib.Ieee.{Float, Format, prec, low, hid, ones, top, size, round, sum, to_bits}
use lib.Ieee.Digits.{size-lt, size_reaches}
use lib.Ieee.Fits.{two}
use lib.Ieee.Nearest.{closest, div_same}
use lib.Ieee.Scale.{round_same}
use Rattle.rounding.specs.Fields.{Full}
use Rattle.rounding.specs.Sticky.{some}
use Rattle.fused.specs.Sticky.{jam}
use Rattle.rounding.proofs.Pattern.{pattern, round_scale}
use Rattle.rounding.proofs.Sticky.{closest_cut}
use Rattle.rounding.proofs.Sum.{both, mul_sub_r}

-- ---- sums and differences
-- a number given by its whole part q and its rest r
pub jam_is : (q r t : ℕ) → r < t → jam (q * t + r) t ≡ q * 2 + some r
unfolding jam
jam_is q r t h = ap (λ (x : ℕ). x * 2 + some ((q * t + r) % t)) (digits_div q h) ∙ ap (λ (x : ℕ). q * 2 + some x) (digits_mod q h)

pub jam_at : (n t : ℕ) → jam n t ≡ n / t * 2 + some (n % t)
unfolding jam
jam_at n t = refl

pub jam_whole : (a t : ℕ) → 0 < t → jam (a * t) t ≡ a * 2
jam_whole a t B = ap (λ (x : ℕ). jam x t) (sym (add-zero (a * t))) ∙ jam_is a 0 t B ∙ add-zero (a * 2)

-- the code's sticky digit, where v is a and the rest r
pub lost : (a r v : ℕ) → a + r ≡ v → from_bool (not (eqb v a)) ≡ some r
lost a zero v e = ap (λ (x : Bool). from_bool (not x)) (eq-eqb v a (omega arith))
lost a (suc r) v e = ap (λ (x : Bool). from_bool (not x)) (ne_eqb v a (λ q. omega arith)) ∙ omega arith

jam_add : (a b t : ℕ) → 0 < t → jam (a * t + b) t ≡ a * 2 + jam b t
jam_add a b t B =
    let q = b / t in
    let r = b % t in
    let e : a * t + b ≡ (a + q) * t + r = ap (λ (x : ℕ). a * t + x) (sym (div-add-mod' b t)) ∙ sym (add_assoc (a * t) (q * t) r) ∙ ap (λ (x : ℕ). x + r) (sym (add-mul a q t)) in
    ap (λ (x : ℕ). jam x t) e ∙ jam_is (a + q) r t (mod-lt b B) ∙ regroup a q (some r) ∙ ap (λ (x : ℕ). a * 2 + x) (sym (jam_at b t))
  where
    regroup : (a q r : ℕ) → (a + q) * 2 + r ≡ a * 2 + (q * 2 + r)
    regroup a q r = omega arith

-- what is taken off a multiple of t
jam_sub : (a b t : ℕ) → 0 < t → b ≤ a * t → jam (a * t - b) t + jam b t ≡ a * 2
jam_sub a b t B h = go (b % t) refl
  where
    e : b / t * t + b % t ≡ b
    e = div-add-mod' b t

    le : b / t * t ≤ a * t
    le = omega (arith, e)

    q_le : b / t ≤ a
    q_le = le_of_mul-le-mul_right le B

    split : (x y : ℕ) → x + y ≡ a → x * t + y * t ≡ a * t
    split x y s = sym (add-mul x y t) ∙ ap (λ (z : ℕ). z * t) s

    go : (r : ℕ) → b % t ≡ r → jam (a * t - b) t + jam b t ≡ a * 2
    go zero z =
        let d = a - b / t in
        let s = split d (b / t) (omega (arith, q_le)) in
        let w : a * t - b ≡ d * t = omega (arith, e) in
        ap (λ (x : ℕ). jam x t + jam b t) w ∙ ap (λ (x : ℕ). x + jam b t) (jam_whole d t B) ∙ ap (λ (x : ℕ). d * 2 + x) (jam_at b t) ∙ omega (arith, q_le)
    go (suc r) z =
        let l : b / t < a = lt_of_not-le (λ (g : a ≤ b / t). over (mul-le-mul_right t g)) in
        let d = a - suc (b / t) in
        let s = split d (suc (b / t)) (omega arith) in
        let v : suc (b / t) * t ≡ b / t * t + t = suc-mul (b / t) t in
        let m : b % t < t = mod-lt b B in
        let w : a * t - b ≡ d * t + (t - b % t) = omega (arith, e) in
        ap (λ (x : ℕ). jam x t + jam b t) w ∙ ap (λ (x : ℕ). x + jam b t) (jam_is d (t - b % t) t (omega arith)) ∙ ap (λ (x : ℕ). d * 2 + some (t - b % t) + x) (jam_at b t) ∙ omega arith
      where
        over : a * t ≤ b / t * t → ⊥
        over g = omega (arith, e)

-- ---- two numbers of which one is a multiple of t
abbrev pub OneWhole : ℕ → ℕ → ℕ → Type 0
OneWhole a b t = (a % t ≡ 0) ⊎ (b % t ≡ 0)

multiple : (a t : ℕ) → a % t ≡ 0 → a ≡ a / t * t
multiple a t e = let d = div-add-mod' a t in omega arith

jam_sum_l : (a b t : ℕ) → 0 < t → a % t ≡ 0 → jam (a + b) t ≡ jam a t + jam b t
jam_sum_l a b t B e =
    let q = a / t in
    let w = multiple a t e in
    ap (λ (x : ℕ). jam (x + b) t) w ∙ jam_add q b t B ∙ ap (λ (x : ℕ). x + jam b t) (sym (jam_whole q t B) ∙ ap (λ (x : ℕ). jam x t) (sym w))

pub jam_sum : (a b t : ℕ) → 0 < t → OneWhole a b t → jam (a + b) t ≡ jam a t + jam b t
jam_sum a b t B (inl e) = jam_sum_l a b t B e
jam_sum a b t B (inr e) = ap (λ (x : ℕ). jam x t) (add_comm a b) ∙ jam_sum_l b a t B e ∙ add_comm (jam b t) (jam a t)

pub jam_diff : (a b t : ℕ) → 0 < t → OneWhole a b t → b ≤ a → jam (a - b) t ≡ jam a t - jam b t
jam_diff a b t B (inl e) h =
    let q = a / t in
    let w = multiple a t e in
    let s = jam_sub q b t B (le_trans h (le_of_eq w)) in
    let x : jam (a - b) t ≡ jam (q * t - b) t = ap (λ (z : ℕ). jam (z - b) t) w in
    let y : jam a t ≡ q * 2 = ap (λ (z : ℕ). jam z t) w ∙ jam_whole q t B in
    omega arith
jam_diff a b t B (inr e) h =
    let s = jam_sum (a - b) b t B (inr e) in
    let x : jam (a - b + b) t ≡ jam a t = ap (λ (z : ℕ). jam z t) (omega arith) in
    omega arith

pub jam_some : (n t : ℕ) → 0 < n → 0 < jam n t
jam_some n t h = go (n / t) refl (div-add-mod' n t)
  where
    go : (q : ℕ) → n / t ≡ q → n / t * t + n % t ≡ n → 0 < jam n t
    go zero e d = let z : n / t * t ≡ 0 = ap (λ (x : ℕ). x * t) e ∙ zero-mul t in let j = jam_at n t in omega arith
    go (suc q) e d = let j = jam_at n t in omega arith

-- the order: what is below stays below
jam_below : (a b t : ℕ) → 0 < t → OneWhole a b t → a < b → jam a t < jam b t
jam_below a b t B (inl e) h =
    let s = jam_sum a (b - a) t B (inl e) in
    let x : jam (a + (b - a)) t ≡ jam b t = ap (λ (z : ℕ). jam z t) (omega arith) in
    let p = jam_some (b - a) t (omega arith) in
    omega arith
jam_below a b t B (inr e) h =
    let s = jam_diff b a t B (inl e) (le_of_lt h) in
    let p = jam_some (b - a) t (omega arith) in
    omega arith

swap : (a b t : ℕ) → OneWhole a b t → OneWhole b a t
swap a b t (inl e) = inr e
swap a b t (inr e) = inl e

pub jam_ltb : (a b t : ℕ) → 0 < t → OneWhole a b t → ltb a b ≡ ltb (jam a t) (jam b t)
jam_ltb a b t B o =
    go (ltb a b) (ltb→lt a b) (nltb→le a b)
  where
    go : (x : Bool) → (T x → a < b) → (T (not x) → b ≤ a) → x ≡ ltb (jam a t) (jam b t)
    go true p n = sym (lt-ltb (jam a t) (jam b t) (jam_below a b t B o (p tt)))
    go false p n = sym (le-ltb (jam a t) (jam b t) (same (eq-or-lt_of_le (n tt))))
      where
        same : (b ≡ a) ⊎ (b < a) → jam b t ≤ jam a t
        same (inl e) = le_of_eq (ap (λ (x : ℕ). jam x t) e)
        same (inr l) = le_of_lt (jam_below b a t B (swap a b t o) l)

-- ---- a common factor
pub jam_scale : (n t c : ℕ) → 0 < t → 0 < c → jam (n * c) (t * c) ≡ jam n t
jam_scale n t c B C =
    let q : n * c / (t * c) ≡ n / t = div_same (n * c) (t * c) n t (mul-pos B C) B (mul_right_comm n c t ∙ mul_assoc n t c) in
    let r : n * c % (t * c) ≡ n % t * c = mod-mul (n * c) B C ∙ ap (λ (x : ℕ). x % t * c + n * c % c) (mul-div_cancel n C) ∙ ap (λ (x : ℕ). n % t * c + x) (mul-mod_left n c) ∙ add-zero (n % t * c) in
    jam_at (n * c) (t * c) ∙ ap (λ (x : ℕ). x * 2 + some (n * c % (t * c))) q ∙ ap (λ (x : ℕ). n / t * 2 + some x) r ∙ ap (λ (x : ℕ). n / t * 2 + x) (keep (n % t)) ∙ sym (jam_at n t)
  where
    keep : (r : ℕ) → some (r * c) ≡ some r
    keep zero = ap some (zero-mul c)
    keep (suc r) = let e : suc r * c ≡ r * c + c = suc-mul r c in omega arith

-- ---- how large it is
pub jam_lt_pow : (n j a : ℕ) → n < 2 ^ (a + j) → jam n (2 ^ j) < 2 ^ suc a
jam_lt_pow n j a h =
    let q : n / 2 ^ j < 2 ^ a = (div-lt_iff_lt-mul (pow_pos j)).1 (subst (λ (x : ℕ). n < x) (pow-add 2 a j) h) in
    let e = jam_at n (2 ^ j) in
    let w : 2 ^ suc a ≡ 2 * 2 ^ a = pow-succ' 2 a in
    omega arith

pub jam_ge_pow : (n j a : ℕ) → 2 ^ (a + j) ≤ n → 2 ^ suc a ≤ jam n (2 ^ j)
jam_ge_pow n j a h =
    let q : 2 ^ a ≤ n / 2 ^ j = (le-div_iff_mul-le (pow_pos j)).1 (le_trans (le_of_eq (sym (pow-add 2 a j))) h) in
    let e = jam_at n (2 ^ j) in
    let w : 2 ^ suc a ≡ 2 * 2 ^ a = pow-succ' 2 a in
    omega arith

-- ---- rounding does not see the difference
closest_jam : (n t v : ℕ) → 0 < t → 0 < v → closest (jam n t) (2 * v * 2) ≡ closest n (2 * v * t)
unfolding jam
closest_jam n t v B D = closest_cut n t v B D

join : (v a b : ℕ) → v * 2 ^ a * 2 ^ b ≡ v * 2 ^ (a + b)
join v a b = mul_assoc v (2 ^ a) (2 ^ b) ∙ ap (λ (x : ℕ). v * x) (sym (pow-add 2 a b))

places : (w j e k l : ℕ) → l + k ≡ w + e → j < e → j + (w + suc (suc (e - suc j))) ≡ k + suc l
places w j e k l p h = omega arith

up_to : (p j e : ℕ) → j < e → suc (p + (e - j)) ≡ p + suc (suc (e - suc j))
up_to p j e h = omega arith

down_to : (p j e : ℕ) → j < e → p + e ≡ p + (e - j) + j
down_to p j e h = omega arith

-- n / 2 ^ l is n * 2 ^ k / 2 ^ (low + e): rounded at the place e of n, above which the sticky digit stands
at_place : (f : Format) (s : Bool) (n j l k e : ℕ) → l + k ≡ low f + e → j < e → n < 2 ^ (prec f + e) → Full (2 ^ (prec f - 1 + e)) k n
    → to_bits f (round f s n (2 ^ l)) ≡ to_bits f (round f s (jam n (2 ^ j) * 2 ^ j) (2 ^ suc l))
at_place f s n j l k e p h b u =
    let t = 2 ^ j in
    let v = jam n t in
    let i = e - suc j in
    let w = 2 ^ i in
    let e' = suc (suc i) in
    let two-w : 2 * w ≡ 2 ^ suc i = sym (pow-succ' 2 i) in
    let four-w : 2 * w * 2 ≡ 2 ^ e' = mul_comm (2 * w) 2 ∙ ap (λ (x : ℕ). 2 * x) two-w ∙ sym (pow-succ' 2 (suc i)) in
    let unit : 2 * w * t ≡ 2 ^ e = ap (λ (x : ℕ). x * t) two-w ∙ sym (pow-add 2 (suc i) j) ∙ ap (λ (x : ℕ). 2 ^ x) (omega arith) in
    let c : closest v (2 ^ e') ≡ closest n (2 ^ e) = ap (λ (x : ℕ). closest v x) (sym four-w) ∙ closest_jam n t w (pow_pos j) (pow_pos i) ∙ ap (λ (x : ℕ). closest n x) unit in
    let left : round f s n (2 ^ l) ≡ round f s (n * 2 ^ k) (2 ^ (low f + e)) = sym (round_scale f s n k l) ∙ ap (λ (x : ℕ). round f s (n * 2 ^ k) (2 ^ x)) p in
    let right : round f s (v * 2 ^ j) (2 ^ suc l) ≡ round f s (v * 2 ^ k) (2 ^ (low f + e')) =
    round_same f s (v * 2 ^ j) (2 ^ suc l) (v * 2 ^ k) (2 ^ (low f + e')) (pow_pos (suc l)) (pow_pos (low f + e'))
    (join v j (low f + e') ∙ ap (λ (x : ℕ). v * 2 ^ x) (places (low f) j e k l p h) ∙ sym (join v k (suc l))) in
    let upper : v < 2 ^ (prec f + e') = subst (λ (x : ℕ). v < 2 ^ x) (up_to (prec f) j e h) (jam_lt_pow n j (prec f + (e - j)) (subst (λ (x : ℕ). n < 2 ^ x) (down_to (prec f) j e h) b)) in
    ap (to_bits f) left ∙ pattern f s n k e b u ∙ ap (λ (x : ℕ). cond s (top f) 0 + min (k * hid f + x) (ones f * hid f)) (sym c)
    ∙ sym (pattern f s v k e' upper (full u)) ∙ ap (to_bits f) (sym right)
  where
    full : Full (2 ^ (prec f - 1 + e)) k n → Full (2 ^ (prec f - 1 + suc (suc (e - suc j)))) k (jam n (2 ^ j))
    full (inl z) = inl z
    full (inr g) = inr (subst (λ (x : ℕ). 2 ^ x ≤ jam n (2 ^ j)) (up_to (prec f - 1) j e h) (jam_ge_pow n j (prec f - 1 + (e - j)) (subst (λ (x : ℕ). 2 ^ x ≤ n) (down_to (prec f - 1) j e h) g)))

-- the digits below 2 ^ j of n may go, with a sticky digit in their place, where n has prec digits above them, or where they lie below half the smallest value
pub round_jam : (f : Format) (s : Bool) (n j l : ℕ) → low f ≤ l → (2 ^ (prec f + j) ≤ n) ⊎ (j + low f < l) → to_bits f (round f s n (2 ^ l)) ≡ to_bits f (round f s (jam n (2 ^ j) * 2 ^ j) (2 ^ suc l))
round_jam f s n j l L o = go (leb (size n) (prec f + (l - low f))) (leb→le (size n) (prec f + (l - low f))) (nleb→lt (size n) (prec f + (l - low f)))
  where
    above : (a b : ℕ) → 2 ^ a < 2 ^ b → a < b
    above a b h = lt_of_not-le (λ (g : b ≤ a). not-le_of_lt h (pow_mono g))

    less : (p j w l e : ℕ) → p + j < p + e → j < e
    less p j w l e h = omega arith

    low_end : size n ≤ prec f + (l - low f) → (2 ^ (prec f + j) ≤ n) ⊎ (j + low f < l) → j < l - low f
    low_end z (inl g) = less (prec f) j (low f) l (l - low f) (above (prec f + j) (prec f + (l - low f)) (lt_of_le_of_lt g (lt_of_lt_of_le (size-lt n) (pow_mono z))))
    low_end z (inr g) = omega arith

    high_end : prec f + (l - low f) < size n → (2 ^ (prec f + j) ≤ n) ⊎ (j + low f < l) → j < size n - prec f
    high_end z (inl g) = let a = above (prec f + j) (size n) (lt_of_le_of_lt g (size-lt n)) in omega arith
    high_end z (inr g) = omega arith

    go : (b : Bool) → (T b → size n ≤ prec f + (l - low f)) → (T (not b) → prec f + (l - low f) < size n) → to_bits f (round f s n (2 ^ l)) ≡ to_bits f (round f s (jam n (2 ^ j) * 2 ^ j) (2 ^ suc l))
    go true p q = at_place f s n j l 0 (l - low f) (omega arith) (low_end (p tt) o) (lt_of_lt_of_le (size-lt n) (pow_mono (p tt))) (inl refl)
    go false p q =
        let z = q tt in
        let e = size n - prec f in
        at_place f s n j l (e - (l - low f)) e (omega arith) (high_end z o)
        (subst (λ (x : ℕ). n < 2 ^ x) (whole (prec f) (size n) (l - low f) z) (size-lt n))
        (inr (size_reaches n (prec f - 1 + e) (reaches (prec f) (size n) (l - low f) (two f) z)))
      where
        whole : (p z b : ℕ) → p + b < z → z ≡ p + (z - p)
        whole p z b h = omega arith

        reaches : (p z b : ℕ) → 2 ≤ p → p + b < z → p - 1 + (z - p) < z
        reaches p z b P h = omega arith

-- a multiple of 2 ^ j loses nothing
pub round_whole : (f : Format) (s : Bool) (n j l : ℕ) → n % 2 ^ j ≡ 0 → round f s n (2 ^ l) ≡ round f s (jam n (2 ^ j) * 2 ^ j) (2 ^ suc l)
round_whole f s n j l e =
    let t = 2 ^ j in
    let w = multiple n t e in
    let v : jam n t ≡ n / t * 2 = ap (λ (x : ℕ). jam x t) w ∙ jam_whole (n / t) t (pow_pos j) in
    round_same f s n (2 ^ l) (jam n t * t) (2 ^ suc l) (pow_pos l) (pow_pos (suc l))
    (ap (λ (x : ℕ). x * 2 ^ suc l) w ∙ ap (λ (x : ℕ). n / t * t * x) (pow-succ' 2 l) ∙ sym (mul_assoc (n / t * t) 2 (2 ^ l)) ∙ ap (λ (x : ℕ). x * 2 ^ l) (mul_right_comm (n / t) t 2 ∙ ap (λ (x : ℕ). x * t) (sym v)))

-- ---- sums of two signed fractions
-- n keeps what rounding needs, where its digits below 2 ^ j go: it has none, or prec digits stand above them, or they lie below half the smallest value
abbrev pub Sound : Format → ℕ → ℕ → ℕ → Type 0
Sound f j l n = (n % 2 ^ j ≡ 0) ⊎ ((2 ^ (prec f + j) ≤ n) ⊎ (j + low f < l))

sound_round : (f : Format) (s : Bool) (n j l : ℕ) → low f ≤ l → Sound f j l n → to_bits f (round f s n (2 ^ l)) ≡ to_bits f (round f s (jam n (2 ^ j) * 2 ^ j) (2 ^ suc l))
sound_round f s n j l L (inl e) = ap (to_bits f) (round_whole f s n j l e)
sound_round f s n j l L (inr o) = round_jam f s n j l L o

pub sum_jam : (f : Format) (s t : Bool) (a b j l : ℕ) → low f ≤ l → OneWhole a b (2 ^ j) → Sound f j l (a + b) → (a < b → Sound f j l (b - a)) → (b < a → Sound f j l (a - b))
    → to_bits f (sum f s a t b (2 ^ l)) ≡ to_bits f (sum f s (jam a (2 ^ j) * 2 ^ j) t (jam b (2 ^ j) * 2 ^ j) (2 ^ suc l))
sum_jam f s t a b j l L o plus minus minus' =
    let w = 2 ^ j in
    let B = pow_pos j in
    both (λ (x y : Float). to_bits f x ≡ to_bits f y) f s t a b (2 ^ l) (jam a w * w) (jam b w * w) (2 ^ suc l)
    (λ h. mul-lt-mul_of_pos_right (ltb→lt (jam a w) (jam b w) (subst T (jam_ltb a b w B o) (lt→ltb a b h))) B)
    (λ h. mul-lt-mul_of_pos_right (ltb→lt (jam b w) (jam a w) (subst T (jam_ltb b a w B (swap a b w o)) (lt→ltb b a h))) B)
    (λ h. ap (λ (x : ℕ). jam x w * w) h)
    (λ u. sound_round f u (a + b) j l L plus ∙ ap (λ (x : ℕ). to_bits f (round f u x (2 ^ suc l))) (ap (λ (x : ℕ). x * w) (jam_sum a b w B o) ∙ add-mul (jam a w) (jam b w) w))
    (λ u h. sound_round f u (b - a) j l L (minus h) ∙ ap (λ (x : ℕ). to_bits f (round f u x (2 ^ suc l))) (ap (λ (x : ℕ). x * w) (jam_diff b a w B (swap a b w o) (le_of_lt h)) ∙ mul_sub_r (jam b w) (jam a w) w))
    (λ u h. sound_round f u (a - b) j l L (minus' h) ∙ ap (λ (x : ℕ). to_bits f (round f u x (2 ^ suc l))) (ap (λ (x : ℕ). x * w) (jam_diff a b w B o (le_of_lt h)) ∙ mul_sub_r (jam a w) (jam b w) w))
    (ap (to_bits f) (round_same f false 0 (2 ^ l) 0 (2 ^ suc l) (pow_pos l) (pow_pos (suc l)) (zero-mul (2 ^ suc l) ∙ sym (zero-mul (2 ^ l)))))
