-- The raise: what is kept of a number and the raise are the number rounded to nearest even. Nothing here is about floats or about a width.
-- Assumes nothing.
use Rattle.std.proofs.Common.{◌≡◌, ℕ, zero, suc, ◌+◌, ◌-◌, ◌*◌, ◌/◌, ◌%◌, ◌^◌, ◌<◌, ◌≤◌, Bool, true, false, not, eqb, ◌⊎◌, sym, refl, ap, ◌∙◌, subst, inl, inr, mod-lt, mul_comm, div-add-mod', div-one, arith, pow_pos, ne_eqb}
use mathlib.Core.Bool.{false≢true}
use Prim.Native.Nat.{compare, Ordering}
use native.Mathlib.Nat.{pow-succ', div-div-eq-div-mul}
use lib.Arith.{mod-mul}
use lib.Ieee.{nearest}
use lib.Ieee.Nearest.{closest}
use Rattle.rounding.specs.Laws.{Within}
use Rattle.rounding.specs.Raise.{raise, raised, guard, sticky, Raises}
use Rattle.rounding.proofs.Closest.{Says, says, compare_is, closest_one, closest_near}
use Rattle.rounding.proofs.Sticky.{no_two, lost, power}

-- ---- the three digits
-- a tie goes up by the last digit
pub tie_raise : (q l : ℕ) → q % 2 ≡ l → l < 2 → q + q % 2 ≡ q + raise true false (eqb l 1)
unfolding raise
tie_raise q zero e h = omega arith
tie_raise q (suc zero) e h = omega arith
tie_raise q (suc (suc l)) e h = absurd (no_two l h)

-- nothing is added where the guard is clear
pub guard_clear : (g s l : Bool) → g ≡ false → raise g s l ≡ 0
unfolding raise
guard_clear g s l e = ap (λ (x : Bool). raise x s l) e

-- q is kept, g is the guard, and r stands below it
chosen : (q t g r : ℕ) → g < 2 → r < t → nearest q (compare ((g * t + r) * 2) (2 * t)) ≡ q + raise (eqb g 1) (not (eqb r 0)) (eqb (q % 2) 1)
unfolding raise
chosen q t zero r G R = ap (nearest q) (compare_is Ordering.lt ((0 * t + r) * 2) (2 * t) (omega arith)) ∙ omega arith
chosen q t (suc zero) zero G R = ap (nearest q) (compare_is Ordering.eq ((1 * t + 0) * 2) (2 * t) (omega arith)) ∙ tie_raise q (q % 2) refl (omega arith)
chosen q t (suc zero) (suc r) G R =
    ap (nearest q) (compare_is Ordering.gt ((1 * t + suc r) * 2) (2 * t) (omega arith))
    ∙ next ∙ ap (λ (b : Bool). q + raise true (not b) (eqb (q % 2) 1)) (sym (ne_eqb (suc r) 0 (λ (e : suc r ≡ 0). absurd (omega arith))))
  where
    next : suc q ≡ q + 1
    next = omega arith
chosen q t (suc (suc g)) r G R = absurd (no_two g G)

-- n / (2 * t) rounded: n / t is the kept number with the guard below it
pub closest_raise : (n t : ℕ) → 0 < t → closest n (2 * t) ≡ n / t / 2 + raise (eqb (n / t % 2) 1) (not (eqb (n % t) 0)) (eqb (n / t / 2 % 2) 1)
closest_raise n t B =
    ap (λ (x : ℕ). nearest x (compare (n % (2 * t) * 2) (2 * t))) (ap (λ (x : ℕ). n / x) (mul_comm 2 t) ∙ sym (div-div-eq-div-mul n t 2))
    ∙ ap (λ (x : ℕ). nearest (n / t / 2) (compare (x * 2) (2 * t))) (mod-mul n (pow_pos 1) B)
    ∙ chosen (n / t / 2) t (n / t % 2) (n % t) (omega arith) (mod-lt n B)

-- the same by shifts of a number of 64 digits: what is shifted back is n where nothing is left below the guard
pub closest_shift : (n e : ℕ) → n < 2 ^ 64 → 1 ≤ e
    → n / 2 ^ (e - 1) / 2 + raise (eqb (n / 2 ^ (e - 1) % 2) 1) (not (eqb n (n / 2 ^ (e - 1) * 2 ^ (e - 1) % 2 ^ 64))) (eqb (n / 2 ^ (e - 1) / 2 % 2) 1) ≡ closest n (2 ^ e)
closest_shift n e own some =
    let t = 2 ^ (e - 1) in
    let h = n / t in
    ap (λ (x : Bool). h / 2 + raise (eqb (h % 2) 1) (not x) (eqb (h / 2 % 2) 1)) (lost n t own)
    ∙ sym (closest_raise n t (pow_pos (e - 1)))
    ∙ ap (λ (x : ℕ). closest n x) (power e some)

-- ---- the claims
rounds : (n e : ℕ) → raised n e ≡ closest n (2 ^ e)
unfolding raised guard sticky raise
rounds n zero = ap (λ (x : ℕ). x + 0) (div-one n) ∙ omega arith ∙ sym (closest_one n)
rounds n (suc e) =
    ap (λ (x : ℕ). x + raise (guard n (suc e)) (sticky n (suc e)) (eqb (x % 2) 1)) (halved ∙ sym (div-div-eq-div-mul n (2 ^ e) 2))
    ∙ sym (closest_raise n (2 ^ e) (pow_pos e))
    ∙ ap (closest n) (sym (pow-succ' 2 e))
  where
    halved : n / 2 ^ suc e ≡ n / (2 ^ e * 2)
    halved = ap (λ (x : ℕ). n / x) (pow-succ' 2 e ∙ mul_comm 2 (2 ^ e))

-- n is q * u + r: it is half a unit away only at a tie, and a tie goes to the even number
abbrev HalfAway : ℕ → ℕ → ℕ → Type 0
HalfAway x n u = (2 * x ≡ 2 * n + u) ⊎ (2 * x + u ≡ 2 * n)

even_at_half : (q r u : ℕ) (o : Ordering) → Says o (r * 2) u → r < u → HalfAway (nearest q o * u) (q * u + r) u → nearest q o % 2 ≡ 0
even_at_half q r u Ordering.lt h l (inl e) = absurd (omega arith)
even_at_half q r u Ordering.lt h l (inr e) = absurd (omega arith)
even_at_half q r u Ordering.eq h l e = omega arith
even_at_half q r u Ordering.gt h l (inl e) = absurd (omega arith)
even_at_half q r u Ordering.gt h l (inr e) = absurd (omega arith)

closest_at_half : (n u : ℕ) → 0 < u → HalfAway (closest n u * u) n u → closest n u % 2 ≡ 0
closest_at_half n u U h =
    even_at_half (n / u) (n % u) u (compare (n % u * 2) u) (says (n % u * 2) u) (mod-lt n U)
    (subst (λ (x : ℕ). HalfAway (closest n u * u) x u) (sym (div-add-mod' n u)) h)

pub where_set : (g s l : Bool) → g ≡ true → (s ≡ true) ⊎ (l ≡ true) → raise g s l ≡ 1
unfolding raise
where_set true true l h k = refl
where_set true false true h k = refl
where_set true false false h (inl e) = absurd (false≢true e)
where_set true false false h (inr e) = absurd (false≢true e)
where_set false s l h k = absurd (false≢true h)

only_there : (g s l : Bool) → raise g s l ≡ 1 → (g ≡ true) × ((s ≡ true) ⊎ (l ≡ true))
unfolding raise
only_there true true l h = (refl, inl refl)
only_there true false true h = (refl, inr refl)
only_there true false false h = absurd (omega arith)
only_there false s l h = absurd (omega arith)

elsewhere : (g s l : Bool) → (raise g s l ≡ 0) ⊎ (raise g s l ≡ 1)
unfolding raise
elsewhere true true l = inr refl
elsewhere true false true = inr refl
elsewhere true false false = inl refl
elsewhere false s l = inl refl

quarters : (raised 9 2 ≡ 2) × (raised 10 2 ≡ 2) × (raised 11 2 ≡ 3) × (raised 14 2 ≡ 4)
unfolding raised guard sticky raise
quarters = (refl, refl, refl, refl)

pub raise_le : (g s l : Bool) → raise g s l ≤ 1
raise_le g s l = go (elsewhere g s l)
  where
    go : (raise g s l ≡ 0) ⊎ (raise g s l ≡ 1) → raise g s l ≤ 1
    go (inl e) = omega arith
    go (inr e) = omega arith

pub raises : Raises
raises = record {
  where_set = where_set;
  only_there = only_there;
  elsewhere = elsewhere;
  rounds = rounds;
  nearest = λ n e. subst (λ (x : ℕ). Within (2 ^ e) (2 * (x * 2 ^ e)) (2 * n)) (sym (rounds n e)) (closest_near n (2 ^ e) (pow_pos e));
  even = λ n e. subst (λ (x : ℕ). HalfAway (x * 2 ^ e) n (2 ^ e) → x % 2 ≡ 0) (sym (rounds n e)) (closest_at_half n (2 ^ e) (pow_pos e));
  quarters = quarters;
}
