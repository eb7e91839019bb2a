-- What `compare` says; and a fraction rounded to the nearest whole number (`closest`) is off by half at most, and a whole number not at all.
-- Nothing here is about floats. Assumes nothing.
use Rattle.std.proofs.Common.{◌≡◌, ℕ, ◌+◌, ◌*◌, ◌/◌, ◌%◌, ◌<◌, ◌≤◌, not, T, eqb, refl, ap, ◌∙◌, subst, mul-le-mul_right, mod-lt, div-add-mod', div-one, arith, eqb→eq, leb→le}
use Prim.Native.Nat.{compare, Ordering}
use native.Mathlib.Nat.{mod-one}
use lib.Dec.{is_le, compare_is_eq, nleb→lt, eqb_refl}
use lib.Arith.{lt_of_le-ne}
use lib.Ieee.{nearest}
use lib.Ieee.Nearest.{closest}

-- ---- what `compare` says
abbrev pub Says : Ordering → ℕ → ℕ → Type 0
Says Ordering.lt a b = a < b
Says Ordering.eq a b = a ≡ b
Says Ordering.gt a b = b < a

pub says : (a b : ℕ) → Says (compare a b) a b
says a b = go (compare a b) (leb→le a b) (nleb→lt a b) (eqb→eq a b) (λ (e : a ≡ b). subst (λ (x : ℕ). T (eqb a x)) e (eqb_refl a))
  where
    go : (o : Ordering) → (T (is_le o) → a ≤ b) → (T (not (is_le o)) → b < a) → (T (compare_is_eq o) → a ≡ b) → (a ≡ b → T (compare_is_eq o)) → Says o a b
    go Ordering.lt h k e n = lt_of_le-ne (h tt) n
    go Ordering.eq h k e n = e tt
    go Ordering.gt h k e n = k tt

-- which of the three it is, by the numbers' order
decide : (o p : Ordering) (a b : ℕ) → Says o a b → Says p a b → o ≡ p
decide Ordering.lt Ordering.lt a b x y = refl
decide Ordering.lt Ordering.eq a b x y = absurd (omega arith)
decide Ordering.lt Ordering.gt a b x y = absurd (omega arith)
decide Ordering.eq Ordering.lt a b x y = absurd (omega arith)
decide Ordering.eq Ordering.eq a b x y = refl
decide Ordering.eq Ordering.gt a b x y = absurd (omega arith)
decide Ordering.gt Ordering.lt a b x y = absurd (omega arith)
decide Ordering.gt Ordering.eq a b x y = absurd (omega arith)
decide Ordering.gt Ordering.gt a b x y = refl

pub compare_is : (o : Ordering) (a b : ℕ) → Says o a b → compare a b ≡ o
compare_is o a b h = decide (compare a b) o a b (says a b) h

-- ---- n is q * u + r, with r below u. At a tie the number goes up by q % 2, which is 0 or 1
even_or_odd : (q : ℕ) → q % 2 ≤ 1
even_or_odd q = omega arith

near : (q r u : ℕ) (o : Ordering) → Says o (r * 2) u → r < u → (2 * (nearest q o * u) ≤ 2 * (q * u + r) + u) × (2 * (q * u + r) ≤ 2 * (nearest q o * u) + u)
near q r u Ordering.lt h l = omega arith
near q r u Ordering.eq h l = omega (arith, mul-le-mul_right u (even_or_odd q))
near q r u Ordering.gt h l = omega arith

pub closest_near : (n u : ℕ) → 0 < u → (2 * (closest n u * u) ≤ 2 * n + u) × (2 * n ≤ 2 * (closest n u * u) + u)
closest_near n u U =
    subst (λ (x : ℕ). (2 * (closest n u * u) ≤ 2 * x + u) × (2 * x ≤ 2 * (closest n u * u) + u)) (div-add-mod' n u)
    (near (n / u) (n % u) u (compare (n % u * 2) u) (says (n % u * 2) u) (mod-lt n U))

pub closest_one : (n : ℕ) → closest n 1 ≡ n
closest_one n = ap (λ (x : ℕ). nearest x (compare (n % 1 * 2) 1)) (div-one n) ∙ ap (λ (x : ℕ). nearest n (compare (x * 2) 1)) (mod-one n)
