-- The front of a list, filled, with the rest behind it. Assumes nothing.
use Rattle.std.specs.Prelude.{◌≡◌, length, take, drop}
use Rattle.std.proofs.Math.Path.{refl, ap}
use Rattle.std.proofs.Common.{◌∙◌, arith, length-take-le}
use mathlib.Core.List.{List, [], ◌∷◌, ◌++◌}
use Prim.Native.Nat.{ℕ, zero, suc, min}
use Rattle.lists.specs.Table.{filled, length-filled}

module _ {A : Type 0} where
  filled_take : (n : ℕ) (f : ℕ → A) (l : List A) → filled n f (take n l) ++ drop n l ≡ filled n f l
  unfolding filled
  filled_take zero f l = refl
  filled_take (suc n) f [] = refl
  filled_take (suc n) f (x ∷ xs) = ap (λ (r : List A). f zero ∷ r) (filled_take n (λ i. f (suc i)) xs)

  -- the end of a loop that fills the first elements of l, k at most
  pub filled_front : (n k i : ℕ) (f : ℕ → A) (l m : List A) → n ≡ min (length l) k → m ≡ filled i f (take n l) → i ≡ length m
      → m ++ drop n l ≡ filled (min (length l) k) f l
  filled_front n k i f l m cut made all =
      let whole : i ≡ n = all ∙ ap length made ∙ length-filled i f (take n l) ∙ length-take-le n l (omega arith) in
      rw (made, whole) (filled_take n f l) ∙ ap (λ j. filled j f l) cut
