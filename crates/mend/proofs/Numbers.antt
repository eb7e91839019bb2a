-- The numbers of a list, one after another. Assumes nothing.
use Rattle.std.proofs.Common.{◌≡◌, ap, sym, ◌∙◌, List, ◌++◌, ℕ, ◌+◌, ◌<◌, ◌≤◌, length, get_or, drop, append_assoc, append-nil, drop-cons, add-one}
use lib.ListN.{drop_of_length-le}
use Rattle.std.specs.Prelude.{codes, decimal}
use Rattle.mend.specs.Told.{numbers}

-- a turn: a number is printed behind what was printed before
pub number_more : (i : ℕ) (list text text' : List ℕ) → i < length list → text ++ numbers (drop i list) ≡ numbers list
    → text' ≡ text ++ (codes " " ++ decimal (get_or list i 0)) → text' ++ numbers (drop (i + 1) list) ≡ numbers list
unfolding numbers
number_more i list text text' below before made =
    rw (made, add-one) (append_assoc text _ _ ∙ ap (λ (l : List ℕ). text ++ l) (sym (ap numbers (drop-cons list i 0 below))) ∙ before)

-- the end: no number is left
pub numbers_end : (i : ℕ) (list text : List ℕ) → length list ≤ i → text ++ numbers (drop i list) ≡ numbers list → text ≡ numbers list
unfolding numbers
numbers_end i list text past made = sym (append-nil text) ∙ ap (λ (l : List ℕ). text ++ numbers l) (sym (drop_of_length-le list {i = i} past)) ∙ made
