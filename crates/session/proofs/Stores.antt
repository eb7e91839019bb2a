-- Texts stored one after another. Assumes nothing.
use mathlib.Core.Path.{◌≡◌, refl, ap, sym, ◌∙◌}
use mathlib.Core.List.{List, [], ◌∷◌, ◌++◌, append-nil}
use Prim.Native.Nat.{ℕ, zero, suc, ◌+◌, ◌-◌, ◌≤◌}
use native.Mathlib.Nat.{add-zero, le_of_eq, le_of_suc-le-suc, not-suc-le-zero}
use native.Mathlib.Omega.{arith}
use lib.ListN.{length, set, take, drop, length-drop, drop_of_length-le}
use lib.Seq.{sets, take_all}

pub sets_append : (a b l : List ℕ) (i : ℕ) → sets l i (a ++ b) ≡ sets (sets l i a) (i + length a) b
sets_append [] b l i = ap (λ k. sets l k b) (sym (add-zero i))
sets_append (x ∷ a) b l i = sets_append a b (set l i x) (suc i) ∙ ap (λ k. sets (sets (set l i x) (suc i) a) k b) (omega arith)

-- ---- a text stored at the start of the rest of a slice
sets_cons : (t l : List ℕ) (x i : ℕ) → sets (x ∷ l) (suc i) t ≡ x ∷ sets l i t
sets_cons [] l x i = refl
sets_cons (y ∷ t) l x i = sets_cons t (set l i y) x (suc i)

sets_from : (l t : List ℕ) (i : ℕ) → i ≤ length l → sets l i t ≡ take i l ++ sets (drop i l) 0 t
sets_from l t zero h = refl
sets_from [] t (suc i) h = absurd (not-suc-le-zero h)
sets_from (x ∷ l) t (suc i) h = sets_cons t l x i ∙ ap (λ (r : List ℕ). x ∷ r) (sets_from l t i (le_of_suc-le-suc h))

-- once the lent rest is back
pub part_back : (out part t : List ℕ) (i : ℕ) → i ≤ length out → part ≡ sets (take (length out - i) (drop i out)) 0 t
    → take i out ++ (part ++ drop (length out - i) (drop i out)) ≡ sets out i t
part_back out part t i h is =
    let left : length (drop i out) ≤ length out - i = le_of_eq (length-drop i out) in
    rw (drop_of_length-le (drop i out) {i = length out - i} left, append-nil part, is, take_all (length out - i) (drop i out) left) (sym (sets_from out t i h))
