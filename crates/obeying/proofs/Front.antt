-- A text stored into the front of a slice.
use Rattle.std.proofs.Common.{◌≡◌, sym, ap, ◌∙◌, List, ◌++◌, append_assoc, ℕ, ◌+◌, ◌≤◌, length, length-take-le, take, drop, take-append-drop, arith}
use Rattle.std.proofs.lemmas.List.{drop-append-le}
use Rattle.std.proofs.lemmas.List.Edits.{sets, sets-eq}

pub stored_in_front : (n : ℕ) (out t : List ℕ) → length t ≤ n → n ≤ length out → sets (take n out) 0 t ++ drop n out ≡ sets out 0 t
stored_in_front n out t fits room =
    let k = 0 + length t in
    let size : length (take n out) ≡ n = length-take-le n out room in
    ap (λ (l : List ℕ). l ++ drop n out) (sets-eq t (take n out) 0 (omega arith))
    ∙ append_assoc t (drop k (take n out)) (drop n out)
    ∙ ap (λ (l : List ℕ). t ++ l) (sym (drop-append-le k (take n out) (drop n out) (omega arith)) ∙ ap (drop k) (take-append-drop n out))
    ∙ sym (sets-eq t out 0 (omega arith))
