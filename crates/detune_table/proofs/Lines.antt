-- The lines of a table, one after another.
use Rattle.std.proofs.Common.{◌≡◌, true, refl, ap, sym, ◌∙◌, List, [], ◌++◌, append_assoc, ℕ, suc, ◌+◌, ◌≤◌, ◌<◌, add-one, leb, length, length-take-le, length-drop, take, drop, drop-cons, ◌-◌, take_all, arith}
use Rattle.std.proofs.Math.Seq.{sets-eq, take-append_seam, take-append-add}
use Rattle.text.proofs.Lengths.{length_field}
use Rattle.std.specs.Prelude.{unwrap_or}
use Rattle.std.proofs.Math.ListN.{drop_of_length-le}
use Rattle.std.proofs.lemmas.Bool.{le-leb}
use Rattle.lists.specs.Table.{table, length_table, get_or_table}
use Rattle.text.specs.Lines.{NEWLINE, field, printed, printed_out}
use Rattle.detune_table.specs.Text.{table_text}

module _ (n : ℕ) (f : ℕ → ℕ) where
  pub line_next : (c : ℕ) → c < n → table_text (drop c (table n f)) ≡ field (f c) NEWLINE ++ table_text (drop (c + 1) (table n f))
  unfolding table_text
  line_next c h =
      ap table_text (drop-cons (table n f) c 0 (omega (arith, length_table n f)))
      ∙ ap (λ x. field x NEWLINE ++ table_text (drop (suc c) (table n f))) (get_or_table n f c 0 h)
      ∙ ap (λ k. field (f c) NEWLINE ++ table_text (drop k (table n f))) (sym (add-one c))

  pub lines_end : (c : ℕ) → n ≤ c → table_text (drop c (table n f)) ≡ []
  unfolding table_text
  lines_end c h = ap table_text (drop_of_length-le (table n f) {i = c} (omega (arith, length_table n f)))

-- a line printed into the rest of a slice, behind what was printed before
pub line_turn : (n at v k : ℕ) (out part : List ℕ) → length out ≡ n → at + 21 ≤ n
    → k ≡ unwrap_or (printed (leb 21 (length (take (n - at) (drop at out)))) (field v NEWLINE)) 0
    → part ≡ printed_out (leb 21 (length (take (n - at) (drop at out)))) (field v NEWLINE) (take (n - at) (drop at out))
    → (k ≤ 21) × (take (at + k) (take at out ++ (part ++ drop (n - at) (drop at out))) ≡ take at out ++ field v NEWLINE)
unfolding printed printed_out
line_turn n at v k out part size room told stored =
    let t = field v NEWLINE in
    let left = drop at out in
    let more = drop (n - at) left in
    let whole : take (n - at) left ≡ left = take_all (n - at) left (omega (arith, length-drop at out)) in
    let fits : leb 21 (length left) ≡ true = le-leb 21 (length left) (omega (arith, length-drop at out)) in
    let short = length_field v NEWLINE in
    let count : k ≡ length t = told ∙ rw (whole, fits) refl in
    let front : part ≡ t ++ drop (0 + length t) left = stored ∙ rw (whole, fits) (sets-eq t left 0 (omega (arith, length-drop at out))) in
    let before : length (take at out) ≡ at = length-take-le at out (omega arith) in
    let behind : take k (part ++ more) ≡ t =
    ap (λ (l : List ℕ). take k (l ++ more)) front ∙ ap (λ m. take m ((t ++ drop (0 + length t) left) ++ more)) count
    ∙ ap (take (length t)) (append_assoc t (drop (0 + length t) left) more) ∙ take-append_seam t (drop (0 + length t) left ++ more) in
    (omega (arith, count, short), ap (λ m. take (m + k) (take at out ++ (part ++ more))) (sym before) ∙ take-append-add (take at out) (part ++ more) k ∙ ap (λ (l : List ℕ). take at out ++ l) behind)
