-- `detune_table::put_table`: a line is printed into the rest, behind what was printed before.
-- By hand: it was not proved that the sum fits its type, nor the loop's invariant; for what is returned `search` gave up at one of its limits.
use Rattle.std.proofs.Common.{rules, ◌≡◌, ◌+◌, ◌*◌, ◌/◌, ◌^◌, ap, sym, ◌∙◌, List, ◌++◌, append_assoc, append-nil, add-one, unwrap_or, take, drop, ℕ, arith}
use Rattle.text.specs.Lines.{NEWLINE, field}
use Rattle.detune_table.specs.Bounds.{LOW, lower, found}
use Rattle.detune_table.specs.Text.{table_text}
use Rattle.lists.specs.Table.{table}
use Rattle.detune_table.proofs.Lines.{line_turn, line_next, lines_end}
use Rattle.detune_table.proofs.put_table.Goals as goal

pub overflow_add-at : goal.overflow_add-at
overflow_add-at c =
    let turn = line_turn 25200 c.loop-entry.at _ _ c.loop-entry.out _ (search rules) (omega arith) (c.unwrap_or-at.ensures ∙ ap (λ o. unwrap_or o 0) c.number_line.ensures.0) c.number_line.ensures.1 in
    omega (arith, turn.0)

pub loop-entry-preserved : goal.loop-entry-preserved
unfolding found lower
loop-entry-preserved c =
    let k = c.loop-entry._entry in
    let here : c.loop-entry.bound / 2 ^ 32 ≡ found k = ap (λ x. x / 2 ^ 32) c.loop-entry.invariant.0 in
    let turn = line_turn 25200 c.loop-entry.at _ _ c.loop-entry.out _ (search rules) (omega arith) (c.unwrap_or-at.ensures ∙ ap (λ o. unwrap_or o 0) c.number_line.ensures.0) c.number_line.ensures.1 in
    let left = table_text (drop (k + 1) (table 1200 found)) in
    let printed = take c.loop-entry.at c.loop-entry.out in
    let next = line_next 1200 found k c.loop-entry-test.true in (
      c.scaled-bound.ensures ∙ ap (λ x. x * LOW / 2 ^ 62) c.loop-entry.invariant.0 ∙ ap lower (sym (add-one k)),
      omega (arith, turn.0),
      ap (λ (l : List ℕ). l ++ left) turn.1 ∙ append_assoc printed _ left ∙ ap (λ (l : List ℕ). printed ++ l) (ap (λ x. field x NEWLINE ++ left) here ∙ sym next) ∙ c.loop-entry.invariant.2,
    )

pub returns : goal.returns
returns c =
    let done = lines_end 1200 found c.loop-entry._entry c.loop-entry-test.false in
    let printed = take c.loop-entry.at c.loop-entry.out in (
      omega (arith, c.loop-entry.auto._entry-end),
      sym (append-nil printed) ∙ ap (λ (l : List ℕ). printed ++ l) (sym done) ∙ c.loop-entry.invariant.2 ∙ ap table_text (sym c.generated.ensures.same),
    )
