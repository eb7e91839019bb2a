-- What is printed, and the lines of the entries that are left, are all lines.
use Rattle.std.proofs.Common.{◌≡◌, ◌*◌, ◌≤◌, ◌++◌, take, drop}
use Rattle.lists.specs.Table.{table}
use Rattle.detune_table.specs.Bounds.{lower, found}
use Rattle.detune_table.specs.Text.{table_text}
use Rattle.detune_table.proofs.put_table.Given as goal

abbrev pub invariant-loop-entry : goal.invariant-loop-entry
invariant-loop-entry l =
    (l.bound ≡ lower l._entry) × (l.at ≤ 21 * l._entry) × (take l.at l.out ++ table_text (drop l._entry (table 1200 found)) ≡ table_text (table 1200 found))
