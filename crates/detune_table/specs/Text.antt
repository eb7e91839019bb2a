-- The text of a table: one decimal number a line, entry 0 first (docs/REFERENCE.md, 'Detune in cents').
use Rattle.std.specs.Prelude.{List, [], ◌∷◌, ◌++◌, ℕ}
use Rattle.text.specs.Lines.{NEWLINE, field}

-- each number's digits, and a newline behind them
unfoldable pub table_text : List ℕ → List ℕ
table_text [] = []
table_text (f ∷ fs) = field f NEWLINE ++ table_text fs
