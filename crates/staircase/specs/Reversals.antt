-- The reversals of a list of levels (docs/REFERENCE.md, 'Staircase'): changes of direction, levels that stay skipped. Definitions only.
use Rattle.std.specs.Prelude.{Bool, false, not, cond, List, [], ◌∷◌, ◌++◌, ℕ, ◌+◌, eqb, ltb}
use Rattle.std.specs.Bool.{beq}

-- the move from a level to the next one: true is up; none at the end, or where the level stays
abbrev pub move : ℕ → List ℕ → List Bool
move level [] = []
move level (next ∷ levels) = cond (eqb next level) [] (ltb level next ∷ [])

-- the moves of a list of levels, in order
unfoldable pub moves : List ℕ → List Bool
moves [] = []
moves (level ∷ levels) = move level levels ++ moves levels

-- whether the next move goes the other way
abbrev pub turns : Bool → List Bool → Bool
turns up [] = false
turns up (next ∷ moves) = not (beq up next)

-- how many moves are followed by one that goes the other way
unfoldable pub changes : List Bool → ℕ
changes [] = 0
changes (up ∷ moves) = cond (turns up moves) 1 0 + changes moves

abbrev pub reversals : List ℕ → ℕ
reversals levels = changes (moves levels)
