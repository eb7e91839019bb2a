-- The lines of an input, and the text of a whole run (docs/REFERENCE.md, 'trial'): the lines are obeyed one after another. Definitions
-- only.
use Rattle.std.specs.Prelude.{cond, List, [], ◌∷◌, ◌++◌, ℕ, eqb, length, replicate}
use Rattle.text.specs.Lines.{NEWLINE}
use Rattle.obeying.specs.Obeying.{obeyed}
use Rattle.obeying.specs.declared.Session.{Session}

-- the bytes up to each newline; a last line that lacks its newline counts if it isn't empty. `front` has gone before
unfoldable pub lines_from : List ℕ → List ℕ → List (List ℕ)
lines_from front [] = cond (eqb (length front) 0) [] (front ∷ [])
lines_from front (b ∷ bs) = cond (eqb b NEWLINE) (front ∷ lines_from [] bs) (lines_from (front ++ (b ∷ [])) bs)

abbrev pub lines : List ℕ → List (List ℕ)
lines input = lines_from [] input

-- what lines print, one after another, each from the session and the block output that the one before it left
unfoldable pub texts : List ℕ → Session → List ℕ → List (List ℕ) → List ℕ
texts samples s words [] = []
texts samples s words (l ∷ ls) =
    let o = obeyed samples s words l in
    o.reply.text ++ texts samples o.reply.session o.words ls

abbrev pub transcript : List ℕ → Session → List ℕ → List ℕ → List ℕ
transcript samples s words input = texts samples s words (lines input)

-- the block output before the first block: 32 channels of 128 words, all zero
abbrev pub no_words : List ℕ
no_words = replicate 4096 0
