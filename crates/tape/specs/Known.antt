-- Tapes that can be followed by hand (docs/REFERENCE.md, 'The loop switch'), with blocks of 4 samples. Definitions only.
use Rattle.std.specs.Prelude.{◌≡◌, true, false, List, [], ◌∷◌, ℕ, None, Some, Option}
use Rattle.tape.specs.Tape.{Tape, Step, loop_is, a_block, fresh, stepped, stepped_all, frame_at, stays_off}

-- the four samples of the next block
abbrev pub next_block : ℕ → Tape → List (Option ℕ)
next_block l t = frame_at l t 0 ∷ frame_at l t 1 ∷ frame_at l t 2 ∷ frame_at l t 3 ∷ []

-- all blocks of a list
unfoldable pub blocks : ℕ → Tape → List Step → List (List (Option ℕ))
blocks l t [] = []
blocks l t (loop_is on ∷ xs) = blocks l (stepped 4 l t (loop_is on)) xs
blocks l t (a_block ∷ xs) = next_block l t ∷ blocks l (stepped 4 l t a_block) xs

abbrev row : ℕ → ℕ → ℕ → ℕ → List (Option ℕ)
row a b c d = Some a ∷ Some b ∷ Some c ∷ Some d ∷ []

abbrev zeros : List (Option ℕ)
zeros = None ∷ None ∷ None ∷ None ∷ []

pub record KnownTapes : Type 0 where
  -- 10 frames: on and off twice within the clip
  pub within : blocks 10 fresh (loop_is true ∷ a_block ∷ loop_is false ∷ a_block ∷ loop_is true ∷ loop_is false ∷ a_block ∷ a_block ∷ [])
      ≡ row 0 1 2 3 ∷ row 4 5 6 7 ∷ (Some 8 ∷ Some 9 ∷ None ∷ None ∷ []) ∷ zeros ∷ []
  -- 6 frames: off after a wrap, past the end, and on again
  pub wrapped : blocks 6 fresh (loop_is true ∷ a_block ∷ a_block ∷ loop_is false ∷ a_block ∷ a_block ∷ loop_is true ∷ a_block ∷ [])
      ≡ row 0 1 2 3 ∷ row 4 5 0 1 ∷ row 2 3 4 5 ∷ zeros ∷ zeros ∷ []
  -- 6 frames: p at the clip's length without a wrap stays, also after a block that wrapped, so that off gives zeros
  pub kept : blocks 6 fresh (loop_is true ∷ a_block ∷ a_block ∷ a_block ∷ loop_is false ∷ a_block ∷ [])
      ≡ row 0 1 2 3 ∷ row 4 5 0 1 ∷ row 2 3 4 5 ∷ zeros ∷ []
  -- 4 frames: p at the clip's length with a wrap becomes 0, so that off plays the clip once more
  pub started_over : blocks 4 fresh (loop_is true ∷ a_block ∷ a_block ∷ loop_is false ∷ a_block ∷ a_block ∷ [])
      ≡ row 0 1 2 3 ∷ row 0 1 2 3 ∷ row 0 1 2 3 ∷ zeros ∷ []
  -- 4 frames: an exact fit, which doesn't end the tape; the next block does. 5 frames are not reached by one block
  pub exact_fit : stepped_all 4 4 fresh (a_block ∷ [])
      ≡ record { looped = false; head = record { p = 4; wrap = false }; exact_fit = true; ended = false }
  pub next : stepped_all 4 4 fresh (a_block ∷ a_block ∷ [])
      ≡ record { looped = false; head = record { p = 8; wrap = false }; exact_fit = false; ended = true }
  pub short : stepped_all 4 5 fresh (a_block ∷ [])
      ≡ record { looped = false; head = record { p = 4; wrap = false }; exact_fit = false; ended = false }
  -- the premise: no loop-on between the two; before the fit, after the next block, or with no block to come it may be
  pub between : stays_off 4 4 fresh (a_block ∷ loop_is false ∷ loop_is true ∷ a_block ∷ []) ≡ false
  pub elsewhere : stays_off 4 4 fresh (loop_is true ∷ loop_is false ∷ a_block ∷ a_block ∷ loop_is true ∷ a_block ∷ []) ≡ true
  pub at_last : stays_off 4 4 fresh (a_block ∷ loop_is true ∷ loop_is false ∷ loop_is true ∷ []) ≡ true
  -- loop-off may stand there, and after a looped block that comes to the clip's length anything may
  pub off_between : stays_off 4 4 fresh (a_block ∷ loop_is false ∷ loop_is false ∷ a_block ∷ []) ≡ true
  pub looped_before : stays_off 4 4 fresh (loop_is true ∷ a_block ∷ loop_is false ∷ loop_is true ∷ a_block ∷ []) ≡ true
