-- What is printed of a staircase (docs/REFERENCE.md, 'Staircase'): its numbers, a line for each trial, and the reversals; or its refusal.
use Rattle.std.specs.Prelude.{Bool, false, cond, List, [], ◌++◌, ℕ, zero, suc, get_or, codes, decimal, Result, Ok, Err}
use Rattle.buffer.specs.Refusals.{number}
use Rattle.buffer.specs.declared.refusals.Refusal.{Refusal}
use Rattle.staircase.specs.declared.Track.{Track}

-- the numbers that the staircase was asked for with
unfoldable pub heading : ℕ → ℕ → ℕ → ℕ → List ℕ
heading start threshold step trials =
    codes "start " ++ (decimal start ++ (codes " threshold " ++ (decimal threshold ++ (codes " step " ++ (decimal step
    ++ (codes " trials " ++ (decimal trials ++ codes "\n")))))))

abbrev pub reply_word : Bool → List ℕ
reply_word heard = cond heard (codes "heard") (codes "unheard")

-- a trial's number, its level in decibels and its reply
unfoldable pub trial_line : ℕ → ℕ → Bool → List ℕ
trial_line trial level heard = decimal trial ++ (codes " " ++ (decimal level ++ (codes " " ++ (reply_word heard ++ codes "\n"))))

-- the first n trials
unfoldable pub trial_lines : ℕ → Track → List ℕ
trial_lines zero t = []
trial_lines (suc n) t = trial_lines n t ++ trial_line n (get_or t.levels n 0) (get_or t.heard n false)

unfoldable pub closing : ℕ → List ℕ
closing reversals = codes "reversals " ++ (decimal reversals ++ codes "\n")

unfoldable pub refusal_line : ℕ → List ℕ
refusal_line refusal = codes "X " ++ (decimal refusal ++ codes "\n")

-- the whole text of an answer
unfoldable pub answer_text : ℕ → ℕ → ℕ → ℕ → Result Track Refusal → List ℕ
answer_text start threshold step trials (Ok t) =
    heading start threshold step trials ++ (trial_lines trials t ++ closing t.reversals)
answer_text start threshold step trials (Err refused) = refusal_line (number refused)
