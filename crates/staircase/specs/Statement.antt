-- What holds of every staircase (docs/REFERENCE.md, 'Staircase'), of each track that a call answers. Definitions only.
use Rattle.std.specs.Prelude.{◌≡◌, false, List, [], ℕ, ◌+◌, ◌≤◌, ◌<◌, get_or, take, Ok}
use Rattle.staircase.specs.Reversals.{reversals}
use Rattle.staircase.specs.Staircase.{is_lapse, staircase}
use Rattle.staircase.specs.declared.Track.{Track}

-- both lists have trial k as a lapse, or neither has
abbrev pub Agree : List ℕ → List ℕ → ℕ → Type 0
Agree one other k = is_lapse one k ≡ is_lapse other k

pub record StaircaseLaws (start threshold step : ℕ) : Type 0 where
  -- every level is within 0 to 120
  pub within : (trials : ℕ) (lapses : List ℕ) (t : Track) → staircase start threshold step trials lapses ≡ Ok t
      → (k : ℕ) → get_or t.levels k 0 ≤ 120
  -- two lists of lapses with the same entries below the number of trials give the same answer
  pub same_entries : (trials : ℕ) (one other : List ℕ) → ((k : ℕ) → k < trials → Agree one other k)
      → staircase start threshold step trials one ≡ staircase start threshold step trials other
  -- a trial's level and reply depend on nothing after it: neither on later lapses nor on the number of trials
  pub nothing_after : (trials more : ℕ) (one other : List ℕ) (t u : Track)
      → staircase start threshold step trials one ≡ Ok t → staircase start threshold step more other ≡ Ok u
      → (k : ℕ) → k < trials → k < more → ((j : ℕ) → j ≤ k → Agree one other j)
      → (get_or t.levels k 0 ≡ get_or u.levels k 0) × (get_or t.heard k false ≡ get_or u.heard k false)
  -- without lapses, once the first reversal has passed (the levels of trials 0 to k have one), a level lies within one step of the
  -- threshold, and so within two. No room above or below is asked for: a level that stops at 0 or 120 is no further from the threshold
  pub near_threshold : (trials : ℕ) (t : Track) → staircase start threshold step trials [] ≡ Ok t
      → (k : ℕ) → k < trials → 1 ≤ reversals (take (k + 1) t.levels)
      → (threshold ≤ get_or t.levels k 0 + step) × (get_or t.levels k 0 < threshold + step)

abbrev pub Staircases : Type 0
Staircases = (start threshold step : ℕ) → StaircaseLaws start threshold step
