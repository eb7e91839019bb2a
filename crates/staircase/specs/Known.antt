-- Staircases that can be followed by hand (docs/REFERENCE.md, 'Staircase'). Definitions only.
use Rattle.std.specs.Prelude.{◌≡◌, Bool, true, false, List, [], ◌∷◌, ℕ, ◌-◌, ◌^◌, take, Result, Ok, Err}
use Rattle.buffer.specs.declared.refusals.Refusal.{Refusal}
use Rattle.buffer.specs.declared.refusals.Refusal.TheVariants as refused
use Rattle.staircase.specs.Reversals.{reversals}
use Rattle.staircase.specs.Staircase.{is_accepted, staircase}
use Rattle.staircase.specs.declared.Track.{Track}

-- the places of n trials, and the reversals
abbrev pub places : ℕ → Result Track Refusal → Result (List ℕ × List Bool × ℕ) Refusal
places n (Ok t) = Ok (take n t.levels, take n t.heard, t.reversals)
places n (Err refusal) = Err refusal

abbrev pub of_trials : ℕ → ℕ → ℕ → ℕ → List ℕ → Result (List ℕ × List Bool × ℕ) Refusal
of_trials start threshold step trials lapses = places trials (staircase start threshold step trials lapses)

pub record KnownStaircases : Type 0 where
  -- at level 0 two heard replies restart the count, though the level stays; the lapse at trial 4 raises it to 3, and two more lower it: the
  -- level after the last trial is none of the levels
  pub seven : of_trials 0 0 3 7 (4 ∷ [])
      ≡ Ok (0 ∷ 0 ∷ 0 ∷ 0 ∷ 0 ∷ 3 ∷ 3 ∷ [], true ∷ true ∷ true ∷ true ∷ false ∷ true ∷ true ∷ [], 0)
  pub eight : of_trials 0 0 3 8 (4 ∷ [])
      ≡ Ok (0 ∷ 0 ∷ 0 ∷ 0 ∷ 0 ∷ 3 ∷ 3 ∷ 0 ∷ [], true ∷ true ∷ true ∷ true ∷ false ∷ true ∷ true ∷ true ∷ [], 1)
  -- a part of a step is a move: from 2 to 0. The level stays at 0 between the move down and the move up, and both reversals count
  pub part_of_a_step : of_trials 2 0 5 8 (4 ∷ [])
      ≡ Ok (2 ∷ 2 ∷ 0 ∷ 0 ∷ 0 ∷ 5 ∷ 5 ∷ 0 ∷ [], true ∷ true ∷ true ∷ true ∷ false ∷ true ∷ true ∷ true ∷ [], 2)
  -- a repeated entry reverses once, and one that is no trial changes nothing
  pub repeated : of_trials 2 0 5 8 (1000 ∷ 4 ∷ 8 ∷ 4 ∷ (2 ^ 64 - 1) ∷ []) ≡ of_trials 2 0 5 8 (4 ∷ [])
  -- levels stop at 120, and a part of a step is a move there too
  pub at_120 : of_trials 118 120 5 7 []
      ≡ Ok (118 ∷ 120 ∷ 120 ∷ 115 ∷ 120 ∷ 120 ∷ 115 ∷ [], false ∷ true ∷ true ∷ false ∷ true ∷ true ∷ false ∷ [], 3)
  -- a lapse after one heard reply restarts the count: trials 1 and 2 are no two heard replies in a row
  pub restarted : of_trials 50 10 4 5 (1 ∷ [])
      ≡ Ok (50 ∷ 50 ∷ 54 ∷ 54 ∷ 50 ∷ [], true ∷ false ∷ true ∷ true ∷ true ∷ [], 1)
  -- without lapses: from trial 7 on, the first reversal has passed
  pub no_lapse : of_trials 20 10 4 10 []
      ≡ Ok (
        20 ∷ 20 ∷ 16 ∷ 16 ∷ 12 ∷ 12 ∷ 8 ∷ 12 ∷ 12 ∷ 8 ∷ [],
        true ∷ true ∷ true ∷ true ∷ true ∷ true ∷ false ∷ true ∷ true ∷ false ∷ [],
        2,
      )
  pub before_it : reversals (20 ∷ 20 ∷ 16 ∷ 16 ∷ 12 ∷ 12 ∷ 8 ∷ []) ≡ 0
  pub first_one : reversals (20 ∷ 20 ∷ 16 ∷ 16 ∷ 12 ∷ 12 ∷ 8 ∷ 12 ∷ []) ≡ 1
  -- a level that stays is no change of direction, wherever it stands
  pub staying : reversals (5 ∷ 5 ∷ 7 ∷ 7 ∷ 7 ∷ 9 ∷ 9 ∷ 8 ∷ 8 ∷ []) ≡ 1
  -- the limits are accepted, and nothing beyond them
  pub highest : is_accepted 120 120 20 1000 ≡ true
  pub lowest : is_accepted 0 0 1 1 ≡ true
  pub start : staircase 121 0 1 1 [] ≡ Err refused.Staircase
  pub threshold : staircase 0 121 1 1 [] ≡ Err refused.Staircase
  pub no_step : staircase 0 0 0 1 [] ≡ Err refused.Staircase
  pub step : staircase 0 0 21 1 [] ≡ Err refused.Staircase
  pub no_trial : staircase 0 0 1 0 [] ≡ Err refused.Staircase
  pub trials : staircase 0 0 1 1001 [] ≡ Err refused.Staircase
