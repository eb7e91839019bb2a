-- The two-down one-up staircase with a simulated listener, trial by trial (docs/REFERENCE.md, 'Staircase'). Levels are whole decibels, and
-- trials count from 0. Definitions only.
use Rattle.std.specs.Prelude.{Bool, false, not, ◌&&◌, cond, List, ℕ, zero, suc, ◌+◌, ◌-◌, min, eqb, leb, replicate, Result}
use Rattle.std.specs.List.{list_any}
use Rattle.buffer.specs.Answers.{after_checks, check}
use Rattle.buffer.specs.declared.refusals.Refusal.{Refusal}
use Rattle.buffer.specs.declared.refusals.Refusal.TheVariants as refused
use Rattle.lists.specs.Table.{table, filled}
use Rattle.staircase.specs.Reversals.{reversals}
use Rattle.staircase.specs.declared.Stair.{Stair}
use Rattle.staircase.specs.declared.Track.{Track}

-- the lapse trials are those that stand in the list
abbrev pub is_lapse : List ℕ → ℕ → Bool
is_lapse lapses k = list_any (eqb k) lapses

-- two heard replies in a row lower the level by the step and restart the count, also where the level can't move; one unheard raises it and
-- restarts. Levels stop at 0 and 120
abbrev pub after_reply : ℕ → Stair → Bool → Stair
after_reply step s heard =
    cond (not heard) (record { level = min 120 (s.level + step); count = 0 })
    (cond (eqb s.count 0) (record { level = s.level; count = 1 })
    (record { level = s.level - step; count = 0 }))

-- heard means a level at or above the threshold; a lapse reverses the reply
abbrev pub reply_to : ℕ → ℕ → Bool → Bool
reply_to threshold level lapse = let heard = leb threshold level in cond lapse (not heard) heard

-- 1,000 places of 0 and unheard
abbrev pub blank : Track
blank = record { levels = replicate 1000 0; heard = replicate 1000 false; reversals = 0 }

module _ (start threshold step : ℕ) (lapses : List ℕ) where
  -- before trial k
  unfoldable pub stair_at : ℕ → Stair
  stair_at zero = record { level = start; count = 0 }
  stair_at (suc k) = let s = stair_at k in after_reply step s (reply_to threshold s.level (is_lapse lapses k))

  -- of trial k
  abbrev pub level : ℕ → ℕ
  level k = (stair_at k).level

  abbrev pub reply : ℕ → Bool
  reply k = reply_to threshold (level k) (is_lapse lapses k)

  -- the trials' levels and replies, then only 0 and unheard; the reversals are those of the trials' levels
  abbrev pub track : ℕ → Track
  track trials = record {
    levels = filled trials level blank.levels;
    heard = filled trials reply blank.heard;
    reversals = reversals (table trials level);
  }

-- what is not refused with 22
abbrev pub is_accepted : ℕ → ℕ → ℕ → ℕ → Bool
is_accepted start threshold step trials =
    leb start 120 && (leb threshold 120 && (leb 1 step && (leb step 20 && (leb 1 trials && leb trials 1000))))

-- the answer
unfoldable pub staircase : ℕ → ℕ → ℕ → ℕ → List ℕ → Result Track Refusal
staircase start threshold step trials lapses =
    after_checks (check (is_accepted start threshold step trials) refused.Staircase) (track start threshold step lapses trials)
