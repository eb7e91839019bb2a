-- The laws of `specs/Statement.antt` but the threshold's. Assumes nothing.
use Rattle.std.proofs.Common.{◌≡◌, refl, sym, ap, ◌∙◌, false, List, ℕ, zero, suc, ◌≤◌, ◌<◌, get_or, replicate, arith}
use Rattle.std.specs.Prelude.{Ok}
use Rattle.std.proofs.lemmas.Bool.{cases_lt}
use mathlib.Core.Logic.{inl, inr}
use Rattle.buffer.specs.Answers.{after_checks, check}
use Rattle.buffer.specs.declared.refusals.Refusal.TheVariants as refused
use Rattle.lists.specs.Table.{table_same}
use Rattle.staircase.specs.Reversals.{reversals}
use Rattle.staircase.specs.Staircase.{is_lapse, reply_to, after_reply, stair_at, level, reply, is_accepted, staircase}
use Rattle.staircase.specs.Statement.{Agree, Staircases}
use Rattle.staircase.specs.declared.Track.{Track}
use Rattle.staircase.proofs.Tracks.{filled_same, answered, level_here, heard_here, level_past}
use Rattle.staircase.proofs.Threshold.{level_within, near_threshold}

-- ---- every level is within 0 to 120
module _ (start threshold step : ℕ) where
  within : (trials : ℕ) (lapses : List ℕ) (t : Track) → staircase start threshold step trials lapses ≡ Ok t → (k : ℕ) → get_or t.levels k 0 ≤ 120
  within trials lapses t e k =
      let a = answered start threshold step trials lapses t e in
      elim (cases_lt k trials) [
        | inl here ↦ rw (level_here start threshold step trials lapses t a k here) (level_within start threshold step lapses k a.low)
        | inr past ↦ rw (level_past start threshold step trials lapses t a k past) (omega arith)
      ]

  -- ---- lists of lapses that agree
  stairs_same : (one other : List ℕ) (k : ℕ) → ((j : ℕ) → j < k → Agree one other j) → stair_at start threshold step one k ≡ stair_at start threshold step other k
  unfolding stair_at
  stairs_same one other zero h = refl
  stairs_same one other (suc k) h =
      let before = stairs_same one other k (λ j b. h j (omega arith)) in
      let here = h k (omega arith) in
      ap (λ s. after_reply step s (reply_to threshold s.level (is_lapse one k))) before
      ∙ ap (λ l. after_reply step (stair_at start threshold step other k) (reply_to threshold (level start threshold step other k) l)) here

  levels_same : (one other : List ℕ) (k : ℕ) → ((j : ℕ) → j < k → Agree one other j) → level start threshold step one k ≡ level start threshold step other k
  levels_same one other k h = ap (λ s. s.level) (stairs_same one other k h)

  replies_same : (one other : List ℕ) (k : ℕ) → ((j : ℕ) → j ≤ k → Agree one other j) → reply start threshold step one k ≡ reply start threshold step other k
  replies_same one other k h =
      ap (λ l. reply_to threshold l (is_lapse one k)) (levels_same one other k (λ j b. h j (omega arith)))
      ∙ ap (reply_to threshold (level start threshold step other k)) (h k (omega arith))

  same_entries : (trials : ℕ) (one other : List ℕ) → ((k : ℕ) → k < trials → Agree one other k)
      → staircase start threshold step trials one ≡ staircase start threshold step trials other
  unfolding staircase
  same_entries trials one other h =
      let levels = λ (i : ℕ) (b : i < trials). levels_same one other i (λ j c. h j (omega arith)) in
      let replies = λ (i : ℕ) (b : i < trials). replies_same one other i (λ j c. h j (omega arith)) in
      let one_level = level start threshold step one in
      let other_level = level start threshold step other in
      let a = filled_same trials one_level other_level (replicate 1000 0) levels in
      let b = filled_same trials (reply start threshold step one) (reply start threshold step other) (replicate 1000 false) replies in
      let c = ap reversals (table_same trials one_level other_level levels) in
      ap (after_checks (check (is_accepted start threshold step trials) refused.Staircase)) cc

  nothing_after : (trials more : ℕ) (one other : List ℕ) (t u : Track)
      → staircase start threshold step trials one ≡ Ok t → staircase start threshold step more other ≡ Ok u
      → (k : ℕ) → k < trials → k < more → ((j : ℕ) → j ≤ k → Agree one other j)
      → (get_or t.levels k 0 ≡ get_or u.levels k 0) × (get_or t.heard k false ≡ get_or u.heard k false)
  nothing_after trials more one other t u e f k a b h =
      let t_is = answered start threshold step trials one t e in
      let u_is = answered start threshold step more other u f in (
        level_here start threshold step trials one t t_is k a ∙ levels_same one other k (λ j c. h j (omega arith))
            ∙ sym (level_here start threshold step more other u u_is k b),
        heard_here start threshold step trials one t t_is k a ∙ replies_same one other k h
            ∙ sym (heard_here start threshold step more other u u_is k b),
      )

pub staircases : Staircases
staircases start threshold step = record {
  within = within start threshold step;
  same_entries = same_entries start threshold step;
  nothing_after = nothing_after start threshold step;
  near_threshold = near_threshold start threshold step;
}
