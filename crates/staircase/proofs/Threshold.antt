-- Every level is within 0 to 120; and without lapses the levels stay near the threshold once the first reversal has passed. Assumes nothing.
use Rattle.std.proofs.Common.{◌≡◌, refl, sym, ap, ◌∙◌, Bool, true, false, cond, not, List, [], ℕ, zero, suc, ◌+◌, ◌≤◌, ◌<◌, eqb, ltb, leb, length, get_or, take, drop, replicate, add-one, not-suc-le-zero, arith}
use mathlib.Core.Logic.{◌⊎◌, inl, inr}
use Rattle.std.specs.Prelude.{Option, None, Some, Ok}
use Rattle.std.proofs.lemmas.Bool.{eqb-true, eqb-false, ltb-true, ltb-false, leb-true, leb-false}
use Rattle.std.proofs.lemmas.List.{length-replicate}
use Rattle.std.proofs.Math.ListN.{drop_of_length-le}
use Rattle.lists.specs.Table.{table, length_table, get_or_table}
use Rattle.staircase.specs.Reversals.{reversals}
use Rattle.staircase.specs.Staircase.{after_reply, stair_at, level, reply, staircase}
use Rattle.staircase.specs.declared.Stair.{Stair}
use Rattle.staircase.specs.declared.Track.{Track}
use Rattle.staircase.proofs.Turning.{ahead, turned, loop_stays, loop_moves, loop_ends}
use Rattle.staircase.proofs.Tracks.{answered, level_here, take_filled}

either_within : (b : Bool) (s r : Stair) → s.level ≤ 120 → r.level ≤ 120 → (cond b s r).level ≤ 120
either_within true s r h k = h
either_within false s r h k = k

after_within : (step : ℕ) (s : Stair) (heard : Bool) → s.level ≤ 120 → (after_reply step s heard).level ≤ 120
after_within step s false h = omega arith
after_within step s true h = either_within (eqb s.count 0) _ _ h (omega arith)

module _ (start threshold step : ℕ) (lapses : List ℕ) where
  pub level_within : (k : ℕ) → start ≤ 120 → level start threshold step lapses k ≤ 120
  unfolding stair_at
  level_within zero h = h
  level_within (suc k) h = after_within step (stair_at start threshold step lapses k) (reply start threshold step lapses k) (level_within k h)

-- ---- where a trial without a lapse leads
data Moved (threshold step a b : ℕ) : Type 0 where
  stays : b ≡ a → Moved threshold step a b
  raised : a < threshold → a ≤ b → b ≤ a + step → Moved threshold step a b
  lowered : threshold ≤ a → b ≤ a → a ≤ b + step → Moved threshold step a b

either_moved : (threshold step a : ℕ) (b : Bool) (s r : Stair) → Moved threshold step a s.level → Moved threshold step a r.level
    → Moved threshold step a (cond b s r).level
either_moved threshold step a true s r m n = m
either_moved threshold step a false s r m n = n

moved_by : (threshold step : ℕ) (s : Stair) (b : Bool) → leb threshold s.level ≡ b → s.level ≤ 120
    → Moved threshold step s.level (after_reply step s b).level
moved_by threshold step s true e h =
    either_moved threshold step s.level (eqb s.count 0) _ _ (stays refl)
    (lowered (leb-true threshold s.level e) (omega arith) (omega arith))
moved_by threshold step s false e h = raised (leb-false threshold s.level e) (omega arith) (omega arith)

-- ---- what holds after some moves: the last one's direction, the reversals and the level
record Near (threshold step : ℕ) (last : Option Bool) (found level : ℕ) : Type 0 where
  rising : last ≡ Some true → level < threshold + step
  falling : last ≡ Some false → threshold ≤ level + step
  turned : 1 ≤ found → (threshold ≤ level + step) × (level < threshold + step)

-- a move in a direction, where the trial led from a to b
abbrev onward : Option Bool → ℕ → ℕ → Option Bool
onward last a b = cond (eqb b a) last (Some (ltb a b))

abbrev counted : Option Bool → ℕ → ℕ → ℕ → ℕ
counted last found a b = cond (eqb b a) found (found + turned last (ltb a b))

-- one more than were found turns the last move
turned_so : (last : Option Bool) (found : ℕ) (up : Bool) → 1 ≤ found + turned last up → (1 ≤ found) ⊎ (last ≡ Some (not up))
turned_so None found up h = inl (omega arith)
turned_so (Some true) found true h = inl (omega arith)
turned_so (Some true) found false h = inr refl
turned_so (Some false) found true h = inr refl
turned_so (Some false) found false h = inl (omega arith)

module _ (threshold step a b : ℕ) (last : Option Bool) (found : ℕ) (n : Near threshold step last found a) where
  near_raised : a < threshold → a ≤ b → b ≤ a + step → Near threshold step (Some true) (found + turned last true) b
  near_raised low up far = record {
    rising = λ e. omega arith;
    falling = λ e. cc;
    turned = λ h. elim (turned_so last found true h) [
      | inl before ↦ let m = n.turned before in (omega (arith, m.0), omega arith)
      | inr now ↦ let m = n.falling now in (omega (arith, m), omega arith)
    ];
  }

  near_lowered : threshold ≤ a → b ≤ a → a ≤ b + step → Near threshold step (Some false) (found + turned last false) b
  near_lowered high down far = record {
    rising = λ e. cc;
    falling = λ e. omega arith;
    turned = λ h. elim (turned_so last found false h) [
      | inl before ↦ let m = n.turned before in (omega arith, omega (arith, m.1))
      | inr now ↦ let m = n.rising now in (omega arith, omega (arith, m))
    ];
  }

  near_stays : b ≡ a → Near threshold step last found b
  near_stays e = rw e n

  near_by : (same up : Bool) → eqb b a ≡ same → ltb a b ≡ up → Moved threshold step a b
      → Near threshold step (cond same last (Some up)) (cond same found (found + turned last up)) b
  near_by true up e f m = near_stays (eqb-true b a e)
  near_by false up e f (stays s) = absurd (eqb-false b a e s)
  near_by false true e f (raised low rises far) = near_raised low rises far
  near_by false false e f (raised low rises far) = absurd (eqb-false b a e (omega (arith, ltb-false a b f)))
  near_by false true e f (lowered high falls far) = absurd (eqb-false b a e (omega (arith, ltb-true a b f)))
  near_by false false e f (lowered high falls far) = near_lowered high falls far

  near_next : Moved threshold step a b → Near threshold step (onward last a b) (counted last found a b) b
  near_next m = near_by (eqb b a) (ltb a b) refl refl m

-- ---- the last move, and the reversals, of the first levels
last_move : (ℕ → ℕ) → ℕ → Option Bool
last_move f zero = None
last_move f (suc k) = onward (last_move f k) (f k) (f (suc k))

found_in : (ℕ → ℕ) → ℕ → ℕ
found_in f zero = 0
found_in f (suc k) = counted (last_move f k) (found_in f k) (f k) (f (suc k))

module _ (last : Option Bool) (here found : ℕ) (levels : List ℕ) (i : ℕ) (within : i < length levels) where
  next_by : (same : Bool) → eqb (get_or levels i 0) here ≡ same
      → found + ahead last here (drop i levels)
      ≡ cond same found (found + turned last (ltb here (get_or levels i 0)))
      + ahead (cond same last (Some (ltb here (get_or levels i 0)))) (get_or levels i 0) (drop (suc i) levels)
  next_by true e =
      let eq = eqb-true (get_or levels i 0) here e in
      ap (λ (n : ℕ). found + n) (loop_stays last here levels i within eq
      ∙ ap (λ (l : ℕ). ahead last l (drop (i + 1) levels)) (sym eq)
      ∙ ap (λ j. ahead last (get_or levels i 0) (drop j levels)) (add-one i))
  next_by false e =
      let up = ltb here (get_or levels i 0) in
      let goes = loop_moves last here levels i within (eqb-false (get_or levels i 0) here e) in
      let on = ap (λ j. ahead (Some up) (get_or levels i 0) (drop j levels)) (add-one i) in
      omega (arith, goes, on)

so_far : (n : ℕ) (f : ℕ → ℕ) (k : ℕ) → k < n → reversals (table n f) ≡ found_in f k + ahead (last_move f k) (f k) (drop (suc k) (table n f))
unfolding ahead table last_move found_in
so_far zero f k h = absurd (not-suc-le-zero h)
so_far (suc n) f zero h = omega arith
so_far (suc n) f (suc k) h =
    let levels = table (suc n) f in
    let here : get_or levels (suc k) 0 ≡ f (suc k) = get_or_table (suc n) f (suc k) 0 h in
    so_far (suc n) f k (omega arith)
    ∙ next_by (last_move f k) (f k) (found_in f k) levels (suc k) (omega (arith, length_table (suc n) f)) (eqb (get_or levels (suc k) 0) (f k)) refl
    ∙ ap (λ (l : ℕ). counted (last_move f k) (found_in f k) (f k) l + ahead (onward (last_move f k) (f k) l) l (drop (suc (suc k)) levels)) here

all_found : (f : ℕ → ℕ) (k : ℕ) → reversals (table (k + 1) f) ≡ found_in f k
all_found f k =
    let levels = table (k + 1) f in
    let end = ap (ahead (last_move f k) (f k)) (drop_of_length-le levels {i = suc k} (omega (arith, length_table (k + 1) f))) ∙ loop_ends (last_move f k) (f k) in
    so_far (k + 1) f k (omega arith) ∙ omega (arith, end)

-- ---- without lapses
module _ (start threshold step : ℕ) (low : start ≤ 120) where
  moved : (k : ℕ) → Moved threshold step (level start threshold step [] k) (level start threshold step [] (suc k))
  unfolding stair_at
  moved k =
      moved_by threshold step (stair_at start threshold step [] k) (leb threshold (level start threshold step [] k)) refl
      (level_within start threshold step [] k low)

  nears : (k : ℕ) → Near threshold step (last_move (level start threshold step []) k) (found_in (level start threshold step []) k) (level start threshold step [] k)
  unfolding last_move found_in
  nears zero = record { rising = λ e. cc; falling = λ e. cc; turned = λ h. absurd (omega arith) }
  nears (suc k) =
      near_next threshold step (level start threshold step [] k) (level start threshold step [] (suc k))
      (last_move (level start threshold step []) k) (found_in (level start threshold step []) k) (nears k) (moved k)

pub near_threshold : (start threshold step trials : ℕ) (t : Track) → staircase start threshold step trials [] ≡ Ok t
    → (k : ℕ) → k < trials → 1 ≤ reversals (take (k + 1) t.levels)
    → (threshold ≤ get_or t.levels k 0 + step) × (get_or t.levels k 0 < threshold + step)
near_threshold start threshold step trials t e k h r =
    let a = answered start threshold step trials [] t e in
    let levels = level start threshold step [] in
    let first : reversals (take (k + 1) t.levels) ≡ reversals (table (k + 1) levels) =
    ap (λ (u : Track). reversals (take (k + 1) u.levels)) a.same
    ∙ ap reversals (take_filled (k + 1) trials levels (replicate 1000 0) (omega arith) (rw (length-replicate {A = ℕ} 1000 0) a.few)) in
    rw (level_here start threshold step trials [] t a k h)
    ((nears start threshold step a.low k).turned (omega (arith, first, all_found levels k)))
