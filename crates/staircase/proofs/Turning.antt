-- The reversals of a list, level after level: a level that stays, and a move in a direction. Assumes nothing.
use Rattle.std.proofs.Common.{◌≡◌, refl, sym, ap, ◌∙◌, Bool, true, false, not, cond, List, [], ◌∷◌, ◌++◌, ℕ, ◌+◌, ◌<◌, eqb, ltb, length, get_or, drop, add-one, drop-cons, arith}
use Rattle.std.proofs.lemmas.Bool.{eq-eqb, ne_eqb, eqb-true, eqb-false}
use Rattle.std.specs.Prelude.{Option, None, Some}
use Rattle.std.specs.Bool.{beq}
use Rattle.std.specs.Option.{option_to_list, option_eq}
use Rattle.staircase.specs.Reversals.{move, moves, changes}

-- the reversals of the levels to come, after a last move (none: None) to a level
unfoldable pub ahead : Option Bool → ℕ → List ℕ → ℕ
ahead last level levels = changes (option_to_list last ++ moves (level ∷ levels))

-- whether a move turns the last one, as a number
abbrev pub turned : Option Bool → Bool → ℕ
turned None up = 0
turned (Some last) up = cond (not (beq last up)) 1 0

ahead_stays : (last : Option Bool) (level next : ℕ) (levels : List ℕ) → eqb next level ≡ true
    → ahead last level (next ∷ levels) ≡ ahead last next levels
unfolding ahead moves
ahead_stays last level next levels e =
    ap (λ b. changes (option_to_list last ++ (cond b [] (ltb level next ∷ []) ++ (move next levels ++ moves levels)))) e

pub ahead_moves : (last : Option Bool) (level next : ℕ) (levels : List ℕ) → eqb next level ≡ false
    → ahead last level (next ∷ levels) ≡ turned last (ltb level next) + ahead (Some (ltb level next)) next levels
unfolding ahead moves changes
ahead_moves None level next levels e =
    ap (λ b. changes (cond b [] (ltb level next ∷ []) ++ (move next levels ++ moves levels))) e ∙ omega arith
ahead_moves (Some last) level next levels e =
    ap (λ b. changes (last ∷ (cond b [] (ltb level next ∷ []) ++ (move next levels ++ moves levels)))) e

-- ---- a turn of a loop over the levels
next_ahead : (last : Option Bool) (level : ℕ) (levels : List ℕ) (i : ℕ) → i < length levels
    → ahead last level (drop i levels) ≡ ahead last level (get_or levels i 0 ∷ drop (i + 1) levels)
next_ahead last level levels i h =
    ap (ahead last level) (drop-cons levels i 0 h ∙ ap (λ k. get_or levels i 0 ∷ drop k levels) (sym (add-one i)))

pub loop_stays : (last : Option Bool) (level : ℕ) (levels : List ℕ) (i : ℕ) → i < length levels → get_or levels i 0 ≡ level
    → ahead last level (drop i levels) ≡ ahead last level (drop (i + 1) levels)
loop_stays last level levels i h e =
    next_ahead last level levels i h ∙ ahead_stays last level (get_or levels i 0) (drop (i + 1) levels) (eq-eqb _ _ e)
    ∙ ap (λ (l : ℕ). ahead last l (drop (i + 1) levels)) e

pub loop_moves : (last : Option Bool) (level : ℕ) (levels : List ℕ) (i : ℕ) → i < length levels → (get_or levels i 0 ≡ level → ⊥)
    → ahead last level (drop i levels)
    ≡ turned last (ltb level (get_or levels i 0)) + ahead (Some (ltb level (get_or levels i 0))) (get_or levels i 0) (drop (i + 1) levels)
loop_moves last level levels i h e =
    next_ahead last level levels i h ∙ ahead_moves last level (get_or levels i 0) (drop (i + 1) levels) (ne_eqb _ _ e)

-- by the move's direction
none_stays : (stays up : Bool) → None ≡ cond stays None (Some up) → stays ≡ true
none_stays true up e = refl
none_stays false up e = cc

some_moves : (stays up to : Bool) → Some to ≡ cond stays None (Some up) → (stays ≡ false) × (up ≡ to)
some_moves true up to e = cc
some_moves false up to e = (refl, cc)

module _ (last : Option Bool) (level : ℕ) (levels : List ℕ) (i : ℕ) (within : i < length levels) where
  pub loop_none : None ≡ cond (eqb (get_or levels i 0) level) None (Some (ltb level (get_or levels i 0)))
      → ahead last level (drop i levels) ≡ ahead last level (drop (i + 1) levels)
  loop_none e = loop_stays last level levels i within (eqb-true (get_or levels i 0) level (none_stays _ _ e))

  pub loop_some : (to : Bool) → Some to ≡ cond (eqb (get_or levels i 0) level) None (Some (ltb level (get_or levels i 0)))
      → ahead last level (drop i levels) ≡ turned last to + ahead (Some to) (get_or levels i 0) (drop (i + 1) levels)
  loop_some to e =
      let is = some_moves _ _ to e in
      loop_moves last level levels i within (eqb-false (get_or levels i 0) level is.0)
      ∙ ap (λ up. turned last up + ahead (Some up) (get_or levels i 0) (drop (i + 1) levels)) is.1

-- the first level is met twice
pub loop_begins : (levels : List ℕ) → ahead None (get_or levels 0 0) levels ≡ changes (moves levels)
unfolding ahead moves changes
loop_begins [] = refl
loop_begins (level ∷ levels) = ap (λ b. changes (cond b [] (ltb level level ∷ []) ++ (move level levels ++ moves levels))) (eq-eqb level level refl)

pub loop_ends : (last : Option Bool) (level : ℕ) → ahead last level [] ≡ 0
unfolding ahead moves changes
loop_ends None level = refl
loop_ends (Some up) level = refl

-- the loop's test of a turn
pub turned_yes : (last : Option Bool) (up : Bool) → option_eq beq last (Some (not up)) ≡ true → turned last up ≡ 1
turned_yes None up e = cc
turned_yes (Some true) true e = cc
turned_yes (Some true) false e = refl
turned_yes (Some false) true e = refl
turned_yes (Some false) false e = cc

pub turned_no : (last : Option Bool) (up : Bool) → option_eq beq last (Some (not up)) ≡ false → turned last up ≡ 0
turned_no None up e = refl
turned_no (Some true) true e = refl
turned_no (Some true) false e = cc
turned_no (Some false) true e = cc
turned_no (Some false) false e = refl
