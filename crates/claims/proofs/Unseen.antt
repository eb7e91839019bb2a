-- Previews among the calls: the others give what they give without them, and a preview shows what the block gives. Assumes nothing.
use mathlib.Core.Path.{◌≡◌, refl, ap, ◌∙◌}
use mathlib.Core.Bool.{Bool, true, false, cond, false≢true}
use mathlib.Core.List.{List, [], ◌∷◌}
use Prim.Native.Nat.{ℕ}
use lib.IntN.{ℤ}
use lib.ListN.{length}
use lib.Ieee.{Float}
use Rattle.detune.specs.Detune.{bad_cents, factor_of}
use Rattle.buffer.specs.Answers.{answer_of, stored, after_checks}
use Rattle.player.specs.Block.{plan, checked, report_of, rendered, output}
use Rattle.player.specs.declared.Player.{Player}
use Rattle.player.specs.declared.BlockReport.{BlockReport}
use Rattle.buffer.specs.declared.refusals.Refusal.{Refusal}
use Rattle.std.specs.Prelude.{Result, Ok, Err}
use Rattle.cents.specs.Cents.{checked_cents, rendered_cents, output_cents}
use Rattle.preview.specs.Preview.{shown, previewed, previewed_cents}
use Rattle.claims.specs.Calls.{Call, block}
use Rattle.claims.proofs.Samples.{alike}
use Rattle.claims.specs.Longer.{LongerCall, plain, in_cents, preview, preview_in_cents, Given, looked, Outcome, outcome, outcome_longer, is_left_out, as_call, replaced, is_preview, unlooked, outcomes_longer, others, left, seen, shown_by, SameBlock, Previews}

-- ---- the player stays
stays : (p : Player) (c : LongerCall) → is_preview c ≡ true → (outcome_longer p c).player ≡ p
stays p (plain c) l = absurd (false≢true l)
stays p (in_cents out samples time rate cents) l = absurd (false≢true l)
stays p (preview out samples time rate factor) l = refl
stays p (preview_in_cents out samples time rate cents) l = refl

-- a preview is left out of the list of calls
goes : (p : Player) (c : LongerCall) → is_preview c ≡ true → is_left_out p c ≡ true
goes p (plain c) l = absurd (false≢true l)
goes p (in_cents out samples time rate cents) l = absurd (false≢true l)
goes p (preview out samples time rate factor) l = refl
goes p (preview_in_cents out samples time rate cents) l = refl

-- ---- the whole list
other_step : (p : Player) (c : LongerCall) (cs : List LongerCall) (b : Bool) → is_preview c ≡ b → others (outcome_longer p c).player cs ≡ outcomes_longer (outcome_longer p c).player (unlooked cs)
    → cond b (others (outcome_longer p c).player cs) (outcome_longer p c ∷ others (outcome_longer p c).player cs) ≡ outcomes_longer p (cond b (unlooked cs) (c ∷ unlooked cs))
unfolding outcomes_longer
other_step p c cs true l e = e ∙ ap (λ (q : Player). outcomes_longer q (unlooked cs)) (stays p c l)
other_step p c cs false l e = ap (λ (os : List Outcome). outcome_longer p c ∷ os) e

pub unseen : (p : Player) (calls : List LongerCall) → others p calls ≡ outcomes_longer p (unlooked calls)
unfolding others outcomes_longer unlooked
unseen p [] = refl
unseen p (c ∷ cs) = other_step p c cs (is_preview c) refl (unseen (outcome_longer p c).player cs)

left_step : (p : Player) (c : LongerCall) (cs : List LongerCall) (b : Bool) → is_preview c ≡ b → left (outcome_longer p c).player cs ≡ left (outcome_longer p c).player (unlooked cs)
    → left (outcome_longer p c).player cs ≡ left p (cond b (unlooked cs) (c ∷ unlooked cs))
unfolding left
left_step p c cs true l e = e ∙ ap (λ (q : Player). left q (unlooked cs)) (stays p c l)
left_step p c cs false l e = e

pub leaves : (p : Player) (calls : List LongerCall) → left p calls ≡ left p (unlooked calls)
unfolding left unlooked
leaves p [] = refl
leaves p (c ∷ cs) = left_step p c cs (is_preview c) refl (leaves (outcome_longer p c).player cs)

-- previews alone leave the player
pub between_stays : (p : Player) (between : List LongerCall) → unlooked between ≡ [] → left p between ≡ p
unfolding left
between_stays p between none = leaves p between ∙ ap (left p) none

replaced_step : (p : Player) (c : LongerCall) (cs : List LongerCall) (b : Bool) → is_preview c ≡ b → replaced (outcome_longer p c).player cs ≡ replaced (outcome_longer p c).player (unlooked cs)
    → cond (is_left_out p c) (replaced (outcome_longer p c).player cs) (as_call c ∷ replaced (outcome_longer p c).player cs) ≡ replaced p (cond b (unlooked cs) (c ∷ unlooked cs))
unfolding replaced
replaced_step p c cs true l e =
    ap (λ (b : Bool). cond b (replaced (outcome_longer p c).player cs) (as_call c ∷ replaced (outcome_longer p c).player cs)) (goes p c l) ∙ e ∙ ap (λ (q : Player). replaced q (unlooked cs)) (stays p c l)
replaced_step p c cs false l e = ap (λ (rest : List Call). cond (is_left_out p c) rest (as_call c ∷ rest)) e

pub replaced_same_lem : (p : Player) (calls : List LongerCall) → replaced p calls ≡ replaced p (unlooked calls)
unfolding replaced unlooked
replaced_same_lem p [] = refl
replaced_same_lem p (c ∷ cs) = replaced_step p c cs (is_preview c) refl (replaced_same_lem (outcome_longer p c).player cs)

-- ---- what is shown
seen_shown : (r : Result BlockReport Refusal) → answer_of (shown r) ≡ seen (answer_of r)
seen_shown (Ok r) = refl
seen_shown (Err refused) = refl

module _ (p : Player) (between : List LongerCall) (none : unlooked between ≡ []) (out samples : List ℕ) (time rate : Float) where
  pub foretold : (factor : Float) → outcome_longer p (preview out samples time rate factor) ≡ shown_by p (outcome (left p between) (as_call (preview out samples time rate factor)))
  foretold factor =
      rw (between_stays p between none)
      (ap (λ (a : Given). record { answer = a; player = p; output = output 128 p out samples time rate factor }) (ap looked (seen_shown (rendered 128 p (length out) (length samples) time rate factor))))

  pub foretold_in_cents_lem : (cents : ℤ) → outcome_longer p (preview_in_cents out samples time rate cents) ≡ shown_by p (outcome_longer (left p between) (in_cents out samples time rate cents))
  foretold_in_cents_lem cents =
      rw (between_stays p between none)
      (ap (λ (a : Given). record { answer = a; player = p; output = output_cents 128 p out samples time rate cents }) (ap looked (seen_shown (rendered_cents 128 p (length out) (length samples) time rate cents))))

-- ---- into another output
module _ (p : Player) (second out samples : List ℕ) (same : length second ≡ length out) (time rate : Float) where
  same_block : (factor : Float) → SameBlock (outcome_longer p (preview second samples time rate factor)) (outcome p (block out samples time rate factor))
  unfolding rendered checked output
  same_block factor = record {
    answer =
        ap looked (seen_shown (rendered 128 p (length second) (length samples) time rate factor))
        ∙ ap (λ (n : ℕ). looked (seen (answer_of (rendered 128 p n (length samples) time rate factor)))) same;
    samples = alike p samples time rate factor false second out same;
  }

  same_in_cents : (cents : ℤ) → SameBlock (outcome_longer p (preview_in_cents second samples time rate cents)) (outcome_longer p (in_cents out samples time rate cents))
  unfolding rendered_cents checked_cents output_cents
  same_in_cents cents = record {
    answer =
        ap looked (seen_shown (rendered_cents 128 p (length second) (length samples) time rate cents))
        ∙ ap (λ (n : ℕ). looked (seen (answer_of (rendered_cents 128 p n (length samples) time rate cents)))) same;
    samples = alike p samples time rate (factor_of cents) (bad_cents cents) second out same;
  }

  module _ (between : List LongerCall) (none : unlooked between ≡ []) where
    pub any_output_lem : (factor : Float) → SameBlock (outcome_longer p (preview second samples time rate factor)) (outcome (left p between) (block out samples time rate factor))
    any_output_lem factor = rw (between_stays p between none) (same_block factor)

    pub any_output_in_cents_lem : (cents : ℤ) → SameBlock (outcome_longer p (preview_in_cents second samples time rate cents)) (outcome_longer (left p between) (in_cents out samples time rate cents))
    any_output_in_cents_lem cents = rw (between_stays p between none) (same_in_cents cents)

-- ---- a refused preview
-- an answer that is refused comes of checks that are
unwritten_by : (checks : Result Unit Refusal) (report : BlockReport) (refused : Refusal) (samples out : List ℕ) → shown (after_checks checks report) ≡ Err refused
    → stored (answer_of checks) samples out ≡ out
unwritten_by (Ok tt) report refused samples out h = absurd cc
unwritten_by (Err why) report refused samples out h = refl

module _ (p : Player) (out samples : List ℕ) (time rate : Float) (refused : Refusal) where
  pub unwritten : (factor : Float) → previewed 128 p (length out) (length samples) time rate factor ≡ Err refused → output 128 p out samples time rate factor ≡ out
  unfolding rendered output
  unwritten factor e = unwritten_by (checked 128 p (length out) (length samples) time rate factor) (report_of (plan 128 p time rate factor)) refused _ out e

  pub unwritten_in_cents_lem : (cents : ℤ) → previewed_cents 128 p (length out) (length samples) time rate cents ≡ Err refused → output_cents 128 p out samples time rate cents ≡ out
  unfolding rendered_cents output_cents
  unwritten_in_cents_lem cents e =
      unwritten_by (checked_cents 128 p (length out) (length samples) time rate cents) (report_of (plan 128 p time rate (factor_of cents))) refused _ out e

-- ---- the claim
pub previews : Previews
previews = record {
  unseen = unseen;
  leaves = leaves;
  foretold = foretold;
  foretold_in_cents = foretold_in_cents_lem;
  any_output = λ p between none second out samples same time rate factor. any_output_lem p second out samples same time rate between none factor;
  any_output_in_cents = λ p between none second out samples same time rate cents. any_output_in_cents_lem p second out samples same time rate between none cents;
  unwritten = λ p out samples time rate factor refused. unwritten p out samples time rate refused factor;
  unwritten_in_cents = λ p out samples time rate cents refused. unwritten_in_cents_lem p out samples time rate refused cents;
  replaced_same = replaced_same_lem;
}
