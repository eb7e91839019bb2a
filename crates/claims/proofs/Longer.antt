-- Blocks in cents among the other calls: an accepted one is the block with its factor, a refused one leaves everything, and so does a preview. Assumes nothing.
use mathlib.Core.Path.{◌≡◌, refl, sym, ap, ◌∙◌}
use mathlib.Core.Bool.{Bool, true, false, not, ◌&&◌, cond, false≢true}
use mathlib.Core.List.{List, [], ◌∷◌}
use Prim.Native.Nat.{ℕ}
use lib.Dec.{T}
use lib.IntN.{ℤ, pos}
use lib.ListN.{length}
use lib.Ieee.{Float, binary32, binary64, fits, of_bits}
use lib.Ieee.Fits.{and_i, and_l, and_r}
use Rattle.detune.specs.Detune.{bad_cents, factor_of}
use Rattle.detune.specs.Statement.{Exact}
use Rattle.player.specs.declared.Player.{Player}
use Rattle.buffer.specs.declared.refusals.Refusal.{Refusal}
use Rattle.std.specs.Prelude.{Result, Ok, Err}
use Rattle.cents.specs.Cents.{checked_cents, rendered_cents, output_cents}
use Rattle.player.specs.Block.{plan, checks, report_of, written}
use Rattle.buffer.specs.Answers.{answer_of, stored, after_checks}
use Rattle.cents.proofs.Same.{never, same_answer, same_output, refused}
use Rattle.claims.specs.Calls.{Call, block, typed, all_typed, is_block, moved, next}
use Rattle.claims.specs.Longer.{LongerCall, plain, in_cents, preview, preview_in_cents, typed_longer, all_typed_longer, Outcome, outcome, outcome_longer, outcomes, is_left_out, as_call, replaced, kept, InCents}
use Rattle.claims.proofs.Whole.{long_run_lem}
use Rattle.claims.proofs.Switched.{switched_lem}

module _ (p : Player) (out samples : List ℕ) (time rate : Float) (cents : ℤ) where
  abbrev call : LongerCall
  call = in_cents out samples time rate cents

  pub unmoved : is_left_out p call ≡ true → ((outcome_longer p call).player ≡ p) × ((outcome_longer p call).output ≡ out)
  unfolding rendered_cents output_cents
  unmoved l = go (checked_cents 128 p (length out) (length samples) time rate cents) l
    where
      go : (k : Result Unit Refusal) → not (is_block (after_checks k (report_of (plan 128 p time rate (factor_of cents))))) ≡ true
          → (moved (after_checks k (report_of (plan 128 p time rate (factor_of cents)))) p ≡ p)
          × (stored (answer_of k) (written 128 (plan 128 p time rate (factor_of cents)).sample p.shape.frames samples out (plan 128 p time rate (factor_of cents)).channels) out ≡ out)
      go (Ok tt) h = absurd (false≢true h)
      go (Err refused) h = (refl, refl)

  pub as_block : bad_cents cents ≡ false → outcome_longer p call ≡ outcome p (block out samples time rate (factor_of cents))
  unfolding next
  as_block e = rw (same_answer 128 p time rate cents e (length out) (length samples), same_output 128 p time rate cents e out samples)

  turned_down : bad_cents cents ≡ true → (k : Result Unit Refusal) → checks 128 p (length out) (length samples) time true rate (factor_of cents) ≡ k
      → is_block (rendered_cents 128 p (length out) (length samples) time rate cents) ≡ false
  turned_down bad (Ok tt) h = absurd (never 128 p time rate (length out) (length samples) (factor_of cents) h)
  turned_down bad (Err first) h = ap is_block (refused 128 p time rate cents out samples (factor_of cents) first bad h).0

  accepted_cents : is_left_out p call ≡ false → bad_cents cents ≡ false
  accepted_cents l = go (bad_cents cents) refl
    where
      go : (b : Bool) → bad_cents cents ≡ b → bad_cents cents ≡ false
      go true e = absurd (false≢true (sym l ∙ ap not (turned_down e _ refl)))
      go false e = e

-- ---- the whole list
left_alone : (p : Player) (c : LongerCall) → is_left_out p c ≡ true → (outcome_longer p c).player ≡ p
left_alone p (plain c) l = absurd (false≢true l)
left_alone p (in_cents out samples time rate cents) l = (unmoved p out samples time rate cents l).0
left_alone p (preview out samples time rate factor) l = refl
left_alone p (preview_in_cents out samples time rate cents) l = refl

as_call_lem : (p : Player) (c : LongerCall) → is_left_out p c ≡ false → outcome_longer p c ≡ outcome p (as_call c)
as_call_lem p (plain c) l = refl
as_call_lem p (in_cents out samples time rate cents) l = as_block p out samples time rate cents (accepted_cents p out samples time rate cents l)
as_call_lem p (preview out samples time rate factor) l = absurd (false≢true (sym l))
as_call_lem p (preview_in_cents out samples time rate cents) l = absurd (false≢true (sym l))

step : (p : Player) (c : LongerCall) (calls : List Call) (given : List Outcome) (b : Bool) → is_left_out p c ≡ b → outcomes (outcome_longer p c).player calls ≡ given
    → outcomes p (cond b calls (as_call c ∷ calls)) ≡ cond b given (outcome_longer p c ∷ given)
unfolding outcomes
step p c calls given true l e = ap (λ (q : Player). outcomes q calls) (sym (left_alone p c l)) ∙ e
step p c calls given false l e = ap (λ (o : Outcome). o ∷ outcomes o.player calls) (sym (as_call_lem p c l)) ∙ ap (λ (os : List Outcome). outcome_longer p c ∷ os) e

pub same : (p : Player) (calls : List LongerCall) → outcomes p (replaced p calls) ≡ kept p calls
unfolding outcomes replaced kept
same p [] = refl
same p (c ∷ cs) = let q = (outcome_longer p c).player in step p c (replaced q cs) (kept q cs) (is_left_out p c) refl (same q cs)

-- the list so replaced is typed, as each factor is an f64
module _ (held : (cents : ℤ) → T (fits binary64 (factor_of cents))) where
  typed_cents : (out samples : List ℕ) (time rate : Float) (cents : ℤ) → T (fits binary64 time && fits binary32 rate) → T (typed (block out samples time rate (factor_of cents)))
  typed_cents out samples time rate cents t =
      and_i (fits binary64 time) _ (and_l (fits binary64 time) (fits binary32 rate) t)
      (and_i (fits binary32 rate) (fits binary64 (factor_of cents)) (and_r (fits binary64 time) (fits binary32 rate) t) (held cents))

  typed_call : (c : LongerCall) → T (typed_longer c) → T (typed (as_call c))
  typed_call (plain c) t = t
  typed_call (in_cents out samples time rate cents) t = typed_cents out samples time rate cents t
  typed_call (preview out samples time rate factor) t = t
  typed_call (preview_in_cents out samples time rate cents) t = typed_cents out samples time rate cents t

  typed_step : (c : LongerCall) (calls : List Call) (b : Bool) → T (typed_longer c) → T (all_typed calls) → T (all_typed (cond b calls (as_call c ∷ calls)))
  typed_step c calls true t rest = rest
  typed_step c calls false t rest = and_i (typed (as_call c)) (all_typed calls) (typed_call c t) rest

  pub all_typed_lem : (p : Player) (calls : List LongerCall) → T (all_typed_longer calls) → T (all_typed (replaced p calls))
  unfolding replaced
  all_typed_lem p [] t = tt
  all_typed_lem p (c ∷ cs) t =
      let q = (outcome_longer p c).player in
      typed_step c (replaced q cs) (is_left_out p c) (and_l (typed_longer c) (all_typed_longer cs) t) (all_typed_lem q cs (and_r (typed_longer c) (all_typed_longer cs) t))

-- ---- the claim, by what is claimed of the factors
in_range : bad_cents (pos 0) ≡ false
unfolding bad_cents
in_range = refl

pub blocks_in_cents : Exact → InCents
unfolding of_bits
blocks_in_cents exact = record {
  same = same;
  unmoved = unmoved;
  at_zero = λ p out samples time rate.
      as_block p out samples time rate (pos 0) in_range ∙ ap (λ (factor : Float). outcome p (block out samples time rate factor)) exact.none;
  long_run = λ rate options quiet single valid calls typed. long_run_lem rate options quiet single valid _ (all_typed_lem exact.held _ calls typed);
  loop_switch = λ rate options quiet single valid calls typed. switched_lem rate options quiet single valid _ (all_typed_lem exact.held _ calls typed);
}
