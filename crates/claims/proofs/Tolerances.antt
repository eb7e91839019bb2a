-- A player keeps its tolerances, and its ramp's length, through every call. Assumes nothing.
use mathlib.Core.Path.{◌≡◌, refl, ap, ap₂, ◌∙◌}
use mathlib.Core.Bool.{Bool, true, false, not, ◌&&◌, ◌||◌, cond}
use mathlib.Core.List.{List, [], ◌∷◌}
use Prim.Native.Nat.{ℕ, ◌≤◌}
use native.Mathlib.Omega.{arith}
use Rattle.std.proofs.lemmas.Bool.Decides.{nat_tests}
use Rattle.ramps.specs.Ramps.{longest}
use lib.ListN.{length}
use lib.Dec.{eqb, ltb}
use lib.Ieee.{Float, le, ne}
use lib.Ieee.Scale.{finite}
use Rattle.std.specs.Prelude.{Result, Ok, Err}
use Rattle.buffer.specs.Answers.{after_checks}
use Rattle.buffer.specs.Limits.{valid_rate, valid_shape, duration}
use Rattle.seconds.specs.Seconds.{context, in_clip, never, block_end}
use Rattle.buffer.specs.declared.refusals.Refusal.{Refusal}
use Rattle.buffer.specs.declared.refusals.Refusal.TheVariants as refused
use Rattle.player.specs.Record.{shape_of, loop_of, fresh_with, told, given, with_ramp}
use Rattle.player.specs.Messages.{made_with, clamped_start, clamped_end, looped, clamped, bad_time, on_start, ramp_at_stop, on_stop, on_loop, on_loop_start, on_loop_end, handled, buffered}
use Rattle.player.specs.Block.{Plan, silent, idle, is_aligned, computed_rate, aligned_plan, sub_sample_plan, bare_plan, ramped_plan, plan, report_of, checked, rendered}
use Rattle.player.specs.declared.Player.{Player}
use Rattle.player.specs.declared.PlayerOptions.{PlayerOptions}
use Rattle.player.specs.declared.ControlMessage.{ControlMessage}
use Rattle.player.specs.declared.ControlMessage.TheVariants.{Start, Stop, Loop, LoopStart, LoopEnd}
use Rattle.cents.specs.Cents.{checked_cents, rendered_cents}
use Rattle.detune.specs.Detune.{factor_of}
use Rattle.claims.specs.Calls as calls
use Rattle.claims.specs.Calls.{Call, buffer, message, block, next}
use Rattle.claims.specs.Longer.{LongerCall, plain, in_cents, preview, preview_in_cents, outcome_longer, left}
use Rattle.claims.specs.Tolerances.{KeepsTolerances}
use Rattle.claims.proofs.Ramps.{after_length, at_stop_length}

module _ (p : Player) where
  -- ---- a player, the answer of a message or of a buffer call, and a plan with p's tolerances
  record Same (q : Player) : Type 0 where
    same : q.tolerances ≡ p.tolerances
    length : q.ramp.length ≡ p.ramp.length

  record Told (r : Result Player Refusal) : Type 0 where
    same : (calls.left r p).tolerances ≡ p.tolerances
    length : (calls.left r p).ramp.length ≡ p.ramp.length

  record Planned (q : Plan) : Type 0 where
    same : q.player.tolerances ≡ p.tolerances
    length : q.player.ramp.length ≡ p.ramp.length

  -- ---- a message or a buffer call
  refused_or : (b : Bool) (refusal : Refusal) (r : Result Player Refusal) → Told r → Told (cond b (Err refusal) r)
  refused_or true refusal r h = record { same = refl; length = refl }
  refused_or false refusal r h = h

  chosen : (b : Bool) (q r : Player) → Same q → Same r → Told (Ok (cond b q r))
  chosen true q r h k = record { same = h.same; length = h.length }
  chosen false q r h k = record { same = k.same; length = k.length }

  clamped_keeps : (q : Player) → Same q → Told (Ok (clamped q))
  unfolding clamped
  clamped_keeps q h =
      let seconds = duration q.shape.frames q.shape.rate in
      let loop = loop_of q.loop_state.is_looping (clamped_start q.loop_state.start.0 seconds) (clamped_end q.loop_state.end.0 seconds) in
      chosen q.has_buffer (looped q loop) q (record { same = h.same; length = h.length }) h

  -- both stand in p's own fields
  own : (q : Player) → q.tolerances ≡ p.tolerances → q.ramp.length ≡ p.ramp.length → Told (Ok (clamped q))
  own q h l = clamped_keeps q (record { same = h; length = l })

  handled_keeps : (m : ControlMessage) → Told (handled p m)
  unfolding handled on_start on_stop on_loop on_loop_start on_loop_end
  handled_keeps (Start when offset length) =
      refused_or (bad_time when || bad_time offset || bad_time length) refused.Value _
      (refused_or p.has_start refused.Second _ (own (told p true (context when) p.stop_time (in_clip offset) (in_clip length) p.loop_state) refl refl))
  handled_keeps (Stop when) =
      refused_or (bad_time when) refused.Value _
      (refused_or (not p.has_start) refused.Early _ (own (with_ramp (told p p.has_start p.start_time (context when) p.offset p.duration p.loop_state) (ramp_at_stop p when)) refl (at_stop_length p when)))
  handled_keeps (Loop on) = own (looped p (loop_of on p.loop_state.start.0 p.loop_state.end.0)) refl refl
  handled_keeps (LoopStart at) = refused_or (not (finite at)) refused.Value _ (own (looped p (loop_of p.loop_state.is_looping at p.loop_state.end.0)) refl refl)
  handled_keeps (LoopEnd at) = refused_or (not (finite at)) refused.Value _ (own (looped p (loop_of p.loop_state.is_looping p.loop_state.start.0 at)) refl refl)

  buffered_keeps : (channels frames : ℕ) (rate : Float) (length : ℕ) → Told (buffered p channels frames rate length)
  unfolding buffered
  buffered_keeps channels frames rate length =
      refused_or (not (valid_shape channels frames length)) refused.Shape _
      (refused_or (not (valid_rate rate)) refused.Rate _
      (refused_or p.has_buffer refused.Second _
      (refused_or (eqb frames 0) refused.Empty _ (own (given p (shape_of channels frames rate)) refl refl))))

  -- ---- a block
  one_of : (b : Bool) (q r : Plan) → Planned q → Planned r → Planned (cond b q r)
  one_of true q r h k = h
  one_of false q r h k = k

  silence : (n : ℕ) (time : Float) (ended keep : Bool) → Planned (silent n (idle p time ended) keep)
  unfolding idle
  silence n time ended keep = record { same = refl; length = refl }

  played : (n : ℕ) (time rate computed : Float)
      → Planned (cond (is_aligned n p time computed) (aligned_plan n p time computed) (sub_sample_plan n p time rate computed))
  unfolding aligned_plan sub_sample_plan
  played n time rate computed =
      one_of (is_aligned n p time computed) (aligned_plan n p time computed) (sub_sample_plan n p time rate computed) (record { same = refl; length = refl }) (record { same = refl; length = refl })

  bare_keeps : (n : ℕ) (time rate factor : Float) → Planned (bare_plan n p time rate factor)
  unfolding bare_plan
  bare_keeps n time rate factor =
      let end = block_end n time p.sample_rate in
      one_of p.render_state.ended (silent n (idle p time true) false) _ (silence n time true false)
      (one_of (not p.has_buffer && ne p.start_time.0 never) (silent n (idle p time true) false) _ (silence n time true false)
      (one_of (le end p.start_time.0) _ _
      (one_of (le p.stop_time.0 end) (silent n (idle p time true) false) (silent n (idle p time false) (ne p.start_time.0 never)) (silence n time true false)
      (silence n time false (ne p.start_time.0 never)))
      (one_of (not p.has_buffer) (silent n (idle p time false) false) _ (silence n time false false) (played n time rate (computed_rate rate factor)))))

  plan_keeps : (n : ℕ) (time rate factor : Float) → Planned (plan n p time rate factor)
  unfolding ramped_plan
  plan_keeps n time rate factor = record {
    same = (bare_keeps n time rate factor).same;
    length = after_length n p (bare_plan n p time rate factor);
  }

  answered_keeps : (checks : Result Unit Refusal) (q : Plan) → Planned q → Same (calls.moved (after_checks checks (report_of q)) p)
  answered_keeps (Ok passed) q h = record { same = h.same; length = h.length }
  answered_keeps (Err refusal) q h = record { same = refl; length = refl }

  told_keeps : (r : Result Player Refusal) → Told r → Same (calls.left r p)
  told_keeps r h = record { same = h.same; length = h.length }

  next_keeps : (c : Call) → Same (next p c)
  unfolding next rendered
  next_keeps (buffer channels frames rate samples) = told_keeps _ (buffered_keeps channels frames rate (length samples))
  next_keeps (message m) = told_keeps _ (handled_keeps m)
  next_keeps (block out samples time rate factor) = answered_keeps (checked 128 p (length out) (length samples) time rate factor) _ (plan_keeps 128 time rate factor)

  longer_keeps : (c : LongerCall) → Same (outcome_longer p c).player
  unfolding rendered_cents
  longer_keeps (plain c) = next_keeps c
  longer_keeps (in_cents out samples time rate cents) =
      answered_keeps (checked_cents 128 p (length out) (length samples) time rate cents) _ (plan_keeps 128 time rate (factor_of cents))
  longer_keeps (preview out samples time rate factor) = record { same = refl; length = refl }
  longer_keeps (preview_in_cents out samples time rate cents) = record { same = refl; length = refl }

kept : (p : Player) (cs : List LongerCall) → (left p cs).tolerances ≡ p.tolerances
unfolding left
kept p [] = refl
kept p (c ∷ cs) = kept (outcome_longer p c).player cs ∙ (longer_keeps p c).same

pub length_kept : (p : Player) (cs : List LongerCall) → (left p cs).ramp.length ≡ p.ramp.length
unfolding left
length_kept p [] = refl
length_kept p (c ∷ cs) = length_kept (outcome_longer p c).player cs ∙ (longer_keeps p c).length

made_lem : (rate : Float) (options : PlayerOptions) → valid_rate rate ≡ true → options.ramp ≤ longest → made_with rate options ≡ Ok (fresh_with rate options)
unfolding made_with
made_lem rate options h l =
    let fits : ltb longest options.ramp ≡ false = grind (arith, nat_tests) in
    ap₂ (λ (b c : Bool). cond (not b) (Err refused.Rate) (cond c (Err refused.Ramp) (Ok (fresh_with rate options)))) h fits

refused_lem : (rate : Float) (options : PlayerOptions) → valid_rate rate ≡ false → made_with rate options ≡ Err refused.Rate
unfolding made_with
refused_lem rate options h = ap (λ (b : Bool). cond (not b) (Err refused.Rate) (cond (ltb longest options.ramp) (Err refused.Ramp) (Ok (fresh_with rate options)))) h

pub keeps_tolerances : KeepsTolerances
unfolding fresh_with
keeps_tolerances = record { made = made_lem; refused = refused_lem; has = λ rate options. refl; kept = kept }
