-- With any ramp all but the samples' bits is what it is without, call by call and so over every list; and the bits are those times the factor.
-- Assumes nothing.
use mathlib.Core.Path.{◌≡◌, refl, sym, ap, ap₂, ◌∙◌, subst}
use mathlib.Core.Bool.{Bool, true, false, not, ◌&&◌, ◌||◌, cond}
use mathlib.Core.List.{List, [], ◌∷◌}
use Prim.Native.Nat.{ℕ, ◌+◌, ◌-◌, ◌*◌, ◌<◌, min}
use native.Mathlib.Nat.{not-suc-le-zero}
use native.Mathlib.Omega.{arith}
use Rattle.std.proofs.lemmas.Bool.Decides.{nat_tests}
use lib.Dec.{eqb, ltb}
use lib.ListN.{length, get_or}
use lib.Ieee.{Float, ne}
use lib.Ieee.Scale.{finite}
use Rattle.std.specs.Prelude.{Result, Ok, Err, map}
use Rattle.buffer.specs.Answers.{answer_of, after_checks}
use Rattle.buffer.specs.Limits.{valid_rate, valid_shape, duration}
use Rattle.buffer.specs.declared.refusals.Refusal.{Refusal}
use Rattle.buffer.specs.declared.refusals.Refusal.TheVariants as refused
use Rattle.seconds.specs.Seconds.{context, in_clip, never}
use Rattle.ramps.specs.declared.Ramp.{Ramp}
use Rattle.ramps.specs.Ramps.{longest, last_count, ramp_of, ramped, counted, stop_number, stopping}
use Rattle.player.specs.declared.Player.{Player}
use Rattle.player.specs.declared.BlockReport.{BlockReport}
use Rattle.player.specs.declared.ControlMessage.{ControlMessage}
use Rattle.player.specs.declared.ControlMessage.TheVariants.{Start, Stop, Loop, LoopStart, LoopEnd}
use Rattle.player.specs.Record.{shape_of, loop_of, given, with_ramp}
use Rattle.player.specs.Record as record_of
use Rattle.player.specs.Messages.{clamped_start, clamped_end, looped, clamped, bad_time, on_start, ramp_at_stop, on_stop, on_loop, on_loop_start, on_loop_end, handled, buffered}
use Rattle.player.specs.Block.{Plan, bare_plan, ramp_in, ramped_plan, plan, bad_block_time, bad_samples, checked, report_of, rendered, output}
use Rattle.buffer.specs.Channels.{channel}
use Rattle.player.specs.Block.{checks}
use Rattle.player.specs.Record.{fresh_with}
use Rattle.player.specs.Messages.{made_with}
use Rattle.player.specs.declared.LoopState.{LoopState}
use Rattle.player.specs.declared.PlayerOptions.{PlayerOptions}
use Rattle.detune.specs.Detune.{bad_cents, factor_of}
use Rattle.cents.specs.Cents.{checked_cents, rendered_cents, output_cents}
use Rattle.preview.specs.Preview.{coming_of, shown}
use Rattle.preview.specs.declared.Coming.{Coming}
use Rattle.claims.specs.Calls as calls
use Rattle.claims.specs.Calls.{buffer, message, block, next}
use Rattle.claims.specs.Longer.{LongerCall, plain, in_cents, preview, preview_in_cents, Given, told, played, looked, Outcome, outcome_longer, outcomes_longer, as_call, left}
use Rattle.claims.specs.Ramps.{plan_with, without, told_without, played_without, given_without, ramp_at, uncounted_at, channels_given, AnyRamp}
use Rattle.claims.proofs.Ramps.{unramped, hushed, reads_none}
use Rattle.claims.proofs.Samples.{left_by, at}
use Rattle.claims.proofs.Tolerances.{length_kept}

-- ---- the ramp's record moves the same
stopping_without : (r : Ramp) (start stop rate : Float) → stopping (hushed r) start stop rate ≡ hushed (stopping r start stop rate)
unfolding stopping
stopping_without r start stop rate = go (ne stop never)
  where
    w : ℕ
    w = stop_number start stop rate

    go : (b : Bool) → cond b (ramp_of 0 r.count true w) (ramp_of 0 r.count false 0) ≡ hushed (cond b (ramp_of r.length r.count true w) (ramp_of r.length r.count false 0))
    go true = refl
    go false = refl

counted_without : (n : ℕ) (r : Ramp) (u : ℕ) → counted n (hushed r) u ≡ hushed (counted n r u)
unfolding counted
counted_without n r u = go (ltb u n)
  where
    m : ℕ
    m = min last_count (r.count + (n - u))

    go : (b : Bool) → cond b (ramp_of 0 m r.has_stop_sample r.stop_sample) (hushed r) ≡ hushed (cond b (ramp_of r.length m r.has_stop_sample r.stop_sample) r)
    go true = refl
    go false = refl

either : (b : Bool) (r s r' : Ramp) → r' ≡ hushed r → cond b r' (hushed s) ≡ hushed (cond b r s)
either true r s r' e = e
either false r s r' e = refl

module _ (p : Player) where
  in_without : (started : Bool) (start : Float) → ramp_in (without p) started start ≡ hushed (ramp_in p started start)
  unfolding ramp_in
  in_without started start =
      either (not p.render_state.started && started) (stopping p.ramp start p.stop_time.0 p.sample_rate) p.ramp _ (stopping_without p.ramp start p.stop_time.0 p.sample_rate)

  at_stop_without : (when : Float) → ramp_at_stop (without p) when ≡ hushed (ramp_at_stop p when)
  unfolding ramp_at_stop
  at_stop_without when = either p.render_state.started (stopping p.ramp p.start_time.0 when p.sample_rate) p.ramp _ (stopping_without p.ramp p.start_time.0 when p.sample_rate)

  -- ---- messages and the buffer call
  abbrev result_without : Result Player Refusal → Result Player Refusal
  result_without (Ok q) = Ok (without q)
  result_without (Err refusal) = Err refusal

  refused_or : (b : Bool) (k : Refusal) (r r' : Result Player Refusal) → r' ≡ result_without r → cond b (Err k) r' ≡ result_without (cond b (Err k) r)
  refused_or true k r r' e = refl
  refused_or false k r r' e = e

  clamped_without : (q : Player) → clamped (without q) ≡ without (clamped q)
  unfolding clamped
  clamped_without q = go q.has_buffer
    where
      loop : LoopState
      loop = loop_of q.loop_state.is_looping (clamped_start q.loop_state.start.0 (duration q.shape.frames q.shape.rate)) (clamped_end q.loop_state.end.0 (duration q.shape.frames q.shape.rate))

      go : (b : Bool) → cond b (looped (without q) loop) (without q) ≡ without (cond b (looped q loop) q)
      go true = refl
      go false = refl

  done : (q q' : Player) → q' ≡ without q → Ok (clamped q') ≡ result_without (Ok (clamped q))
  done q q' e = ap (λ (x : Player). Ok (clamped x)) e ∙ ap (λ (x : Player). Ok x) (clamped_without q)

  handled_without : (m : ControlMessage) → handled (without p) m ≡ result_without (handled p m)
  unfolding handled on_start on_stop on_loop on_loop_start on_loop_end
  handled_without (Start when offset length) =
      refused_or (bad_time when || bad_time offset || bad_time length) refused.Value _ _
      (refused_or p.has_start refused.Second _ _ (done (record_of.told p true (context when) p.stop_time (in_clip offset) (in_clip length) p.loop_state) _ refl))
  handled_without (Stop when) =
      let q = record_of.told p p.has_start p.start_time (context when) p.offset p.duration p.loop_state in
      refused_or (bad_time when) refused.Value _ _
      (refused_or (not p.has_start) refused.Early _ _ (done (with_ramp q (ramp_at_stop p when)) _ (ap (with_ramp q) (at_stop_without when))))
  handled_without (Loop on) = done (looped p (loop_of on p.loop_state.start.0 p.loop_state.end.0)) _ refl
  handled_without (LoopStart at) =
      refused_or (not (finite at)) refused.Value _ _ (done (looped p (loop_of p.loop_state.is_looping at p.loop_state.end.0)) _ refl)
  handled_without (LoopEnd at) =
      refused_or (not (finite at)) refused.Value _ _ (done (looped p (loop_of p.loop_state.is_looping p.loop_state.start.0 at)) _ refl)

  buffered_without : (channels frames : ℕ) (rate : Float) (length : ℕ)
      → buffered (without p) channels frames rate length ≡ result_without (buffered p channels frames rate length)
  unfolding buffered
  buffered_without channels frames rate length =
      refused_or (not (valid_shape channels frames length)) refused.Shape _ _
      (refused_or (not (valid_rate rate)) refused.Rate _ _
      (refused_or p.has_buffer refused.Second _ _
      (refused_or (eqb frames 0) refused.Empty _ _ (done (given p (shape_of channels frames rate)) _ refl))))

  told_answer : (r : Result Player Refusal) → answer_of (result_without r) ≡ told_without (answer_of r)
  told_answer (Ok q) = refl
  told_answer (Err refusal) = refl

  told_left : (r : Result Player Refusal) → calls.left (result_without r) (without p) ≡ without (calls.left r p)
  told_left (Ok q) = refl
  told_left (Err refusal) = refl

  -- ---- a block
  module _ (time rate factor : Float) where
    abbrev q : Plan
    q = bare_plan 128 p time rate factor

    abbrev in_block : Ramp
    in_block = ramp_in p q.player.render_state.started q.player.start_time.0

    plan_without : plan 128 (without p) time rate factor ≡ plan_with q (hushed (counted 128 in_block q.uncounted))
    plan_without =
        ap (ramped_plan 128 (without p)) (reads_none 128 p (hushed p.ramp) time rate factor)
        ∙ unramped 128 (without p) (plan_with q (hushed p.ramp)) refl
        ∙ ap (λ (r : Ramp). plan_with q (counted 128 r q.uncounted)) (in_without q.player.render_state.started q.player.start_time.0)
        ∙ ap (plan_with q) (counted_without 128 in_block q.uncounted)

    -- its answer and player, by the checks, which read no ramp
    played_lem : (k : Result Unit Refusal) → answer_of (after_checks k (report_of (plan 128 (without p) time rate factor)))
        ≡ played_without (answer_of (after_checks k (report_of (plan 128 p time rate factor))))
    unfolding ramped_plan
    played_lem (Ok passed) = ap (λ (x : Plan). answer_of {A = BlockReport} (Ok (report_of x))) plan_without
    played_lem (Err refusal) = refl

    moved_lem : (k : Result Unit Refusal) → calls.moved (after_checks k (report_of (plan 128 (without p) time rate factor))) (without p)
        ≡ without (calls.moved (after_checks k (report_of (plan 128 p time rate factor))) p)
    unfolding ramped_plan
    moved_lem (Ok passed) = ap (λ (x : Plan). x.player) plan_without
    moved_lem (Err refusal) = refl

    shown_lem : (k : Result Unit Refusal) → answer_of (shown (after_checks k (report_of (plan 128 (without p) time rate factor))))
        ≡ answer_of (shown (after_checks k (report_of (plan 128 p time rate factor))))
    unfolding ramped_plan
    shown_lem (Ok passed) = ap (λ (x : Plan). answer_of {A = Coming} (Ok (coming_of (report_of x)))) plan_without
    shown_lem (Err refusal) = refl

  -- ---- a call
  record Beside (c : LongerCall) : Type 0 where
    answer : (outcome_longer (without p) c).answer ≡ given_without (outcome_longer p c).answer
    player : (outcome_longer (without p) c).player ≡ without (outcome_longer p c).player

  beside_call : (c : LongerCall) → Beside c
  unfolding next rendered rendered_cents checked checked_cents bad_block_time bad_samples
  beside_call (plain (buffer channels frames rate samples)) =
      let e = buffered_without channels frames rate (length samples) in
      let r = buffered p channels frames rate (length samples) in
      record {
        answer = ap (λ (x : Result Player Refusal). told (answer_of x)) e ∙ ap told (told_answer r);
        player = ap (λ (x : Result Player Refusal). calls.left x (without p)) e ∙ told_left r;
      }
  beside_call (plain (message m)) =
      let e = handled_without m in
      let r = handled p m in
      record {
        answer = ap (λ (x : Result Player Refusal). told (answer_of x)) e ∙ ap told (told_answer r);
        player = ap (λ (x : Result Player Refusal). calls.left x (without p)) e ∙ told_left r;
      }
  beside_call (plain (block out samples time rate factor)) =
      let k = checked 128 p (length out) (length samples) time rate factor in
      record { answer = ap played (played_lem time rate factor k); player = moved_lem time rate factor k }
  beside_call (in_cents out samples time rate cents) =
      let k = checked_cents 128 p (length out) (length samples) time rate cents in
      record { answer = ap played (played_lem time rate (factor_of cents) k); player = moved_lem time rate (factor_of cents) k }
  beside_call (preview out samples time rate factor) =
      let k = checked 128 p (length out) (length samples) time rate factor in
      record { answer = ap looked (shown_lem time rate factor k); player = refl }
  beside_call (preview_in_cents out samples time rate cents) =
      let k = checked_cents 128 p (length out) (length samples) time rate cents in
      record { answer = ap looked (shown_lem time rate (factor_of cents) k); player = refl }

-- ---- a sample of a block, by its checks
module _ (p : Player) (samples : List ℕ) (time rate factor : Float) (bad : Bool) (out : List ℕ) where
  abbrev checks_of : Result Unit Refusal
  checks_of = checks 128 p (length out) (length samples) time bad rate factor

  pub times : checks_of ≡ Ok tt → (k i : ℕ) → k < (bare_plan 128 p time rate factor).channels → i < 128
      → get_or (left_by p samples time rate factor bad out) (128 * k + i) 0
      ≡ ramped (in_block p time rate factor) (bare_plan 128 p time rate factor).uncounted i (get_or (left_by (without p) samples time rate factor bad out) (128 * k + i) 0)
  unfolding ramped_plan bad_block_time bad_samples
  times pass k i below within =
      let without_is = plan_without p time rate factor in
      let there : get_or (left_by (without p) samples time rate factor bad out) (128 * k + i) 0 ≡ (bare_plan 128 p time rate factor).sample (channel samples p.shape.frames k) i =
      at (without p) samples time rate factor bad out pass k i (subst (λ (q : Plan). k < q.channels) (sym without_is) below) within
      ∙ ap (λ (q : Plan). q.sample (channel samples p.shape.frames k) i) without_is in
      at p samples time rate factor bad out pass k i below within
      ∙ ap (ramped (in_block p time rate factor) (bare_plan 128 p time rate factor).uncounted i) (sym there)

played_channels : (checks : Result Unit Refusal) (r : BlockReport) (k : ℕ) → k < channels_given (played (answer_of (after_checks checks r))) → (checks ≡ Ok tt) × (k < r.channels)
played_channels (Ok tt) r k h = (refl, h)
played_channels (Err refused) r k h = absurd (not-suc-le-zero h)

looked_channels : (checks : Result Unit Refusal) (r : BlockReport) (k : ℕ) → k < channels_given (looked (answer_of (shown (after_checks checks r)))) → (checks ≡ Ok tt) × (k < r.channels)
looked_channels (Ok tt) r k h = (refl, h)
looked_channels (Err refused) r k h = absurd (not-suc-le-zero h)

samples_lem : (p : Player) (c : LongerCall) (k i : ℕ) → k < channels_given (outcome_longer p c).answer → i < 128
    → get_or (outcome_longer p c).output (128 * k + i) 0
    ≡ ramped (ramp_at p (as_call c)) (uncounted_at p (as_call c)) i (get_or (outcome_longer (without p) c).output (128 * k + i) 0)
unfolding rendered rendered_cents checked checked_cents output output_cents ramped_plan
samples_lem p (plain (buffer channels frames rate samples)) k i h within = absurd (not-suc-le-zero h)
samples_lem p (plain (message m)) k i h within = absurd (not-suc-le-zero h)
samples_lem p (plain (block out samples time rate factor)) k i h within =
    let on = played_channels (checked 128 p (length out) (length samples) time rate factor) (report_of (plan 128 p time rate factor)) k h in
    times p samples time rate factor false out on.0 k i on.1 within
samples_lem p (in_cents out samples time rate cents) k i h within =
    let on = played_channels (checked_cents 128 p (length out) (length samples) time rate cents) (report_of (plan 128 p time rate (factor_of cents))) k h in
    times p samples time rate (factor_of cents) (bad_cents cents) out on.0 k i on.1 within
samples_lem p (preview out samples time rate factor) k i h within =
    let on = looked_channels (checked 128 p (length out) (length samples) time rate factor) (report_of (plan 128 p time rate factor)) k h in
    times p samples time rate factor false out on.0 k i on.1 within
samples_lem p (preview_in_cents out samples time rate cents) k i h within =
    let on = looked_channels (checked_cents 128 p (length out) (length samples) time rate cents) (report_of (plan 128 p time rate (factor_of cents))) k h in
    times p samples time rate (factor_of cents) (bad_cents cents) out on.0 k i on.1 within

-- ---- the whole list
beside : (p : Player) (cs : List LongerCall) → left (without p) cs ≡ without (left p cs)
unfolding left
beside p [] = refl
beside p (c ∷ cs) = ap (λ (q : Player). left q cs) (beside_call p c).player ∙ beside (outcome_longer p c).player cs

all : (p : Player) (cs : List LongerCall)
    → map (λ (o : Outcome). o.answer) (outcomes_longer (without p) cs) ≡ map (λ (o : Outcome). given_without o.answer) (outcomes_longer p cs)
unfolding outcomes_longer
all p [] = refl
all p (c ∷ cs) =
    let b = beside_call p c in
    ap₂ (λ (a : Given) (rest : List Given). a ∷ rest) b.answer
    (ap (λ (q : Player). map (λ (o : Outcome). o.answer) (outcomes_longer q cs)) b.player ∙ all (outcome_longer p c).player cs)

too_long : (rate : Float) (options : PlayerOptions) → valid_rate rate ≡ true → longest < options.ramp → made_with rate options ≡ Err refused.Ramp
unfolding made_with
too_long rate options h l =
    let over : ltb longest options.ramp ≡ true = grind (arith, nat_tests) in
    ap₂ (λ (b c : Bool). cond (not b) (Err refused.Rate) (cond c (Err refused.Ramp) (Ok (fresh_with rate options)))) h over

pub any_ramp : AnyRamp
unfolding fresh_with
any_ramp = record {
  made = λ rate options. refl;
  beside = beside;
  each = λ p cs c. ap (λ (q : Player). (outcome_longer q c).answer) (beside p cs) ∙ (beside_call (left p cs) c).answer;
  all = all;
  samples = λ p cs c k i h within.
      samples_lem (left p cs) c k i h within
      ∙ ap (λ (q : Player). ramped (ramp_at (left p cs) (as_call c)) (uncounted_at (left p cs) (as_call c)) i (get_or (outcome_longer q c).output (128 * k + i) 0)) (sym (beside p cs));
  kept = length_kept;
  too_long = too_long;
}
