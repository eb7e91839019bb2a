-- A block leaves what it may not change as it was: so the library writes back the rest alone. Assumes nothing.
use mathlib.Core.Path.{◌≡◌, refl, ap}
use mathlib.Core.Bool.{Bool, true, false, not, ◌&&◌, cond}
use Prim.Native.Nat.{ℕ}
use lib.IntN.{ℤ}
use lib.Ieee.{Float, le, ne}
use Rattle.std.specs.Prelude.{Result, Ok, Err}
use Rattle.std.proofs.lemmas.Bool.{cond_both}
use Rattle.buffer.specs.declared.refusals.Refusal.{Refusal}
use Rattle.buffer.specs.Answers.{after_checks}
use Rattle.player.specs.Block.{Plan, silent, idle, computed_rate, is_aligned, aligned_plan, sub_sample_plan, bare_plan, ramp_in, ramped_plan, plan, checked, report_of, rendered}
use Rattle.ramps.specs.Ramps.{counted}
use Rattle.player.specs.Record.{with_ramp}
use Rattle.player.specs.declared.Player.{Player}
use Rattle.seconds.specs.Seconds.{never, block_end}
use Rattle.detune.specs.Detune.{factor_of}
use Rattle.cents.specs.Cents.{checked_cents, rendered_cents}
use Rattle.lent.specs.Lent.{after_block, moved_to}

-- the player of a plan
record Keeps (p : Player) (q : Plan) : Type 0 where
  kept : moved_to p q.player ≡ q.player

silence : (n : ℕ) (p : Player) (time : Float) (ended keep : Bool) → Keeps p (silent n (idle p time ended) keep)
unfolding idle
silence n p time ended keep = record { kept = refl }

either : (p : Player) (b : Bool) (x y : Plan) → Keeps p x → Keeps p y → Keeps p (cond b x y)
either p b x y first second = cond_both b x y (Keeps p) (λ _. first) (λ _. second)

bare : (n : ℕ) (p : Player) (time rate factor : Float) → Keeps p (bare_plan n p time rate factor)
unfolding bare_plan aligned_plan sub_sample_plan
bare n p time rate factor =
    let end = block_end n time p.sample_rate in
    let computed = computed_rate rate factor in
    either p p.render_state.ended (silent n (idle p time true) false) _ (silence n p time true false)
    (either p (not p.has_buffer && ne p.start_time.0 never) (silent n (idle p time true) false) _ (silence n p time true false)
    (either p (le end p.start_time.0) (cond (le p.stop_time.0 end) (silent n (idle p time true) false) (silent n (idle p time false) (ne p.start_time.0 never))) _
    (either p (le p.stop_time.0 end) (silent n (idle p time true) false) (silent n (idle p time false) (ne p.start_time.0 never)) (silence n p time true false) (silence n p time false _))
    (either p (not p.has_buffer) (silent n (idle p time false) false) _ (silence n p time false false)
    (either p (is_aligned n p time computed) (aligned_plan n p time computed) (sub_sample_plan n p time rate computed) (record { kept = refl }) (record { kept = refl })))))

keeps : (n : ℕ) (p : Player) (time rate factor : Float) → Keeps p (plan n p time rate factor)
unfolding ramped_plan
keeps n p time rate factor =
    let q = bare_plan n p time rate factor in
    let r = counted n (ramp_in p q.player.render_state.started q.player.start_time.0) q.uncounted in
    record { kept = ap (λ (x : Player). with_ramp x r) (bare n p time rate factor).kept }

-- the player of an answer
answers : (p : Player) (passed : Result Unit Refusal) (q : Plan) → Keeps p q
    → moved_to p (after_block p (after_checks passed (report_of q))).player ≡ (after_block p (after_checks passed (report_of q))).player
answers p (Ok passed) q keeps = keeps.kept
answers p (Err first) q keeps = refl

pub leaves : (p : Player) (n outLength samplesLength : ℕ) (time rate factor : Float)
    → moved_to p (after_block p (rendered n p outLength samplesLength time rate factor)).player ≡ (after_block p (rendered n p outLength samplesLength time rate factor)).player
unfolding rendered
leaves p n outLength samplesLength time rate factor =
    answers p (checked n p outLength samplesLength time rate factor) (plan n p time rate factor) (keeps n p time rate factor)

pub leaves_cents : (p : Player) (n outLength samplesLength : ℕ) (time rate : Float) (cents : ℤ)
    → moved_to p (after_block p (rendered_cents n p outLength samplesLength time rate cents)).player
    ≡ (after_block p (rendered_cents n p outLength samplesLength time rate cents)).player
unfolding rendered_cents
leaves_cents p n outLength samplesLength time rate cents =
    answers p (checked_cents n p outLength samplesLength time rate cents) (plan n p time rate (factor_of cents)) (keeps n p time rate (factor_of cents))
