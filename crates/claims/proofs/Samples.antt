-- What an accepted block writes to its answered channels doesn't depend on what the output held. Assumes nothing.
use mathlib.Core.Path.{◌≡◌, refl, sym, ap, ◌∙◌}
use mathlib.Core.Bool.{Bool, true, false, not, ◌&&◌, cond}
use mathlib.Core.List.{List}
use Prim.Native.Nat.{ℕ, ◌+◌, ◌*◌, ◌≤◌, ◌<◌}
use native.Mathlib.Omega.{arith}
use borrow.Author.Tests.{eqb-true, not-false}
use lib.Dec.{eqb}
use lib.ListN.{length, get_or}
use lib.Ieee.{Float, le, ne}
use Rattle.buffer.specs.Channels.{channel}
use Rattle.buffer.specs.Limits.{Valid, valid}
use Rattle.buffer.specs.Answers.{answer_of, stored, after_checks}
use Rattle.buffer.specs.declared.refusals.Refusal.{Refusal}
use Rattle.buffer.proofs.Checks.{all_passed}
use Rattle.player.specs.Block.{Plan, silent, idle, computed_rate, is_aligned, aligned_plan, sub_sample_plan, bare_plan, ramped_plan, plan, bad_block_time, bad_rate, bad_samples, checks, report_of, written}
use Rattle.seconds.specs.Seconds.{never, block_end}
use Rattle.player.specs.declared.Player.{Player}
use Rattle.player.specs.declared.BlockReport.{BlockReport}
use Rattle.std.specs.Prelude.{Result, Ok, Err}
use Rattle.claims.specs.Calls.{answered}
use Rattle.claims.proofs.Written.{written_at}

-- at most 32 channels
record Few (q : Plan) : Type 0 where
  few : q.channels ≤ 32

either : (b : Bool) (x y : Plan) → (b ≡ true → Few x) → (b ≡ false → Few y) → Few (cond b x y)
either true x y h k = h refl
either false x y h k = k refl

silence : (p : Player) (time : Float) (ended keep : Bool) → Few (silent 128 (idle p time ended) keep)
silence p time ended keep = record { few = omega arith }

-- a channel is answered by an accepted block
taken : (checks : Result Unit Refusal) (r : BlockReport) (c : ℕ) → c < answered (after_checks checks r) → (checks ≡ Ok tt) × (c < r.channels)
taken (Ok tt) r c h = (refl, h)
taken (Err refused) r c h = absurd (none h)
  where
    none : c < 0 → ⊥
    none h = omega arith

module _ (p : Player) (samples : List ℕ) (time rate factor : Float) (bad : Bool) where
  abbrev pub q : Plan
  q = plan 128 p time rate factor

  own : bad_samples p (length samples) ≡ false → not p.has_buffer ≡ false → Valid p.shape.channels p.shape.frames (length samples)
  unfolding bad_samples
  own h b = valid _ _ _ (not-false _ (rw (not-false p.has_buffer b) at h))

  bare : bad_samples p (length samples) ≡ false → Few (bare_plan 128 p time rate factor)
  unfolding bare_plan aligned_plan sub_sample_plan
  bare good =
      let end = block_end 128 time p.sample_rate in
      let computed = computed_rate rate factor in
      either p.render_state.ended (silent 128 (idle p time true) false) _ (λ _. silence p time true false)
      (λ _. either (not p.has_buffer && ne p.start_time.0 never) (silent 128 (idle p time true) false) _ (λ _. silence p time true false)
      (λ _. either (le end p.start_time.0) (cond (le p.stop_time.0 end) (silent 128 (idle p time true) false) (silent 128 (idle p time false) (ne p.start_time.0 never))) _
      (λ _. either (le p.stop_time.0 end) (silent 128 (idle p time true) false) (silent 128 (idle p time false) (ne p.start_time.0 never)) (λ _. silence p time true false) (λ _. silence p time false _))
      (λ _. either (not p.has_buffer) (silent 128 (idle p time false) false) _ (λ _. silence p time false false)
      (λ h. either (is_aligned 128 p time computed) (aligned_plan 128 p time computed) (sub_sample_plan 128 p time rate computed)
      (λ _. record { few = (own good h).few }) (λ _. record { few = (own good h).few })))))

  planned : bad_samples p (length samples) ≡ false → Few q
  unfolding ramped_plan
  planned good = record { few = (bare good).few }

  abbrev pub checked : ℕ → Result Unit Refusal
  checked outLength = checks 128 p outLength (length samples) time bad rate factor

  -- the output that a block leaves, refused or not
  abbrev pub left_by : List ℕ → List ℕ
  left_by out = stored (answer_of (checked (length out))) (written 128 q.sample p.shape.frames samples out q.channels) out

  pub at : (out : List ℕ) → checked (length out) ≡ Ok tt → (c i : ℕ) → c < q.channels → i < 128 → get_or (left_by out) (128 * c + i) 0 ≡ q.sample (channel samples p.shape.frames c) i
  at out pass c i below within =
      let all = all_passed (not (eqb (length out) 4096)) (bad_block_time p time) bad (bad_rate rate factor) (bad_samples p (length samples)) pass in
      let whole : length out ≡ 4096 = eqb-true (length out) 4096 (not-false (eqb (length out) 4096) all.length) in
      ap (λ (k : Result Unit Refusal). get_or (stored (answer_of k) (written 128 q.sample p.shape.frames samples out q.channels) out) (128 * c + i) 0) pass
      ∙ written_at q.sample p.shape.frames samples out whole q.channels (planned all.samples).few c below i within

  pub alike : (second out : List ℕ) → length second ≡ length out → (c i : ℕ) → c < answered (after_checks (checked (length out)) (report_of q)) → i < 128
      → get_or (left_by second) (128 * c + i) 0 ≡ get_or (left_by out) (128 * c + i) 0
  alike second out same c i below within =
      let on = taken (checked (length out)) (report_of q) c below in
      at second (ap checked same ∙ on.0) c i on.1 within ∙ sym (at out on.0 c i on.1 within)
