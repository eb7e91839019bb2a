-- An accepted block: the lent output has 4,096 words, and at most 32 channels are answered. Assumes nothing.
use Rattle.std.proofs.Common.{◌≡◌, ℕ, ◌≤◌, Bool, true, false, cond, not, ◌&&◌, eqb, refl, ap, arith, eqb-true}
use borrow.Author.Tests.{not-false}
use lib.Ieee.{Float, le, ne}
use Rattle.seconds.specs.Seconds.{never, block_end}
use Rattle.player.specs.Block.{Plan, silent, idle, computed_rate, is_aligned, aligned_plan, sub_sample_plan, bare_plan, ramped_plan, plan, bad_block_time, bad_rate, bad_samples, checked, report_of, rendered}
use Rattle.player.specs.declared.Player.{Player}
use Rattle.player.specs.declared.BlockReport.{BlockReport}
use Rattle.std.specs.Prelude.{Ok}
use Rattle.buffer.specs.Limits.{valid}
use Rattle.buffer.proofs.Checks.{Passed, all_passed, after_passed}

-- the order of a block's cases: without a buffer it is silent
chosen : (a b d e f g : Bool) (v w x y z q r : Plan) → v.channels ≤ 32 → w.channels ≤ 32 → x.channels ≤ 32 → y.channels ≤ 32 → z.channels ≤ 32
    → (b ≡ true → q.channels ≤ 32) → (b ≡ true → r.channels ≤ 32)
    → (cond a v (cond (not b && d) w (cond e (cond f x y) (cond (not b) z (cond g q r))))).channels ≤ 32
chosen true b d e f g v w x y z q r hv hw hx hy hz hq hr = hv
chosen false true d true true g v w x y z q r hv hw hx hy hz hq hr = hx
chosen false true d true false g v w x y z q r hv hw hx hy hz hq hr = hy
chosen false true d false f true v w x y z q r hv hw hx hy hz hq hr = hq refl
chosen false true d false f false v w x y z q r hv hw hx hy hz hq hr = hr refl
chosen false false true e f g v w x y z q r hv hw hx hy hz hq hr = hw
chosen false false false true true g v w x y z q r hv hw hx hy hz hq hr = hx
chosen false false false true false g v w x y z q r hv hw hx hy hz hq hr = hy
chosen false false false false f g v w x y z q r hv hw hx hy hz hq hr = hz

module _ (p : Player) (time rate factor : Float) where
  aligned_channels : (aligned_plan 128 p time (computed_rate rate factor)).channels ≡ p.shape.channels
  unfolding aligned_plan
  aligned_channels = refl

  sub_sample_channels : (sub_sample_plan 128 p time rate (computed_rate rate factor)).channels ≡ p.shape.channels
  unfolding sub_sample_plan
  sub_sample_channels = refl

  -- silence is one channel; a block that plays has the buffer's channels
  bare_channels : (p.has_buffer ≡ true → p.shape.channels ≤ 32) → (bare_plan 128 p time rate factor).channels ≤ 32
  unfolding bare_plan
  bare_channels few =
      chosen p.render_state.ended p.has_buffer (ne p.start_time.0 never) (le (block_end 128 time p.sample_rate) p.start_time.0) (le p.stop_time.0 (block_end 128 time p.sample_rate)) (is_aligned 128 p time (computed_rate rate factor))
      (silent 128 (idle p time true) false) (silent 128 (idle p time true) false) (silent 128 (idle p time true) false)
      (silent 128 (idle p time false) (ne p.start_time.0 never)) (silent 128 (idle p time false) false) (aligned_plan 128 p time (computed_rate rate factor)) (sub_sample_plan 128 p time rate (computed_rate rate factor))
      (omega arith) (omega arith) (omega arith) (omega arith) (omega arith)
      (λ b. rw aligned_channels (few b)) (λ b. rw sub_sample_channels (few b))

  plan_channels : (p.has_buffer ≡ true → p.shape.channels ≤ 32) → (plan 128 p time rate factor).channels ≤ 32
  unfolding ramped_plan
  plan_channels few = bare_channels few

-- the samples are the player's buffer
own_samples : (p : Player) (len : ℕ) → bad_samples p len ≡ false → p.has_buffer ≡ true → p.shape.channels ≤ 32
unfolding bad_samples
own_samples p len h b = (valid _ _ _ (not-false _ (rw b at h))).few

module _ (p : Player) (outLength samplesLength : ℕ) (time rate factor : Float) (r : BlockReport) (done : rendered 128 p outLength samplesLength time rate factor ≡ Ok r) where
  -- `rendered` accepts what no row of the table refuses
  accepted : (checked 128 p outLength samplesLength time rate factor ≡ Ok tt) × (report_of (plan 128 p time rate factor) ≡ r)
  unfolding rendered
  accepted = after_passed _ _ _ done

  tests : Passed (not (eqb outLength 4096)) (bad_block_time p time) false (bad_rate rate factor) (bad_samples p samplesLength)
  unfolding checked
  tests = all_passed _ _ _ _ _ accepted.0

  pub whole_output : outLength ≡ 4096
  whole_output = eqb-true outLength 4096 (not-false (eqb outLength 4096) tests.length)

  pub few_channels : r.channels ≤ 32
  few_channels = rw (ap (λ (q : BlockReport). q.channels) accepted.1) at (plan_channels p time rate factor (own_samples p samplesLength tests.samples))
