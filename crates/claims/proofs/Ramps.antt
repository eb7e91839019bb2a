-- Ramps: with length 0 a block is the bare one but for the ramp's record; with any length all but the samples' bits is that of length 0.
-- Assumes nothing.
use mathlib.Core.Path.{◌≡◌, refl, sym, ap, ◌∙◌}
use mathlib.Core.Bool.{Bool, true, false, not, ◌&&◌, cond}
use mathlib.Core.List.{List}
use Prim.Native.Nat.{ℕ}
use lib.Dec.{ltb}
use lib.ListN.{length}
use lib.Ieee.{Float, ne, le}
use Rattle.std.specs.Prelude.{Result, Ok, Err}
use Rattle.buffer.specs.Answers.{answer_of, stored, after_checks}
use Rattle.buffer.specs.declared.refusals.Refusal.{Refusal}
use Rattle.std.proofs.Math.Path.{fun_ext}
use Rattle.seconds.specs.Seconds.{never, block_end}
use Rattle.ramps.specs.declared.Ramp.{Ramp}
use Rattle.ramps.specs.Ramps.{ramp_of, counted, stopping}
use Rattle.ramps.proofs.Laws.{ramp_laws_lem}
use Rattle.player.specs.declared.Player.{Player}
use Rattle.player.specs.Record.{with_ramp}
use Rattle.player.specs.Messages.{ramp_at_stop}
use Rattle.player.specs.Block.{Plan, silent, idle, computed_rate, start_at, is_aligned, has_ended, turns_over, aligned_plan, own_loop, settings, first_head, sub_sample_plan, bare_plan, ramp_in, ramped_plan, plan, checked, report_of, rendered, written, output}
use Rattle.claims.specs.Ramps.{bare_rendered, bare_output, plan_with, answer_with, NoRamp}

-- ---- the length stays
same_length : (b : Bool) (r s : Ramp) (n : ℕ) → r.length ≡ n → s.length ≡ n → (cond b r s).length ≡ n
same_length true r s n h k = h
same_length false r s n h k = k

stopping_length : (r : Ramp) (start stop rate : Float) → (stopping r start stop rate).length ≡ r.length
unfolding stopping
stopping_length r start stop rate = same_length (ne stop never) _ _ r.length refl refl

pub in_length : (p : Player) (started : Bool) (start : Float) → (ramp_in p started start).length ≡ p.ramp.length
unfolding ramp_in
in_length p started start =
    same_length (not p.render_state.started && started) _ p.ramp p.ramp.length (stopping_length p.ramp start p.stop_time.0 p.sample_rate) refl

pub at_stop_length : (p : Player) (when : Float) → (ramp_at_stop p when).length ≡ p.ramp.length
unfolding ramp_at_stop
at_stop_length p when =
    same_length p.render_state.started _ p.ramp p.ramp.length (stopping_length p.ramp p.start_time.0 when p.sample_rate) refl

counted_length : (n : ℕ) (r : Ramp) (u : ℕ) → (counted n r u).length ≡ r.length
unfolding counted
counted_length n r u = same_length (ltb u n) _ r r.length refl refl

-- ---- the ramp that a block leaves, and a plan whose samples it doesn't touch
abbrev pub ramp_after : ℕ → Player → Plan → Ramp
ramp_after n p q = counted n (ramp_in p q.player.render_state.started q.player.start_time.0) q.uncounted

abbrev pub counting : ℕ → Player → Plan → Plan
counting n p q = plan_with q (ramp_after n p q)

pub after_length : (n : ℕ) (p : Player) (q : Plan) → (ramp_after n p q).length ≡ p.ramp.length
after_length n p q = counted_length n _ q.uncounted ∙ in_length p q.player.render_state.started q.player.start_time.0

-- with length 0
pub unramped : (n : ℕ) (p : Player) (q : Plan) → p.ramp.length ≡ 0 → ramped_plan n p q ≡ counting n p q
unfolding ramped_plan
unramped n p q e =
    let r = ramp_in p q.player.render_state.started q.player.start_time.0 in
    let none : r.length ≡ 0 = in_length p q.player.render_state.started q.player.start_time.0 ∙ e in
    ap (λ (sample : List ℕ → ℕ → ℕ). record {
      player = with_ramp q.player (ramp_after n p q);
      keep_alive = q.keep_alive;
      channels = q.channels;
      uncounted = q.uncounted;
      sample = sample;
    })
    (fun_ext (λ (frames : List ℕ). fun_ext (λ (i : ℕ). ramp_laws_lem.none r q.uncounted i (q.sample frames i) none)))

-- a ramp of length 0 by its other parts
abbrev pub hushed : Ramp → Ramp
hushed r = ramp_of 0 r.count r.has_stop_sample r.stop_sample

pub hushed_is : (r : Ramp) → r.length ≡ 0 → hushed r ≡ r
hushed_is r e = ap (λ (l : ℕ). ramp_of l r.count r.has_stop_sample r.stop_sample) (sym e)

-- a block in which nothing starts
pub stays : {A : Type 0} (b : Bool) (x y : A) → cond (not b && b) x y ≡ y
stays true x y = refl
stays false x y = refl

-- ---- with length 0
plan_zero : (n : ℕ) (p : Player) (time rate factor : Float) → p.ramp.length ≡ 0 → (r : Ramp)
    → plan_with (plan n p time rate factor) r ≡ plan_with (bare_plan n p time rate factor) r
plan_zero n p time rate factor e r = ap (λ (q : Plan). plan_with q r) (unramped n p (bare_plan n p time rate factor) e)

answer_zero : (checks : Result Unit Refusal) (q q' : Plan) (r : Ramp) → plan_with q r ≡ plan_with q' r
    → answer_with (after_checks checks (report_of q)) r ≡ answer_with (after_checks checks (report_of q')) r
answer_zero (Ok passed) q q' r e = ap (λ (x : Plan). Ok (report_of x)) e
answer_zero (Err refusal) q q' r e = refl

rendered_zero : (n : ℕ) (p : Player) (outLength samplesLength : ℕ) (time rate factor : Float) → p.ramp.length ≡ 0 → (r : Ramp)
    → answer_with (rendered n p outLength samplesLength time rate factor) r ≡ answer_with (bare_rendered n p outLength samplesLength time rate factor) r
unfolding rendered
rendered_zero n p outLength samplesLength time rate factor e r =
    answer_zero (checked n p outLength samplesLength time rate factor) (plan n p time rate factor) (bare_plan n p time rate factor) r (plan_zero n p time rate factor e r)

output_zero : (n : ℕ) (p : Player) (out samples : List ℕ) (time rate factor : Float) → p.ramp.length ≡ 0
    → output n p out samples time rate factor ≡ bare_output n p out samples time rate factor
unfolding output
output_zero n p out samples time rate factor e =
    ap (λ (q : Plan). stored (answer_of (checked n p (length out) (length samples) time rate factor)) (written n q.sample p.shape.frames samples out q.channels) out)
    (unramped n p (bare_plan n p time rate factor) e)

-- ---- the bare plan reads no ramp
abbrev in_order : Bool → Bool → Bool → Bool → Bool → Bool → Plan → Plan → Plan → Plan → Plan → Plan → Plan → Plan
in_order a b c d e f v w x y z q s = cond a v (cond b w (cond c (cond d x y) (cond e z (cond f q s))))

chosen : (r : Ramp) (a b c d e f : Bool) (v w x y z q s v' w' x' y' z' q' s' : Plan)
    → v' ≡ plan_with v r → w' ≡ plan_with w r → x' ≡ plan_with x r → y' ≡ plan_with y r → z' ≡ plan_with z r → q' ≡ plan_with q r → s' ≡ plan_with s r
    → in_order a b c d e f v' w' x' y' z' q' s' ≡ plan_with (in_order a b c d e f v w x y z q s) r
chosen r true b c d e f v w x y z q s v' w' x' y' z' q' s' hv hw hx hy hz hq hs = hv
chosen r false true c d e f v w x y z q s v' w' x' y' z' q' s' hv hw hx hy hz hq hs = hw
chosen r false false true true e f v w x y z q s v' w' x' y' z' q' s' hv hw hx hy hz hq hs = hx
chosen r false false true false e f v w x y z q s v' w' x' y' z' q' s' hv hw hx hy hz hq hs = hy
chosen r false false false d true f v w x y z q s v' w' x' y' z' q' s' hv hw hx hy hz hq hs = hz
chosen r false false false d false true v w x y z q s v' w' x' y' z' q' s' hv hw hx hy hz hq hs = hq
chosen r false false false d false false v w x y z q s v' w' x' y' z' q' s' hv hw hx hy hz hq hs = hs

module _ (n : ℕ) (p : Player) (r : Ramp) (time : Float) where
  silent_other : (ended keep : Bool) → silent n (idle (with_ramp p r) time ended) keep ≡ plan_with (silent n (idle p time ended) keep) r
  unfolding idle
  silent_other ended keep = refl

  aligned_other : (computed : Float) → aligned_plan n (with_ramp p r) time computed ≡ plan_with (aligned_plan n p time computed) r
  unfolding aligned_plan start_at turns_over has_ended
  aligned_other computed = refl

  sub_sample_other : (rate computed : Float) → sub_sample_plan n (with_ramp p r) time rate computed ≡ plan_with (sub_sample_plan n p time rate computed) r
  unfolding sub_sample_plan settings own_loop first_head start_at has_ended
  sub_sample_other rate computed = refl

  pub reads_none : (rate factor : Float) → bare_plan n (with_ramp p r) time rate factor ≡ plan_with (bare_plan n p time rate factor) r
  unfolding bare_plan is_aligned start_at
  reads_none rate factor =
      let end = block_end n time p.sample_rate in
      let computed = computed_rate rate factor in
      let o : Player = with_ramp p r in
      let waits = ne p.start_time.0 never in
      chosen r p.render_state.ended (not p.has_buffer && waits) (le end p.start_time.0) (le p.stop_time.0 end) (not p.has_buffer) (is_aligned n p time computed)
      (silent n (idle p time true) false) (silent n (idle p time true) false) (silent n (idle p time true) false) (silent n (idle p time false) waits)
      (silent n (idle p time false) false) (aligned_plan n p time computed) (sub_sample_plan n p time rate computed)
      (silent n (idle o time true) false) (silent n (idle o time true) false) (silent n (idle o time true) false) (silent n (idle o time false) waits)
      (silent n (idle o time false) false) (aligned_plan n o time computed) (sub_sample_plan n o time rate computed)
      (silent_other true false) (silent_other true false) (silent_other true false) (silent_other false waits) (silent_other false false)
      (aligned_other computed) (sub_sample_other rate computed)

pub no_ramp : NoRamp
no_ramp = record {
  plan = plan_zero;
  rendered = rendered_zero;
  output = output_zero;
  reads_none = λ n p r time rate factor. reads_none n p r time rate factor;
}
