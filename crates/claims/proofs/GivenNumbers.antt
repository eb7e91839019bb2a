-- A block and a conversion are those of the given numbers, with the tolerances' own in their place; nothing else of a block reads the tolerances; and
-- so at the defaults they are those of the default numbers. Assumes nothing.
use mathlib.Core.Path.{◌≡◌, refl, ap, ap₂, fun_ext, ◌∙◌}
use mathlib.Core.Bool.{Bool, true, false, not, ◌&&◌, cond}
use mathlib.Core.List.{List}
use Prim.Native.Nat.{ℕ, zero, suc, ◌+◌}
use lib.ListN.{length}
use lib.Ieee.{Float, le, ne}
use Rattle.std.specs.Prelude.{Option, None, Some, Result, Ok, Err}
use Rattle.seconds.specs.Seconds.{never, block_end}
use Rattle.buffer.specs.Answers.{answer_of, stored, after_checks}
use Rattle.buffer.specs.Limits.{valid_rate}
use Rattle.tolerances.specs.declared.Tolerances.{Tolerances}
use Rattle.tolerances.specs.Tolerances.{defaults}
use Rattle.sub_sample.specs.SubSample as sub_sample
use Rattle.sub_sample.specs.declared.Settings.{Settings}
use Rattle.sub_sample.specs.declared.Playhead.{Playhead}
use Rattle.sub_sample.specs.declared.PlaybackInfo.{PlaybackInfo}
use Rattle.interpolated.specs.Interpolated as interpolated
use Rattle.reshape.specs.Converting as converting
use Rattle.player.specs.Record.{default_options, fresh, fresh_with, render_of, moved}
use Rattle.player.specs.Block as block
use Rattle.player.specs.Block.{Plan, settings, first_head, has_ended, silent, idle, computed_rate, start_at, is_aligned, turns_over, aligned_plan, own_loop, ramp_in, ramped_plan, bad_block_time, bad_samples, checked, report_of, written}
use Rattle.player.specs.declared.Player.{Player}
use Rattle.player.specs.Messages.{made, made_with}
use Rattle.buffer.specs.declared.refusals.Refusal.{Refusal}
use Rattle.claims.specs.GivenNumbers as given
use Rattle.claims.specs.Longer.{LongerCall, left}
use Rattle.claims.specs.Tolerances.{Receives, ReadNowhereElse, AtDefaults, holding, planned, answered}
use Rattle.claims.proofs.Tolerances.{keeps_tolerances}
use Rattle.claims.proofs.Whole.{long_run_lem}
use Rattle.claims.proofs.Switched.{switched_lem}

-- ---- a sub-sample block by where its playhead comes to, and by its samples
abbrev planned_by : ℕ → Player → Float → Float → ℕ → Playhead → (List ℕ → ℕ → ℕ) → Plan
planned_by n p time computed before l sample =
    let ended = has_ended n p time computed l.buffer_time.0 l.buffer_time_elapsed.0 in
    record {
      player = moved p l.start_time.0 l.offset.0 (render_of l.buffer_time.0 l.started l.entered_loop l.buffer_time_elapsed.0 false ended) time;
      keep_alive = true;
      channels = p.shape.channels;
      uncounted = before;
      sample = sample;
    }

-- its samples, at given numbers, by a channel's frames
abbrev numbered : Float → Float → Float → Settings → Playhead → List ℕ → ℕ → ℕ
numbered close small apart s h frames i =
    given.sample_of close small apart s frames (given.info_of_sample close small apart s i (given.head_at close small apart s h i))

-- ---- a block whose settings hold the tolerances is the one of their numbers
module _ (s : Settings) where
  head_lem : (h : Playhead) (i : ℕ) → let t = s.tolerances in sub_sample.head_at s h i ≡ given.head_at t.near t.near_zero t.relabel s h i
  unfolding sub_sample.head_at sub_sample.stepped sub_sample.snapped sub_sample.placed sub_sample.turned sub_sample.settled sub_sample.snapped_to_loop
      given.head_at given.stepped given.snapped given.placed given.turned given.settled given.snapped_to_loop
  head_lem h zero = refl
  head_lem h (suc i) = let t = s.tolerances in ap (given.stepped t.near t.near_zero t.relabel s i) (head_lem h i)

  before_lem : (h : Playhead) (i : ℕ) → let t = s.tolerances in sub_sample.before_start s h i ≡ given.before_start t.near t.near_zero t.relabel s h i
  unfolding sub_sample.before_start given.before_start
  before_lem h zero = refl
  before_lem h (suc i) = ap₂ (λ (l : Playhead) (b : ℕ). cond l.started b (b + 1)) (head_lem h (suc i)) (before_lem h i)

  info_lem : (i : ℕ) (h : Playhead) → let t = s.tolerances in sub_sample.info_of_sample s i h ≡ given.info_of_sample t.near t.near_zero t.relabel s i h
  unfolding sub_sample.info_of_sample sub_sample.snapped sub_sample.placed sub_sample.turned sub_sample.settled sub_sample.snapped_to_loop
      given.info_of_sample given.snapped given.placed given.turned given.settled given.snapped_to_loop
  info_lem i h = refl

  sample_lem : (channel : List ℕ) (info : Option PlaybackInfo)
      → let t = s.tolerances in interpolated.sample_of s channel info ≡ given.sample_of t.near t.near_zero t.relabel s channel info
  unfolding interpolated.sample_of interpolated.following interpolated.extrapolated given.sample_of given.following given.extrapolated
  sample_lem channel None = refl
  sample_lem channel (Some info) = refl

  -- its samples with its own tolerances
  abbrev own : Playhead → List ℕ → ℕ → ℕ
  own h frames i = interpolated.sample_of s frames (sub_sample.info_of_sample s i (sub_sample.head_at s h i))

  samples_lem : (h : Playhead) → let t = s.tolerances in own h ≡ numbered t.near t.near_zero t.relabel s h
  samples_lem h =
      let t = s.tolerances in
      fun_ext (λ (frames : List ℕ). fun_ext (λ (i : ℕ).
      sample_lem frames (sub_sample.info_of_sample s i (sub_sample.head_at s h i))
      ∙ ap (given.sample_of t.near t.near_zero t.relabel s frames)
      (info_lem i (sub_sample.head_at s h i) ∙ ap (given.info_of_sample t.near t.near_zero t.relabel s i) (head_lem h i))))

module _ (n : ℕ) (p : Player) (time : Float) where
  sub_sample_lem : (rate computed : Float)
      → let t = p.tolerances in block.sub_sample_plan n p time rate computed ≡ given.sub_sample_plan t.near t.near_zero t.relabel n p time rate computed
  unfolding block.sub_sample_plan given.sub_sample_plan settings
  sub_sample_lem rate computed =
      let t = p.tolerances in
      let s = settings p time rate computed in
      let h = first_head p time in
      ap₂ (planned_by n p time computed (sub_sample.before_start s h n)) (head_lem s h n) (samples_lem s h)
      ∙ ap (λ (b : ℕ). planned_by n p time computed b (given.head_at t.near t.near_zero t.relabel s h n) (numbered t.near t.near_zero t.relabel s h)) (before_lem s h n)

  -- a plan by that of its sub-sample block
  abbrev in_order : Float → Plan → Plan
  in_order computed q =
      let end = block_end n time p.sample_rate in
      cond p.render_state.ended (silent n (idle p time true) false)
      (cond (not p.has_buffer && ne p.start_time.0 never) (silent n (idle p time true) false)
      (cond (le end p.start_time.0)
      (cond (le p.stop_time.0 end) (silent n (idle p time true) false) (silent n (idle p time false) (ne p.start_time.0 never)))
      (cond (not p.has_buffer) (silent n (idle p time false) false)
      (cond (is_aligned n p time computed) (aligned_plan n p time computed) q))))

  plan_lem : (rate factor : Float) → let t = p.tolerances in block.plan n p time rate factor ≡ given.plan t.near t.near_zero t.relabel n p time rate factor
  unfolding block.bare_plan given.bare_plan
  plan_lem rate factor = ap (λ (q : Plan). ramped_plan n p (in_order (computed_rate rate factor) q)) (sub_sample_lem rate (computed_rate rate factor))

rendered_lem : (n : ℕ) (p : Player) (outLength samplesLength : ℕ) (time rate factor : Float) → let t = p.tolerances in
    block.rendered n p outLength samplesLength time rate factor ≡ given.rendered t.near t.near_zero t.relabel n p outLength samplesLength time rate factor
unfolding block.rendered given.rendered
rendered_lem n p outLength samplesLength time rate factor =
    ap (λ (q : Plan). after_checks (checked n p outLength samplesLength time rate factor) (report_of q)) (plan_lem n p time rate factor)

output_lem : (n : ℕ) (p : Player) (out samples : List ℕ) (time rate factor : Float) → let t = p.tolerances in
    block.output n p out samples time rate factor ≡ given.output t.near t.near_zero t.relabel n p out samples time rate factor
unfolding block.output given.output
output_lem n p out samples time rate factor =
    ap (λ (q : Plan). stored (answer_of (checked n p (length out) (length samples) time rate factor)) (written n q.sample p.shape.frames samples out q.channels) out)
    (plan_lem n p time rate factor)

pub receives : Receives
unfolding settings sub_sample.snapped sub_sample.snapped_to_loop sub_sample.turned sub_sample.settled sub_sample.placed sub_sample.stepped
    interpolated.extrapolated interpolated.following converting.relabels_with converting.converted_shape_with converting.converted_samples_with
    given.snapped given.snapped_to_loop given.turned given.settled given.placed given.stepped given.extrapolated given.following given.relabels
    given.converted_shape given.converted_samples
receives = record {
  settings = λ p time rate computed. refl;
  snapped = λ s now h. refl;
  snapped_to_loop = λ s x. refl;
  turned = λ s h. refl;
  settled = λ s h. refl;
  placed = λ s now h. refl;
  stepped = λ s i h. refl;
  info_of_sample = info_lem;
  head_at = head_lem;
  extrapolated = λ s channel frame k. refl;
  following = λ s channel frame k. refl;
  sample_of = sample_lem;
  plan = plan_lem;
  rendered = rendered_lem;
  output = output_lem;
  relabels = λ t shape rate. refl;
  converted_shape = λ t shape len rate. refl;
  converted_samples = λ t shape samples rate. refl;
}

-- ---- nothing else reads the tolerances
-- the settings with other tolerances
abbrev other : Settings → Tolerances → Settings
other s t = record {
  block_time = s.block_time;
  dt = s.dt;
  stop_time = s.stop_time;
  duration = s.duration;
  playback_rate = s.playback_rate;
  computed_playback_rate = s.computed_playback_rate;
  is_looping = s.is_looping;
  loop_start = s.loop_start;
  loop_end = s.loop_end;
  buffer_length = s.buffer_length;
  buffer_duration = s.buffer_duration;
  sampling_ratio = s.sampling_ratio;
  sample_rate = s.sample_rate;
  tolerances = t;
}

-- a choice of two plans
chosen : (t : Tolerances) (b : Bool) (q r q' r' : Plan) → q' ≡ planned q t → r' ≡ planned r t → cond b q' r' ≡ planned (cond b q r) t
chosen t true q r q' r' e f = e
chosen t false q r q' r' e f = f

module _ (close small apart : Float) (t : Tolerances) where
  module _ (s : Settings) where
    head_other : (h : Playhead) (i : ℕ) → given.head_at close small apart (other s t) h i ≡ given.head_at close small apart s h i
    unfolding given.head_at given.stepped given.snapped given.placed given.turned given.settled given.snapped_to_loop
        sub_sample.is_idle sub_sample.begun sub_sample.start_offset sub_sample.enters sub_sample.wrapped sub_sample.advanced
    head_other h zero = refl
    head_other h (suc i) = ap (given.stepped close small apart s i) (head_other h i)

    before_other : (h : Playhead) (i : ℕ) → given.before_start close small apart (other s t) h i ≡ given.before_start close small apart s h i
    unfolding given.before_start
    before_other h zero = refl
    before_other h (suc i) = ap₂ (λ (l : Playhead) (b : ℕ). cond l.started b (b + 1)) (head_other h (suc i)) (before_other h i)

    info_other : (i : ℕ) (h : Playhead) → given.info_of_sample close small apart (other s t) i h ≡ given.info_of_sample close small apart s i h
    unfolding given.info_of_sample given.snapped given.placed given.turned given.settled given.snapped_to_loop
        sub_sample.is_idle sub_sample.begun sub_sample.start_offset sub_sample.enters sub_sample.wrapped sub_sample.info_at sub_sample.playhead
    info_other i h = refl

    sample_other : (channel : List ℕ) (info : Option PlaybackInfo)
        → given.sample_of close small apart (other s t) channel info ≡ given.sample_of close small apart s channel info
    unfolding given.sample_of given.following interpolated.loop_frame
    sample_other channel None = refl
    sample_other channel (Some info) = refl

    samples_other : (h : Playhead) → numbered close small apart (other s t) h ≡ numbered close small apart s h
    samples_other h =
        fun_ext (λ (frames : List ℕ). fun_ext (λ (i : ℕ).
        sample_other frames (given.info_of_sample close small apart (other s t) i (given.head_at close small apart (other s t) h i))
        ∙ ap (given.sample_of close small apart s frames)
        (info_other i (given.head_at close small apart (other s t) h i) ∙ ap (given.info_of_sample close small apart s i) (head_other h i))))

  module _ (n : ℕ) (p : Player) (time : Float) where
    silent_other : (ended keep : Bool) → silent n (idle (holding p t) time ended) keep ≡ planned (silent n (idle p time ended) keep) t
    unfolding idle
    silent_other ended keep = refl

    aligned_other : (computed : Float) → aligned_plan n (holding p t) time computed ≡ planned (aligned_plan n p time computed) t
    unfolding aligned_plan start_at turns_over has_ended
    aligned_other computed = refl

    sub_sample_other : (rate computed : Float)
        → given.sub_sample_plan close small apart n (holding p t) time rate computed ≡ planned (given.sub_sample_plan close small apart n p time rate computed) t
    unfolding given.sub_sample_plan settings own_loop first_head start_at has_ended
    sub_sample_other rate computed =
        let s = settings p time rate computed in
        let h = first_head p time in
        let before = given.before_start close small apart (other s t) h n in
        ap₂ (λ (l : Playhead) (sample : List ℕ → ℕ → ℕ). planned (planned_by n p time computed before l sample) t) (head_other s h n) (samples_other s h)
        ∙ ap (λ (b : ℕ). planned (planned_by n p time computed b (given.head_at close small apart s h n) (numbered close small apart s h)) t) (before_other s h n)

    bare_other : (rate factor : Float)
        → given.bare_plan close small apart n (holding p t) time rate factor ≡ planned (given.bare_plan close small apart n p time rate factor) t
    unfolding given.bare_plan is_aligned start_at
    bare_other rate factor =
        let end = block_end n time p.sample_rate in
        let computed = computed_rate rate factor in
        chosen t p.render_state.ended _ _ _ _ (silent_other true false)
        (chosen t (not p.has_buffer && ne p.start_time.0 never) _ _ _ _ (silent_other true false)
        (chosen t (le end p.start_time.0) _ _ _ _
        (chosen t (le p.stop_time.0 end) _ _ _ _ (silent_other true false) (silent_other false (ne p.start_time.0 never)))
        (chosen t (not p.has_buffer) _ _ _ _ (silent_other false false)
        (chosen t (is_aligned n p time computed) _ _ _ _ (aligned_other computed) (sub_sample_other rate computed)))))

    -- the ramp reads none either
    ramped_other : (q : Plan) → ramped_plan n (holding p t) (planned q t) ≡ planned (ramped_plan n p q) t
    unfolding ramped_plan ramp_in
    ramped_other q = refl

    plan_other : (rate factor : Float)
        → given.plan close small apart n (holding p t) time rate factor ≡ planned (given.plan close small apart n p time rate factor) t
    plan_other rate factor = ap (ramped_plan n (holding p t)) (bare_other rate factor) ∙ ramped_other (given.bare_plan close small apart n p time rate factor)

    answered_other : (checks : Result Unit Refusal) (q r : Plan) → r ≡ planned q t
        → after_checks checks (report_of r) ≡ answered (after_checks checks (report_of q)) t
    answered_other (Ok passed) q r e = ap (λ (x : Plan). Ok (report_of x)) e
    answered_other (Err refusal) q r e = refl

    rendered_other : (outLength samplesLength : ℕ) (rate factor : Float)
        → given.rendered close small apart n (holding p t) outLength samplesLength time rate factor
        ≡ answered (given.rendered close small apart n p outLength samplesLength time rate factor) t
    unfolding given.rendered checked bad_block_time bad_samples
    rendered_other outLength samplesLength rate factor =
        answered_other (checked n p outLength samplesLength time rate factor) _ _ (plan_other rate factor)

    output_other : (out samples : List ℕ) (rate factor : Float)
        → given.output close small apart n (holding p t) out samples time rate factor ≡ given.output close small apart n p out samples time rate factor
    unfolding given.output checked bad_block_time bad_samples
    output_other out samples rate factor =
        ap (λ (q : Plan). stored (answer_of (checked n p (length out) (length samples) time rate factor)) (written n q.sample p.shape.frames samples out q.channels) out)
        (plan_other rate factor)

pub read_nowhere_else : ReadNowhereElse
read_nowhere_else = record {
  plan = λ close small apart n p t time rate factor. plan_other close small apart t n p time rate factor;
  rendered = λ close small apart n p t outLength samplesLength time rate factor.
      rendered_other close small apart t n p time outLength samplesLength rate factor;
  output = λ close small apart n p t out samples time rate factor. output_other close small apart t n p time out samples rate factor;
}

-- ---- at the defaults
fresh_has : (rate : Float) → (fresh rate).tolerances ≡ defaults
unfolding fresh fresh_with
fresh_has rate = refl

left_has : (rate : Float) (calls : List LongerCall) → (left (fresh rate) calls).tolerances ≡ defaults
left_has rate calls = keeps_tolerances.kept (fresh rate) calls ∙ fresh_has rate

either_way : {A : Type 0} (b : Bool) (x y : A) → cond b x y ≡ cond (not b) y x
either_way true x y = refl
either_way false x y = refl

made_lem : (rate : Float) → made rate ≡ made_with rate default_options
unfolding made made_with fresh
made_lem rate = either_way (valid_rate rate) _ _

pub at_defaults : AtDefaults
unfolding made made_with fresh converting.converted_shape converting.converted_samples
at_defaults = record {
  made = made_lem;
  has = left_has;
  kept = λ rate calls time playback computed. receives.settings (left (fresh rate) calls) time playback computed ∙ left_has rate calls;
  snapped = λ s now h e.
      receives.snapped s now h ∙ ap (λ (t : Tolerances). given.snapped t.near t.near_zero t.relabel s now h) e;
  snapped_to_loop = λ s x e.
      receives.snapped_to_loop s x ∙ ap (λ (t : Tolerances). given.snapped_to_loop t.near t.near_zero t.relabel s x) e;
  placed = λ s now h e.
      receives.placed s now h ∙ ap (λ (t : Tolerances). given.placed t.near t.near_zero t.relabel s now h) e;
  following = λ s channel frame k e.
      receives.following s channel frame k ∙ ap (λ (t : Tolerances). given.following t.near t.near_zero t.relabel s channel frame k) e;
  plan = λ n p time rate factor e.
      receives.plan n p time rate factor ∙ ap (λ (t : Tolerances). given.plan t.near t.near_zero t.relabel n p time rate factor) e;
  rendered = λ n p outLength samplesLength time rate factor e.
      receives.rendered n p outLength samplesLength time rate factor
      ∙ ap (λ (t : Tolerances). given.rendered t.near t.near_zero t.relabel n p outLength samplesLength time rate factor) e;
  output = λ n p out samples time rate factor e.
      receives.output n p out samples time rate factor
      ∙ ap (λ (t : Tolerances). given.output t.near t.near_zero t.relabel n p out samples time rate factor) e;
  converted_shape = receives.converted_shape defaults;
  converted_samples = receives.converted_samples defaults;
  long_run = λ rate. long_run_lem rate default_options refl;
  loop_switch = λ rate. switched_lem rate default_options refl;
}
