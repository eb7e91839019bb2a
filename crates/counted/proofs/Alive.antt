-- An accepted block of the first player: what its acceptance says, and its keep-alive. Assumes nothing.
use mathlib.Core.Path.{◌≡◌, refl, sym, ap, ap₂, ◌∙◌, subst}
use mathlib.Core.Bool.{Bool, true, false, not, cond, false≢true}
use mathlib.Core.List.{List, ◌∷◌, ◌++◌}
use Prim.Native.Nat.{ℕ}
use borrow.Author.Tests.{not-false}
use lib.Dec.{T, eqb}
use lib.ListN.{length}
use lib.Ieee.{Float, binary32, binary64, fits, mul, le}
use Rattle.std.specs.Prelude.{Result, Ok, Err}
use Rattle.buffer.specs.Limits.{valid_rate, valid_shape}
use Rattle.buffer.specs.Answers.{after_checks}
use Rattle.buffer.specs.declared.refusals.Refusal.{Refusal}
use Rattle.buffer.proofs.Checks.{all_passed}
use Rattle.seconds.specs.Seconds.{one, block_end}
use Rattle.player.specs.Block.{Plan, is_aligned, aligned_plan, sub_sample_plan, plan, bare_plan, ramped_plan, bad_block_time, bad_rate, bad_samples, checked, rendered, report_of}
use Rattle.player.specs.Record.{fresh_with}
use Rattle.player.specs.declared.Player.{Player}
use Rattle.player.specs.declared.PlayerOptions.{PlayerOptions}
use Rattle.player.specs.declared.BlockReport.{BlockReport}
use Rattle.tape.specs.Tape.{Step, stepped_all, stays_off}
use Rattle.claims.specs.Calls.{Call, block, all_typed, is_block, accepts, Event, after_all, is_ended, opening, playing, gathered}
use Rattle.claims.specs.LongRun.{OnlyBlocks, Premises}
use Rattle.claims.specs.LoopSwitch.{step_in}
use Rattle.claims.proofs.Order as order
use Rattle.claims.proofs.Laws.{end_later}
use Rattle.claims.proofs.Begin.{got, first, first_is, ground, moment}
use Rattle.claims.proofs.Unswitched.{begun}
use Rattle.claims.proofs.States.{Setup, Ground, State, standing}
use Rattle.claims.proofs.Events.{Plain, plain, Taken}
use Rattle.claims.proofs.Run.{Moment, Reached, reach, taken_of, start_before}
use Rattle.claims.proofs.Conclude.{Meets, hits_reach, up_reach}
use Rattle.claims.proofs.Whole.{begins_of, only_steps_of, steps_of, off_blocks}
use Rattle.counted.specs.Beside.{keep_alive_or, keep_alive_by, keep_alive_of, taken}
use Rattle.counted.proofs.Lists.{only_at}

-- ---- the keep-alive of a plan: a player that has a clip, and whose start is not after the block, plays until it has ended
either : (a l d : Bool) (p q u w : Plan) → a ≡ false → l ≡ false → u.keep_alive ≡ true → w.keep_alive ≡ true → (cond a p (cond l q (cond d u w))).keep_alive ≡ true
either a l true p q u w e f g h = simp (e, f) g
either a l false p q u w e f g h = simp (e, f) h

plan_keeps : (s : Setup) (x : State) (t : Float) → (x.ended ≡ false → le (block_end 128 t s.rate) x.start ≡ false) → (plan 128 (standing s x) t one one).keep_alive ≡ not x.ended
unfolding bare_plan ramped_plan aligned_plan sub_sample_plan
plan_keeps s x t early = go x.ended refl
  where
    go : (b : Bool) → x.ended ≡ b → (plan 128 (standing s x) t one one).keep_alive ≡ not x.ended
    go true e = simp e refl
    go false e = either x.ended (le (block_end 128 t s.rate) x.start) (is_aligned 128 (standing s x) t (mul binary64 one one)) _ _ _ _ e (early e) refl refl ∙ sym (ap not e)

-- ---- what acceptance says
passed_of : (checks : Result Unit Refusal) (r : BlockReport) → is_block (after_checks checks r) ≡ true → checks ≡ Ok tt
passed_of (Ok tt) r h = refl
passed_of (Err refused) r h = absurd (false≢true h)

pub record Accepted (rate : Float) (channels frames : ℕ) (samples : List ℕ) (p : Player) (e : Event) : Type 0 where
  pub out : List ℕ
  pub time : Float
  pub is : e.call ≡ block out samples time one one
  pub before : e.before ≡ p
  pub whole : length out ≡ 4096
  pub shape : valid_shape channels frames (length samples) ≡ true
  pub alive : keep_alive_of e ≡ not (is_ended e.before)

module _ (rate : Float) (options : PlayerOptions) (quiet : options.ramp ≡ 0) (f : T (fits binary32 rate)) (ok : T (valid_rate rate)) (calls : List Call) (ty : T (all_typed calls)) (h : Premises rate (taken rate options calls)) where
  abbrev es : List Event
  es = taken rate options calls

  abbrev g : Ground
  g = ground rate options quiet f ok calls ty (begins_of rate es h)

  abbrev s : Setup
  s = g.setup

  abbrev looped : Bool
  looped = (got rate options quiet f ok calls ty (begins_of rate es h)).looped

  at_first : Moment g (Meets s.stop) (begun looped) (first rate options quiet f ok calls ty (begins_of rate es h)) (playing es)
  at_first =
      moment rate options quiet f ok calls ty (begins_of rate es h) (Meets s.stop) (only_steps_of h.clip.samples (playing es) h.only_blocks)
      (subst (λ (ts : List Step). T (stays_off 128 h.clip.frames (begun looped) ts)) (sym (steps_of h.clip.samples (playing es) h.only_blocks)) (off_blocks 128 h.clip.frames (length (playing es)) _))

  module _ (front : List Event) (e : Event) (back : List Event) (split : playing es ≡ front ++ (e ∷ back)) where
    reached : Reached g (Meets s.stop) (stepped_all 128 h.clip.frames (begun looped) (gathered step_in front)) (after_all (standing s (first rate options quiet f ok calls ty (begins_of rate es h))) front) (e ∷ back)
    reached =
        reach g (Meets s.stop) (up_reach g) front (e ∷ back) (begun looped) (first rate options quiet f ok calls ty (begins_of rate es h))
        (subst (Moment g (Meets s.stop) (begun looped) (first rate options quiet f ok calls ty (begins_of rate es h))) split at_first) (hits_reach g front)

    x : State
    x = reached.state

    c : Plain h.clip.samples e.call
    c = plain h.clip.samples e.call (only_at h.clip.samples front e back (subst (λ (l : List Event). OnlyBlocks h.clip.samples l) split h.only_blocks))

    took : Taken s x c.out h.clip.samples c.time
    unfolding x
    took = taken_of g reached.state e reached.moment.chain.0 c

    checks : checked 128 (standing s x) (length c.out) (length h.clip.samples) c.time one one ≡ Ok tt
    unfolding x accepts rendered
    checks = passed_of _ (report_of (plan 128 (standing s reached.state) c.time one one)) (ap (accepts (standing s reached.state)) (sym c.is) ∙ reached.moment.chain.0.taken)

    early : x.ended ≡ false → le (block_end 128 c.time s.rate) x.start ≡ false
    unfolding x
    early n =
        order.lt_not_le reached.state.start (block_end 128 c.time s.rate)
        (order.le_lt_trans reached.state.start c.time (block_end 128 c.time s.rate) (start_before g reached.state e back c took reached.moment.ordered n)
        (end_later s.rate g.units g.value g.low g.high c.time took.time))

    shape_is : valid_shape h.clip.channels h.clip.frames (length h.clip.samples) ≡ true
    unfolding checked bad_samples
    shape_is =
        let p = standing s x in
        not-false _ (all_passed (not (eqb (length c.out) 4096)) (bad_block_time p c.time) false (bad_rate one one) (bad_samples p (length h.clip.samples)) checks).samples

    keeps : keep_alive_by (standing s x) (block c.out h.clip.samples c.time one one) ≡ not x.ended
    unfolding rendered
    keeps =
        ap (λ (k : Result Unit Refusal). keep_alive_or (after_checks k (report_of (plan 128 (standing s x) c.time one one)))) checks
        ∙ plan_keeps s x c.time early

    pub accepted_block : Accepted rate h.clip.channels h.clip.frames h.clip.samples (after_all (after_all (fresh_with rate options) (opening es)) front) e
    unfolding x
    accepted_block = record {
      out = c.out;
      time = c.time;
      is = c.is;
      before = reached.moment.chain.0.got ∙ sym reached.player ∙ ap (λ (p : Player). after_all p front) (sym (first_is rate options quiet f ok calls ty (begins_of rate es h)));
      whole = took.whole;
      shape = shape_is;
      alive = ap₂ (λ (p : Player) (d : Call). keep_alive_by p d) reached.moment.chain.0.got c.is ∙ keeps ∙ ap (λ (p : Player). not (is_ended p)) (sym reached.moment.chain.0.got);
    }
