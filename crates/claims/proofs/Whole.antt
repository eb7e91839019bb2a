-- The long run's statement: from its premises to the player before the first block, and from there block by block. Assumes nothing.
use mathlib.Core.Path.{◌≡◌, refl, sym, ap, ◌∙◌, subst}
use mathlib.Core.Bool.{Bool, false, true≢false}
use mathlib.Core.List.{List, [], ◌∷◌, ◌++◌}
use Prim.Native.Nat.{ℕ, zero, suc}
use lib.Dec.{T, lit<}
use lib.ListN.{length, replicate}
use lib.Ieee.{Float, binary32, fits, lt, le}
use Rattle.buffer.specs.Limits.{valid_rate}
use Rattle.seconds.specs.Seconds.{instant}
use Rattle.player.specs.declared.PlayerOptions.{PlayerOptions}
use Rattle.player.specs.Record.{fresh_with}
use Rattle.tape.specs.Tape.{Tape, Step, a_block, stepped, stepped_all, stays_off}
use Rattle.claims.specs.Calls.{Call, buffer, message, block, all_typed, Event, accepted, after_all, time_of, opening, playing, stop_in, switch_in, gathered}
use Rattle.claims.specs.LongRun.{PlainBlock, OnlyBlocks, Premises, switched_on, is_before, is_at, Plays, Stands, end_of, NoneAt, Block, Holds, LongRun}
use Rattle.claims.specs.LoopSwitch.{step_in, PlainStep, OnlySteps}
use Rattle.claims.proofs.Order as order
use Rattle.claims.proofs.Laws.{Time}
use Rattle.claims.proofs.Begin.{loop_of_switch, Begins, got, first, first_is, ground, moment}
use Rattle.claims.proofs.Unswitched.{Unswitched, begun, unswitched_none, unswitched_block, unswitched_after, same_bits}
use Rattle.claims.proofs.States.{Setup, Ground, State, standing}
use Rattle.claims.proofs.Run.{Upward, Moment, Hits, Reached, reach}
use Rattle.claims.proofs.Events.{Plain, plain}
use Rattle.claims.proofs.Conclude.{Meets, Passes, channels_at, frames_at, zero_at, time_at, stands_by, short_of, at_stop, at_or_after, hits_past, hits_reach, up_reach, up_past, not_past, stands_at, over_at}

-- ---- blocks alone are steps
plain_step : (samples : List ℕ) (c : Call) → PlainBlock samples c → PlainStep samples c
plain_step samples (buffer channels frames rate s) h = absurd h
plain_step samples (message m) h = absurd h
plain_step samples (block out s time rate factor) h = h

pub only_steps_of : (samples : List ℕ) (es : List Event) → OnlyBlocks samples es → OnlySteps samples es
only_steps_of samples [] h = tt
only_steps_of samples (e ∷ es) h = (plain_step samples e.call h.0, only_steps_of samples es h.1)

pub steps_of : (samples : List ℕ) (es : List Event) → OnlyBlocks samples es → gathered step_in es ≡ replicate (length es) a_block
steps_of samples [] h = refl
steps_of samples (e ∷ es) h =
    ap (λ (c : Call). step_in c ++ gathered step_in es) (plain samples e.call h.0).is ∙ ap (λ (xs : List Step). a_block ∷ xs) (steps_of samples es h.1)

pub off_blocks : (n l k : ℕ) (t : Tape) → T (stays_off n l t (replicate k a_block))
unfolding stays_off
off_blocks n l zero t = tt
off_blocks n l (suc k) t = off_blocks n l k (stepped n l t a_block)

blocks_at : (samples : List ℕ) (front : List Event) (e : Event) (back : List Event) → OnlyBlocks samples (front ++ (e ∷ back)) → OnlyBlocks samples front × OnlyBlocks samples (e ∷ back)
blocks_at samples [] e back h = (tt, h)
blocks_at samples (f ∷ front) e back h = let r = blocks_at samples front e back h.1 in ((h.0, r.0), r.1)

-- ---- the premises, put to use
abbrev pub begins_of : (rate : Float) (es : List Event) → Premises rate es → Begins rate es
begins_of rate es h = record {
  clip = h.clip;
  start = h.start;
  one_clip = h.one_clip;
  own_rate = h.own_rate;
  one_start = h.one_start;
  in_time = h.in_time;
  no_offset = h.no_offset;
  no_duration = h.no_duration;
  few_stops = h.few_stops;
  no_points = h.no_points;
}

module _ (rate : Float) (options : PlayerOptions) (quiet : options.ramp ≡ 0) (f : T (fits binary32 rate)) (ok : T (valid_rate rate)) (calls : List Call) (ty : T (all_typed calls)) (h : Premises rate (accepted (fresh_with rate options) calls)) where
  abbrev es : List Event
  es = accepted (fresh_with rate options) calls

  abbrev b : Begins rate es
  b = begins_of rate es h

  abbrev g : Ground
  g = ground rate options quiet f ok calls ty b

  abbrev s : Setup
  s = g.setup

  abbrev x : State
  x = first rate options quiet f ok calls ty b

  abbrev stops : List Float
  stops = gathered stop_in (opening es)

  abbrev on : Bool
  on = switched_on (gathered switch_in (opening es))

  loop_is : (got rate options quiet f ok calls ty b).looped ≡ on
  loop_is = loop_of_switch (opening es) h.few_switches

  -- after k blocks the tape is one without a switch
  tape_at : (k : ℕ) → Unswitched 128 h.clip.frames on k (stepped_all 128 h.clip.frames (begun (got rate options quiet f ok calls ty b).looped) (replicate k a_block))
  tape_at k =
      unswitched_after 128 h.clip.frames (lit< tt) g.long on k (begun (got rate options quiet f ok calls ty b).looped)
      (subst (λ (c : Bool). Unswitched 128 h.clip.frames on 0 (begun c)) (sym loop_is) (unswitched_none 128 h.clip.frames on))

  at_first : (X : Float → Type 0) → Moment g X (begun (got rate options quiet f ok calls ty b).looped) x (playing es)
  at_first X =
      moment rate options quiet f ok calls ty b X (only_steps_of h.clip.samples (playing es) h.only_blocks)
      (subst (λ (ts : List Step). T (stays_off 128 h.clip.frames (begun (got rate options quiet f ok calls ty b).looped) ts)) (sym (steps_of h.clip.samples (playing es) h.only_blocks)) (off_blocks 128 h.clip.frames (length (playing es)) _))

  -- ---- one of the blocks
  module _ (front : List Event) (e : Event) (back : List Event) (split : playing es ≡ front ++ (e ∷ back)) where
    abbrev k : ℕ
    k = length front

    here : OnlyBlocks h.clip.samples front × OnlyBlocks h.clip.samples (e ∷ back)
    here = blocks_at h.clip.samples front e back (subst (OnlyBlocks h.clip.samples) split h.only_blocks)

    c : Plain h.clip.samples e.call
    c = plain h.clip.samples e.call here.1.0

    abbrev t : Tape
    t = stepped_all 128 h.clip.frames (begun (got rate options quiet f ok calls ty b).looped) (gathered step_in front)

    t_is : t ≡ stepped_all 128 h.clip.frames (begun (got rate options quiet f ok calls ty b).looped) (replicate k a_block)
    t_is = ap (stepped_all 128 h.clip.frames (begun (got rate options quiet f ok calls ty b).looped)) (steps_of h.clip.samples front here.0)

    before : Unswitched 128 h.clip.frames on k t
    before = subst (Unswitched 128 h.clip.frames on k) (sym t_is) (tape_at k)

    reached : (X : Float → Type 0) → Upward X → Hits g X front
        → Reached g X t (after_all (standing s x) front) (e ∷ back)
    reached X up hits =
        reach g X up front (e ∷ back) (begun (got rate options quiet f ok calls ty b).looped) x
        (subst (Moment g X (begun (got rate options quiet f ok calls ty b).looped) x) split (at_first X)) hits

    met : Reached g (Meets s.stop) t (after_all (standing s x) front) (e ∷ back)
    met = reached (Meets s.stop) (up_reach g) (hits_reach g front)

    time : Time (time_of e.call)
    time = time_at g (Meets s.stop) (up_reach g) t met.state e back met.moment c

    -- the tape's frames are those of the long run
    plays_by : (X : Float → Type 0) (up : Upward X) → Reached g X t (after_all (standing s x) front) (e ∷ back) → (X (end_of rate e) → ⊥) → lt s.stop (end_of rate e) ≡ false → Plays on h.clip k e
    plays_by X up r n p d i D I =
        frames_at g X up t r.state e back r.moment c n p d i D I
        ∙ same_bits 128 h.clip.frames (lit< tt) g.long on k t h.clip i d refl before

    before_stop : T (is_before (end_of rate e) stops) → le s.stop (end_of rate e) ≡ false
    before_stop = short_of g stops refl (time_of e.call) time

    at_the_stop : (l : List Float) → stops ≡ l → T (is_at (end_of rate e) stops) → NoneAt rate stops front → Plays on h.clip k e
    at_the_stop [] none b na = absurd (subst T (ap (is_at (end_of rate e)) none) b)
    at_the_stop (st ∷ rest) one b na =
        let same = (order.eq_not_lt (end_of rate e) s.stop (at_stop g stops refl (end_of rate e) b)).1 in
        plays_by (Passes s.stop) (up_past g) (reached (Passes s.stop) (up_past g) (hits_past g stops refl front st rest one na))
        (λ n. true≢false (sym n ∙ same)) same

    block_holds : Block rate on h.clip stops front e back
    block_holds = record {
      channels = channels_at g (Meets s.stop) (up_reach g) t met.state e back met.moment c;
      plays = λ b. let n = before_stop b in plays_by (Meets s.stop) (up_reach g) met (λ m. true≢false (sym m ∙ n)) (not_past g (time_of e.call) n);
      stands = λ b. stands_at g t met.state e back met.moment c on (suc k) (unswitched_block 128 h.clip.frames (lit< tt) g.long on k t before) (before_stop b);
      plays_at_stop = at_the_stop stops refl;
      zero_from_stop = λ d i D I b. zero_at g (Meets s.stop) (up_reach g) t met.state e back met.moment c d i D I (at_or_after g stops refl (instant (time_of e.call) rate i) b);
      ends_at_stop = λ b. over_at g t met.state e back met.moment c (at_or_after g stops refl (end_of rate e) b);
    }

  holds : Holds rate options es h.clip
  unfolding stepped_all
  holds = record {
    begins =
        subst (Stands rate on h.clip.frames 0) (sym (first_is rate options quiet f ok calls ty b))
        (stands_by g (λ z. ⊥) on 0 (begun (got rate options quiet f ok calls ty b).looped) x (tape_at 0) (λ p. p.past) (at_first (λ z. ⊥)).inv);
    each = block_holds;
  }

pub long_run_lem : LongRun
long_run_lem rate options quiet f ok calls ty h = holds rate options quiet f ok calls ty h
