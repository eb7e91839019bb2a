-- The statement about the loop switched during playback: every moment of the list beside the tape. Assumes nothing.
use mathlib.Core.Path.{◌≡◌, refl, sym, ap, ◌∙◌, subst}
use mathlib.Core.Bool.{Bool, true, false, cond, true≢false, false≢true}
use mathlib.Core.List.{List, [], ◌∷◌, ◌++◌}
use Prim.Native.Nat.{ℕ, ◌≤◌}
use native.Mathlib.Omega.{arith}
use lib.Dec.{T}
use lib.ListN.{length}
use lib.Ieee.{Float, binary32, fits, le}
use Rattle.buffer.specs.Limits.{valid_rate}
use Rattle.seconds.specs.Seconds.{float_zero, block_end}
use Rattle.player.specs.Record.{fresh_with}
use Rattle.player.specs.declared.Player.{Player}
use Rattle.player.specs.declared.PlayerOptions.{PlayerOptions}
use Rattle.player.specs.declared.ControlMessage.TheVariants.{Start, Stop, Loop, LoopStart, LoopEnd}
use Rattle.std.proofs.lemmas.List.{append_assoc}
use Rattle.tape.specs.Tape as tape
use Rattle.tape.specs.Tape.{Tape, Step, a_block, stepped, stepped_all, stays_off}
use Rattle.tape.proofs.Premise.{stepped_on, off_on}
use Rattle.claims.specs.Calls.{Call, buffer, message, block, all_typed, next, Event, accepted, after, after_all, time_of, is_ended, is_block_call, opening, playing, stop_in, point_in, gathered}
use Rattle.claims.specs.LongRun.{Premises, Over}
use Rattle.claims.specs.LoopSwitch.{step_in, tape_after, SwitchPremises, Beside, Follows, Switched, LoopSwitch}
use Rattle.claims.proofs.Laws.{Time, end_under}
use Rattle.claims.proofs.Chain.{Chain, NoBlocks, chain, no_blocks}
use Rattle.claims.proofs.Opening.{Received, opened, nothing, fresh_is, receive, receive_all, open_all, front_none}
use Rattle.claims.proofs.Position.{frames_zero, reports}
use Rattle.claims.proofs.Begin.{loops, some_seconds, Begins, got, first, first_is, ground, tape_is, moment}
use Rattle.claims.proofs.Unswitched.{begun, no_switch}
use Rattle.claims.proofs.States.{Setup, Ground, State, standing}
use Rattle.claims.proofs.Run.{stop_of, OneStep, plays, switches, one_step, Passed, Inv, alive, stopped, fitted, run_out, Moment, Reached, reach, over_all}
use Rattle.claims.proofs.Events.{Plain}
use Rattle.claims.proofs.Conclude.{Meets, reports_alive, channels_at, frames_at, hits_reach, up_reach, not_past, time_at, fit_at}
use Rattle.claims.proofs.Whole.{only_steps_of, steps_of, off_blocks}

-- ---- lists in two parts
gathered_on : {A : Type 0} (held : Call → List A) (xs ys : List Event) → gathered held (xs ++ ys) ≡ gathered held xs ++ gathered held ys
gathered_on held [] ys = refl
gathered_on held (e ∷ xs) ys = ap (λ (r : List _). held e.call ++ r) (gathered_on held xs ys) ∙ sym (append_assoc (held e.call) (gathered held xs) (gathered held ys))

after_on : (p : Player) (xs ys : List Event) → after_all p (xs ++ ys) ≡ after_all (after_all p xs) ys
after_on p [] ys = refl
after_on p (e ∷ xs) ys = after_on (after e) xs ys

front_chain : (p : Player) (xs ys : List Event) → Chain p (xs ++ ys) → Chain p xs
front_chain p [] ys h = tt
front_chain p (e ∷ xs) ys h = (h.0, front_chain (next p e.call) xs ys h.1)

-- a front part lies before the first block, or holds all that does
record Late (front back : List Event) : Type 0 where
  more : List Event
  front_is : front ≡ opening (front ++ back) ++ more
  playing_is : playing (front ++ back) ≡ more ++ back

data Parted (front back : List Event) : Type 0 where
  early : NoBlocks front → Parted front back
  late : Late front back → Parted front back

one_on : (f : Event) (front back : List Event) → is_block_call f.call ≡ false → Late front back → Late (f ∷ front) back
unfolding opening playing
one_on f front back n l = record {
  more = l.more;
  front_is = ap (λ (r : List Event). f ∷ r) l.front_is ∙ ap (λ (b : Bool). cond b [] (f ∷ opening (front ++ back)) ++ l.more) (sym n);
  playing_is = ap (λ (b : Bool). cond b (f ∷ (front ++ back)) (playing (front ++ back))) n ∙ l.playing_is;
}

at_block : (f : Event) (front back : List Event) → is_block_call f.call ≡ true → Late (f ∷ front) back
unfolding opening playing
at_block f front back y = record {
  more = f ∷ front;
  front_is = ap (λ (b : Bool). cond b [] (f ∷ opening (front ++ back)) ++ (f ∷ front)) (sym y);
  playing_is = ap (λ (b : Bool). cond b (f ∷ (front ++ back)) (playing (front ++ back))) y;
}

parted : (front back : List Event) → Parted front back
parted [] back = early tt
parted (f ∷ front) back = go (is_block_call f.call) refl (parted front back)
  where
    go : (b : Bool) → is_block_call f.call ≡ b → Parted front back → Parted (f ∷ front) back
    go true y rest = late (at_block f front back y)
    go false n (early h) = early (n, h)
    go false n (late l) = late (one_on f front back n l)

before_block : (front : List Event) (e : Event) (back : List Event) → is_block_call e.call ≡ true → Late front (e ∷ back)
unfolding opening playing
before_block [] e back y = record {
  more = [];
  front_is = ap (λ (b : Bool). cond b [] (e ∷ opening back) ++ []) (sym y);
  playing_is = ap (λ (b : Bool). cond b (e ∷ back) (playing back)) y;
}
before_block (f ∷ front) e back y = go (is_block_call f.call) refl (before_block front e back y)
  where
    go : (b : Bool) → is_block_call f.call ≡ b → Late front (e ∷ back) → Late (f ∷ front) (e ∷ back)
    go true z rest = at_block f front (e ∷ back) z
    go false n rest = one_on f front (e ∷ back) n rest

early_opening : (front back : List Event) → NoBlocks front → opening (front ++ back) ≡ front ++ opening back
unfolding opening
early_opening [] back h = refl
early_opening (f ∷ front) back h = ap (λ (b : Bool). cond b [] (f ∷ opening (front ++ back))) h.0 ∙ ap (λ (r : List Event). f ∷ r) (early_opening front back h.1)

whole_list : (es : List Event) → es ≡ opening es ++ playing es
unfolding opening playing
whole_list [] = refl
whole_list (e ∷ es) = go (is_block_call e.call) (whole_list es)
  where
    go : (b : Bool) → es ≡ opening es ++ playing es → e ∷ es ≡ cond b [] (e ∷ opening es) ++ cond b (e ∷ es) (playing es)
    go true h = refl
    go false h = ap (λ (r : List Event). e ∷ r) h

-- ---- the premises, put to use
abbrev begins_by : (rate : Float) (es : List Event) → SwitchPremises rate es → Begins rate es
begins_by rate es h = record {
  clip = h.clip;
  start = h.start;
  one_clip = h.one_clip;
  own_rate = h.own_rate;
  one_start = h.one_start;
  in_time = h.in_time;
  no_offset = h.no_offset;
  no_duration = h.no_duration;
  few_stops = float_zero (gathered stop_in (opening es)) h.no_stop;
  no_points = h.no_points;
}
  where
    float_zero : (l : List Float) → l ≡ [] → length l ≤ 1
    float_zero l e = rw e (omega arith)

module _ (rate : Float) (options : PlayerOptions) (quiet : options.ramp ≡ 0) (f : T (fits binary32 rate)) (ok : T (valid_rate rate)) (calls : List Call) (ty : T (all_typed calls)) (h : SwitchPremises rate (accepted (fresh_with rate options) calls)) where
  abbrev es : List Event
  es = accepted (fresh_with rate options) calls

  abbrev b : Begins rate es
  b = begins_by rate es h

  abbrev g : Ground
  g = ground rate options quiet f ok calls ty b

  abbrev s : Setup
  s = g.setup

  abbrev x : State
  x = first rate options quiet f ok calls ty b

  -- the tape at the first block
  abbrev t : Tape
  t = begun (got rate options quiet f ok calls ty b).looped

  opening_tape : tape_after h.clip.frames (opening es) ≡ t
  opening_tape = tape_is rate options quiet f ok calls ty b 128

  tape_parts : (front : List Event) → tape_after h.clip.frames (opening es ++ front) ≡ stepped_all 128 h.clip.frames t (gathered step_in front)
  tape_parts front =
      ap (stepped_all 128 h.clip.frames tape.fresh) (gathered_on step_in (opening es) front)
      ∙ stepped_on 128 h.clip.frames tape.fresh (gathered step_in (opening es)) (gathered step_in front)
      ∙ ap (λ (u : Tape). stepped_all 128 h.clip.frames u (gathered step_in front)) opening_tape

  still_off : T (stays_off 128 h.clip.frames t (gathered step_in (playing es)))
  still_off =
      subst (λ (u : Tape). T (stays_off 128 h.clip.frames u (gathered step_in (playing es)))) opening_tape
      (off_on 128 h.clip.frames tape.fresh (gathered step_in (opening es)) (gathered step_in (playing es))
      (subst (λ (ts : List Step). T (stays_off 128 h.clip.frames tape.fresh ts)) (ap (gathered step_in) (whole_list es) ∙ gathered_on step_in (opening es) (playing es)) h.stays_off))

  abbrev At : Tape → State → List Event → Type 0
  At u z rest = Moment g (Meets s.stop) u z rest

  at_first : At t x (playing es)
  at_first = moment rate options quiet f ok calls ty b (Meets s.stop) h.only_steps still_off

  -- no stop was sent
  no_stop : (time : Float) → Time time → le s.stop (block_end 128 time rate) ≡ false
  no_stop time k = ap (λ (l : List Float). le (stop_of l) (block_end 128 time rate)) h.no_stop ∙ end_under rate g.units g.value g.low g.high time k

  not_passed : (z : State) → Passed s (Meets s.stop) z → ⊥
  not_passed z p = true≢false (sym p.past ∙ no_stop z.time p.time)

  -- ---- after a front part that holds the opening
  reached : (front back : List Event) → es ≡ front ++ back → Late front back → Reached g (Meets s.stop) (tape_after h.clip.frames front) (after_all (fresh_with rate options) front) back
  reached front back split l =
      let is : front ≡ opening es ++ l.more = l.front_is ∙ ap (λ (r : List Event). opening r ++ l.more) (sym split) in
      let rest : playing es ≡ l.more ++ back = ap playing split ∙ l.playing_is in
      let r = reach g (Meets s.stop) (up_reach g) l.more back t x (subst (At t x) rest at_first) (hits_reach g l.more) in
      let tape_there : stepped_all 128 h.clip.frames t (gathered step_in l.more) ≡ tape_after h.clip.frames front = sym (ap (tape_after h.clip.frames) is ∙ tape_parts l.more) in
      let player_there : after_all (standing s x) l.more ≡ after_all (fresh_with rate options) front =
      sym (ap (after_all (fresh_with rate options)) is ∙ after_on (fresh_with rate options) (opening es) l.more ∙ ap (λ (p : Player). after_all p l.more) (first_is rate options quiet f ok calls ty b)) in
      subst (λ (u : Tape). Reached g (Meets s.stop) u (after_all (fresh_with rate options) front) back) tape_there
      (subst (λ (p : Player). Reached g (Meets s.stop) (stepped_all 128 h.clip.frames t (gathered step_in l.more)) p back) player_there r)

  beside_state : (u : Tape) (z : State) → Inv s g.units (Meets s.stop) u z → Beside rate u (standing s z)
  beside_state u z (alive a same on) = record {
    has_ended = λ e. absurd (true≢false (sym e ∙ on));
    not_before = λ e n. a.going;
    position = λ e. reports_alive g u.head.p z a;
  }
  beside_state u z (stopped e p) = absurd (not_passed z p)
  beside_state u z (fitted e k) = record { has_ended = λ n. e; not_before = λ n m. absurd (true≢false (sym k ∙ m)); position = λ n. absurd (true≢false (sym e ∙ n)) }
  beside_state u z (run_out e k) = record { has_ended = λ n. e; not_before = λ n m. absurd (true≢false (sym k ∙ n)); position = λ n. absurd (true≢false (sym e ∙ n)) }

  -- ---- before the first block
  early_player : (front back : List Event) → es ≡ front ++ back → NoBlocks front → after_all (fresh_with rate options) front ≡ opened rate options (receive_all nothing front)
  early_player front back split nb =
      let points : gathered point_in front ++ gathered point_in (opening back) ≡ [] =
      sym (gathered_on point_in front (opening back)) ∙ ap (gathered point_in) (sym (early_opening front back nb) ∙ ap opening (sym split)) ∙ h.no_points in
      (open_all some_seconds rate options nothing (fresh_with rate options) front (fresh_is rate options) (λ (e : false ≡ true). absurd (false≢true e))
      (front_chain (fresh_with rate options) front back (subst (Chain (fresh_with rate options)) split (chain (fresh_with rate options) calls ty))) nb (front_none (gathered point_in front) (gathered point_in (opening back)) points)).0

  beside_opened : (a : Received) → Beside rate (begun a.looped) (opened rate options a)
  beside_opened a = record {
    has_ended = λ e. absurd (false≢true e);
    not_before = λ e n. refl;
    position = λ e. reports rate g.units g.value g.low g.high float_zero 0 0 (frames_zero rate g.units) (omega arith);
  }

  beside_lem : (front back : List Event) → es ≡ front ++ back → Beside rate (tape_after h.clip.frames front) (after_all (fresh_with rate options) front)
  beside_lem front back split = go (parted front back)
    where
      go : Parted front back → Beside rate (tape_after h.clip.frames front) (after_all (fresh_with rate options) front)
      go (early nb) =
          subst (λ (u : Tape). Beside rate u (after_all (fresh_with rate options) front)) (sym (loops 128 h.clip.frames nothing front nb))
          (subst (λ (p : Player). Beside rate (begun (receive_all nothing front).looped) p) (sym (early_player front back split nb)) (beside_opened (receive_all nothing front)))
      go (late l) =
          let r = reached front back split l in
          subst (λ (p : Player). Beside rate (tape_after h.clip.frames front) p) (sym r.player) (beside_state (tape_after h.clip.frames front) r.state r.moment.inv)

  -- ---- a block
  is_plain : (e : Event) → OneStep h.clip.samples e.call → is_block_call e.call ≡ true → Plain h.clip.samples e.call
  is_plain e (plays c) k = c
  is_plain e (switches on is) k = absurd (false≢true (sym (ap is_block_call is) ∙ k))

  follows_lem : (front : List Event) (e : Event) (back : List Event) → es ≡ front ++ (e ∷ back) → is_block_call e.call ≡ true → Follows h.clip (tape_after h.clip.frames front) e
  follows_lem front e back split k =
      let u = tape_after h.clip.frames front in
      let r = reached front (e ∷ back) split (before_block front e back k) in
      let c = is_plain e (one_step h.clip.samples e.call r.moment.only.0) k in
      let time = time_at g (Meets s.stop) (up_reach g) u r.state e back r.moment c in
      let n = no_stop (time_of e.call) time in
      record {
        channels = channels_at g (Meets s.stop) (up_reach g) u r.state e back r.moment c;
        plays = frames_at g (Meets s.stop) (up_reach g) u r.state e back r.moment c (λ m. true≢false (sym m ∙ n)) (not_past g (time_of e.call) n);
        after_fit = fit_at g u r.state e back r.moment c;
      }

  over_lem : (front back : List Event) → es ≡ front ++ back → is_ended (after_all (fresh_with rate options) front) ≡ true → Over back
  over_lem front back split d = go (parted front back)
    where
      go : Parted front back → Over back
      go (early nb) = absurd (false≢true (sym (ap is_ended (early_player front back split nb)) ∙ d))
      go (late l) =
          let r = reached front back split l in
          over_all g r.state back r.moment.chain r.moment.only (sym (ap is_ended r.player) ∙ d)

  pub switched_lem : Switched rate options es h.clip
  switched_lem = record { beside = beside_lem; follows = follows_lem; over = over_lem }

-- ---- a list of the long run without a stop
off_one : (n l : ℕ) (a : Received) (c : Call) (rest : List Step) → is_block_call c ≡ false → T (stays_off n l (begun (receive a c).looped) rest) → T (stays_off n l (begun a.looped) (step_in c ++ rest))
unfolding stays_off stepped
off_one n l a (buffer channels frames rate samples) rest k h = h
off_one n l a (message (Start when offset duration)) rest k h = h
off_one n l a (message (Stop when)) rest k h = h
off_one n l a (message (Loop on)) rest k h = h
off_one n l a (message (LoopStart at)) rest k h = h
off_one n l a (message (LoopEnd at)) rest k h = h
off_one n l a (block out samples time rate factor) rest k h = absurd (true≢false k)

off_loops : (n l : ℕ) (a : Received) (es : List Event) (rest : List Step) → NoBlocks es → T (stays_off n l (begun (receive_all a es).looped) rest) → T (stays_off n l (begun a.looped) (gathered step_in es ++ rest))
off_loops n l a [] rest nb h = h
off_loops n l a (e ∷ es) rest nb h =
    subst (λ (ts : List Step). T (stays_off n l (begun a.looped) ts)) (sym (append_assoc (step_in e.call) (gathered step_in es) rest))
    (off_one n l a e.call (gathered step_in es ++ rest) nb.0 (off_loops n l (receive a e.call) es rest nb.1 h))

older_lem : (rate : Float) (options : PlayerOptions) (calls : List Call) (h : Premises rate (accepted (fresh_with rate options) calls)) → gathered stop_in (opening (accepted (fresh_with rate options) calls)) ≡ [] → SwitchPremises rate (accepted (fresh_with rate options) calls)
older_lem rate options calls h float_zero =
    let es = accepted (fresh_with rate options) calls in
    let l = h.clip.frames in
    let blocks : T (stays_off 128 l (begun (receive_all nothing (opening es)).looped) (gathered step_in (playing es))) =
    subst (λ (ts : List Step). T (stays_off 128 l (begun (receive_all nothing (opening es)).looped) ts)) (sym (steps_of h.clip.samples (playing es) h.only_blocks)) (off_blocks 128 l (length (playing es)) _) in
    record {
      clip = h.clip;
      start = h.start;
      one_clip = h.one_clip;
      own_rate = h.own_rate;
      one_start = h.one_start;
      in_time = h.in_time;
      no_offset = h.no_offset;
      no_duration = h.no_duration;
      no_stop = float_zero;
      no_points = h.no_points;
      only_steps = only_steps_of h.clip.samples (playing es) h.only_blocks;
      stays_off =
          subst (λ (ts : List Step). T (stays_off 128 l tape.fresh ts)) (sym (ap (gathered step_in) (whole_list es) ∙ gathered_on step_in (opening es) (playing es)))
          (off_loops 128 l nothing (opening es) (gathered step_in (playing es)) (no_blocks es) blocks);
    }

pub loop_switch_lem : LoopSwitch
loop_switch_lem = record { switched = switched_lem; older = older_lem; same_rule = no_switch }
