-- All accepted calls from the first block on: the state before each of them beside the tape, and what each gave. Assumes nothing.
use mathlib.Core.Path.{◌≡◌, refl, sym, ap, ap₂, ◌∙◌, subst}
use mathlib.Core.Logic.{◌⊎◌, inl, inr, ⊎_elim}
use mathlib.Core.Bool.{Bool, true, false, not, ◌&&◌, true≢false, false≢true}
use mathlib.Core.List.{List, [], ◌∷◌, ◌++◌}
use Prim.Native.Nat.{ℕ, ◌+◌, ◌*◌, ◌≤◌, ◌<◌}
use native.Mathlib.Nat.{eq-or-lt_of_le}
use native.Mathlib.Omega.{arith}
use Rattle.std.proofs.Math.Bool.{and-false}
use borrow.Author.Tests.{le-ltb, lt-ltb, eq-eqb}
use lib.Dec.{T, lit<, lit≤}
use lib.ListN.{get_or}
use lib.Ieee.{Float, lt, le}
use Rattle.buffer.specs.Limits.{duration}
use Rattle.seconds.specs.Seconds.{never, one, block_end}
use Rattle.player.specs.declared.Player.{Player}
use Rattle.player.specs.declared.ControlMessage.TheVariants.{Start, Stop, Loop, LoopStart, LoopEnd}
use Rattle.tape.specs.Tape.{Head, Tape, Step, a_block, head_at, at_end, finished, stepped, stepped_all}
use Rattle.tape.proofs.Heads.{at}
use Rattle.tape.proofs.Laws.{goes, ended_step}
use Rattle.tape.proofs.Premise.{Premised, head_is, premised_loop, premised_block, fit_ends, stepped_on}
use Rattle.claims.specs.Calls.{Call, buffer, message, block, accepts, next, typed, Event, after, after_all, time_of, channels_by, output_by, channels_of, sample_of, is_ended, is_block_call, gathered}
use Rattle.claims.specs.LongRun.{Over, end_of}
use Rattle.claims.specs.LoopSwitch.{step_in, PlainStep, OnlySteps}
use Rattle.claims.proofs.Order as order
use Rattle.claims.proofs.Laws.{Time, end_mono}
use Rattle.claims.proofs.Position.{clip_not_none}
use Rattle.claims.proofs.States.{Setup, Ground, State, standing, silenced, Alive, plan_ended, start_by, plan_aligned, plan_between, carried, aligned_player, aligned_next, aligned_stops, cut_short, between_player, between_stops, switched, switch_player}
use Rattle.claims.proofs.Chain.{Link, Chain}
use Rattle.claims.proofs.Events.{Plain, plain, Taken, taken, gave}

-- ---- the stop that a player has: never, where none was sent
abbrev pub stop_of : List Float → Float
stop_of [] = never
stop_of (stop ∷ rest) = stop

-- ---- one of the calls: a block, or a loop message
pub data OneStep (samples : List ℕ) (c : Call) : Type 0 where
  plays : Plain samples c → OneStep samples c
  switches : (on : Bool) → c ≡ message (Loop on) → OneStep samples c

pub one_step : (samples : List ℕ) (c : Call) → PlainStep samples c → OneStep samples c
one_step samples (buffer channels frames rate s) h = absurd h
one_step samples (message (Start when offset duration)) h = absurd h
one_step samples (message (Stop when)) h = absurd h
one_step samples (message (Loop on)) h = switches on refl
one_step samples (message (LoopStart at)) h = absurd h
one_step samples (message (LoopEnd at)) h = absurd h
one_step samples (block out s time rate factor) h = plays (plain samples (block out s time rate factor) h)

-- ---- the state between two calls
-- The end of a block at or past the stop has the property X, which larger ends share.
abbrev pub Upward : (Float → Type 0) → Type 0
Upward X = (y z : Float) → X y → le y z ≡ true → X z

pub record Passed (s : Setup) (X : Float → Type 0) (x : State) : Type 0 where
  pub has_block : x.has_block ≡ true
  pub time : Time x.time
  pub past : X (block_end 128 x.time s.rate)

-- It goes on, at the tape's p; or it has ended: by the stop, at an exact fit, or with the tape.
pub data Inv (s : Setup) (R : ℕ) (X : Float → Type 0) (t : Tape) (x : State) : Type 0 where
  alive : Alive s R t.head.p x → x.looped ≡ t.looped → t.ended ≡ false → Inv s R X t x
  stopped : x.ended ≡ true → Passed s X x → Inv s R X t x
  fitted : x.ended ≡ true → t.exact_fit ≡ true → Inv s R X t x
  run_out : x.ended ≡ true → t.ended ≡ true → Inv s R X t x

-- The start is not after the next block: it was not after the last one, or the next one is the first.
pub record Begun (x : State) : Type 0 where
  pub has_block : x.has_block ≡ true
  pub time : Time x.time
  pub starts : x.ended ≡ false → le x.start x.time ≡ true

abbrev pub First : State → List Event → Type 0
First x [] = Unit {0}
First x (e ∷ es) = (is_block_call e.call ≡ true) × (le x.start (time_of e.call) ≡ true)

-- after a block
pub record BlockLeft (s : Setup) (R : ℕ) (X : Float → Type 0) (t : Tape) (x : State) (out samples : List ℕ) (time : Float) : Type 0 where
  pub state : State
  pub player : next (standing s x) (block out samples time one one) ≡ standing s state
  pub inv : Inv s R X (stepped 128 s.frames t a_block) state
  pub begun : Begun state
  pub at_time : state.time ≡ time
  pub stops : le s.stop (block_end 128 time s.rate) ≡ true → state.ended ≡ true
  pub keeps : x.ended ≡ true → state.ended ≡ true

module _ (g : Ground) where
  abbrev s : Setup
  s = g.setup

  abbrev R : ℕ
  R = g.units

  abbrev samples : List ℕ
  samples = g.samples

  -- an accepted block is later than the one before it
  later_time : (x : State) (time : Float) → x.has_block ≡ true → Time x.time → Time time → (x.has_block && le time x.time) ≡ false → lt x.time time ≡ true
  later_time x time b h k f = order.lt_of_not_le time x.time k.whole h.whole (sym (ap (λ (c : Bool). c && le time x.time) b) ∙ f)

  pub later_end : (x : State) (time : Float) → x.has_block ≡ true → Time x.time → Time time → (x.has_block && le time x.time) ≡ false → le (block_end 128 x.time s.rate) (block_end 128 time s.rate) ≡ true
  later_end x time b h k f = end_mono s.rate R g.value g.low g.high x.time h time k (later_time x time b h k f)

  -- ---- one block
  module _ (X : Float → Type 0) (up : Upward X) (t : Tape) (steps : List Step) (x : State) (out : List ℕ) (time : Float) (h : Taken s x out samples time)
      (pr : Premised 128 s.frames t (a_block ∷ steps)) (past : le s.stop (block_end 128 time s.rate) ≡ true → X (block_end 128 time s.rate)) where
    step_ended : x.ended ≡ true → Inv s R X (stepped 128 s.frames t a_block) (silenced x time) → BlockLeft s R X t x out samples time
    step_ended e i = record {
      state = silenced x time;
      player = (gave s x out samples time _ h (plan_ended s x time e)).player;
      inv = i;
      begun = record { has_block = refl; time = h.time; starts = λ (n : true ≡ false). absurd (true≢false n) };
      at_time = refl;
      stops = λ n. refl;
      keeps = λ n. refl;
    }

    step_alive : Alive s R t.head.p x → x.looped ≡ t.looped → t.ended ≡ false → le x.start time ≡ true → BlockLeft s R X t x out samples time
    unfolding carried cut_short
    step_alive a same going l = go (lt s.stop (block_end 128 time s.rate)) refl (le s.stop (block_end 128 time s.rate)) refl
      where
        p : ℕ
        p = t.head.p

        no_ended : x.ended ≡ true → ⊥
        no_ended e = true≢false (sym e ∙ a.going)

        reached : lt s.stop (block_end 128 time s.rate) ≡ true → le s.stop (block_end 128 time s.rate) ≡ true
        reached = order.lt-le s.stop (block_end 128 time s.rate)

        on : lt s.stop (block_end 128 time s.rate) ≡ false → next (standing s x) (block out samples time one one) ≡ standing s (carried g p x time a h.time l)
        on q = (gave s x out samples time _ h (plan_aligned g p x time a h.time l q)).player ∙ aligned_player g p x time a h.time l

        in_order : Begun (carried g p x time a h.time l)
        in_order = record { has_block = refl; time = h.time; starts = λ e. start_by x time h.time l }

        -- the tape after this block
        ahead : Head
        ahead = at_end s.frames (head_at s.frames x.looped (at p false) 128)

        tape_is : stepped 128 s.frames t a_block ≡ finished s.frames x.looped ahead
        tape_is =
            goes 128 s.frames t going
            ∙ ap₂ (λ (b : Bool) (g : Head). finished s.frames b (at_end s.frames (head_at s.frames b g 128))) (sym same) (head_is t pr.cleared)

        inside : ahead.p ≤ s.frames → (finished s.frames x.looped ahead).ended ≡ false
        inside m = ap (λ (b : Bool). not x.looped && b) (le-ltb s.frames ahead.p m) ∙ and-false (not x.looped)

        over : (carried g p x time a h.time l).ended ≡ true → x.looped ≡ false → s.frames ≤ ahead.p → Inv s R X (finished s.frames x.looped ahead) (carried g p x time a h.time l)
        over e off m =
            ⊎_elim (λ (n : s.frames ≡ ahead.p). fitted e (ap₂ (λ (b c : Bool). not b && c) off (eq-eqb ahead.p s.frames (sym n))))
            (λ (n : s.frames < ahead.p). run_out e (ap₂ (λ (b c : Bool). not b && c) off (lt-ltb s.frames ahead.p n))) (eq-or-lt_of_le m)

        after_block : le s.stop (block_end 128 time s.rate) ≡ false → Inv s R X (stepped 128 s.frames t a_block) (carried g p x time a h.time l)
        after_block q =
            subst (λ (u : Tape). Inv s R X u (carried g p x time a h.time l)) (sym tape_is)
            (⊎_elim (λ (b : Alive s R ahead.p (carried g p x time a h.time l)). alive b refl (inside b.inside))
            (λ (b : ((carried g p x time a h.time l).ended ≡ true) × (x.looped ≡ false) × (s.frames ≤ ahead.p)). over b.0 b.1 b.2)
            (aligned_next g p x time a h.time l q))

        go : (p : Bool) → lt s.stop (block_end 128 time s.rate) ≡ p → (q : Bool) → le s.stop (block_end 128 time s.rate) ≡ q → BlockLeft s R X t x out samples time
        go true q r Q =
            let z = between_stops g x time (reached q) in
            record {
              state = cut_short g x time;
              player = (gave s x out samples time _ h (plan_between g p x time a h.time l q)).player ∙ between_player g x time;
              inv = stopped z (record { has_block = refl; time = h.time; past = past (reached q) });
              begun = record { has_block = refl; time = h.time; starts = λ e. absurd (true≢false (sym z ∙ e)) };
              at_time = refl;
              stops = λ e. z;
              keeps = λ e. absurd (no_ended e);
            }
        go false q true Q =
            let z = aligned_stops g p x time a h.time l Q in
            record {
              state = carried g p x time a h.time l;
              player = on q;
              inv = stopped z (record { has_block = refl; time = h.time; past = past Q });
              begun = in_order;
              at_time = refl;
              stops = λ e. z;
              keeps = λ e. absurd (no_ended e);
            }
        go false q false Q = record {
          state = carried g p x time a h.time l;
          player = on q;
          inv = after_block Q;
          begun = in_order;
          at_time = refl;
          stops = λ e. absurd (true≢false (sym e ∙ Q));
          keeps = λ e. absurd (no_ended e);
        }

    pub step : Inv s R X t x → (x.ended ≡ false → le x.start time ≡ true) → BlockLeft s R X t x out samples time
    step (alive a same going) l = step_alive a same going (l a.going)
    step (stopped e p) l =
        let m = later_end x time p.has_block p.time h.time h.fresh in
        step_ended e (stopped refl (record { has_block = refl; time = h.time; past = up _ _ p.past m }))
    step (fitted e f) l = step_ended e (run_out refl (fit_ends 128 s.frames t steps pr f (lit< tt)))
    step (run_out e f) l = step_ended e (run_out refl (ended_step 128 s.frames t a_block f))

  -- ---- an ended player gives zeros, and stays ended
  pub ended_gives : (x : State) (out : List ℕ) (time : Float) → Taken s x out samples time → x.ended ≡ true
      → (channels_by (standing s x) (block out samples time one one) ≡ 1)
      × ((c i : ℕ) → c < channels_by (standing s x) (block out samples time one one) → i < 128 → get_or (output_by (standing s x) (block out samples time one one)) (128 * c + i) 0 ≡ 0)
  ended_gives x out time h e =
      let g = gave s x out samples time _ h (plan_ended s x time e) in
      (g.channels, λ c i C I. g.sample (lit≤ tt) c i (subst (λ (n : ℕ). c < n) g.channels C) I)

  -- ---- a link of the chain
  pub taken_of : (x : State) (e : Event) → Link (standing s x) e → (c : Plain samples e.call) → Taken s x c.out samples c.time
  taken_of x e l c = taken s x c.out samples c.time (ap (accepts (standing s x)) (sym c.is) ∙ l.taken) (subst (λ (d : Call). T (typed d)) c.is l.fits)

  -- ---- the calls to come
  abbrev pub Ordered : State → List Event → Type 0
  Ordered x es = Begun x ⊎ First x es

  pub record Moment (X : Float → Type 0) (t : Tape) (x : State) (es : List Event) : Type 0 where
    pub inv : Inv s R X t x
    pub chain : Chain (standing s x) es
    pub only : OnlySteps samples es
    pub ordered : Ordered x es
    pub premised : Premised 128 s.frames t (gathered step_in es)

  pub start_before : (x : State) (e : Event) (es : List Event) (c : Plain samples e.call) → Taken s x c.out samples c.time → Ordered x (e ∷ es) → x.ended ≡ false → le x.start c.time ≡ true
  start_before x e es c h (inl b) n = order.lt-le x.start c.time (order.le_lt_trans x.start x.time c.time (b.starts n) (later_time x c.time b.has_block b.time h.time h.fresh))
  start_before x e es c h (inr f) n = ap (λ (d : Call). le x.start (time_of d)) (sym c.is) ∙ f.1

  pub block_steps : (e : Event) (es : List Event) → Plain samples e.call → gathered step_in (e ∷ es) ≡ a_block ∷ gathered step_in es
  block_steps e es c = ap (λ (d : Call). step_in d ++ gathered step_in es) c.is

  -- ---- a block
  pub on_block : (X : Float → Type 0) → Upward X → (t : Tape) (x : State) (e : Event) (es : List Event) (c : Plain samples e.call) → Moment X t x (e ∷ es) → (le s.stop (end_of s.rate e) ≡ true → X (end_of s.rate e))
      → BlockLeft s R X t x c.out samples c.time
  on_block X up t x e es c m hit =
      let h = taken_of x e m.chain.0 c in
      step X up t (gathered step_in es) x c.out c.time h (subst (Premised 128 s.frames t) (block_steps e es c) m.premised)
      (subst (λ (d : Call). le s.stop (block_end 128 (time_of d) s.rate) ≡ true → X (block_end 128 (time_of d) s.rate)) c.is hit) m.inv (start_before x e es c h m.ordered)

  -- ---- one call more
  pub record Went (X : Float → Type 0) (t : Tape) (x : State) (e : Event) (es : List Event) : Type 0 where
    pub state : State
    pub player : next (standing s x) e.call ≡ standing s state
    pub moment : Moment X (stepped_all 128 s.frames t (step_in e.call)) state es
    pub keeps : x.ended ≡ true → state.ended ≡ true

  went_block : (X : Float → Type 0) → Upward X → (t : Tape) (x : State) (e : Event) (es : List Event) (c : Plain samples e.call) → Moment X t x (e ∷ es) → (le s.stop (end_of s.rate e) ≡ true → X (end_of s.rate e)) → Went X t x e es
  unfolding stepped_all
  went_block X up t x e es c m hit =
      let g = on_block X up t x e es c m hit in
      let here : next (standing s x) e.call ≡ standing s g.state = ap (next (standing s x)) c.is ∙ g.player in
      record {
        state = g.state;
        player = here;
        moment =
            subst (λ (d : Call). Moment X (stepped_all 128 s.frames t (step_in d)) g.state es) (sym c.is) (record {
              inv = g.inv;
              chain = subst (λ (p : Player). Chain p es) here m.chain.1;
              only = m.only.1;
              ordered = inl g.begun;
              premised = premised_block 128 s.frames t (gathered step_in es) (subst (Premised 128 s.frames t) (block_steps e es c) m.premised);
            });
        keeps = g.keeps;
      }

  went_loop : (X : Float → Type 0) (t : Tape) (x : State) (e : Event) (es : List Event) (on : Bool) → e.call ≡ message (Loop on) → Moment X t x (e ∷ es) → Went X t x e es
  unfolding stepped_all stepped
  went_loop X t x e es on is m =
      let here : next (standing s x) e.call ≡ standing s (switched x on) = ap (next (standing s x)) is ∙ switch_player s x on (clip_not_none s.rate R g.value g.low g.high s.frames g.long g.short).1 in
      record {
        state = switched x on;
        player = here;
        moment =
            subst (λ (d : Call). Moment X (stepped_all 128 s.frames t (step_in d)) (switched x on) es) (sym is) (record {
              inv = inv_on m.inv;
              chain = subst (λ (p : Player). Chain p es) here m.chain.1;
              only = m.only.1;
              ordered = ⊎_elim (λ (b : Begun x). inl (record { has_block = b.has_block; time = b.time; starts = b.starts })) (λ (f : First x (e ∷ es)). absurd (false≢true (ap is_block_call (sym is) ∙ f.0))) m.ordered;
              premised = premised_loop 128 s.frames t on (gathered step_in es) (subst (Premised 128 s.frames t) (ap (λ (d : Call). step_in d ++ gathered step_in es) is) m.premised);
            });
        keeps = λ n. n;
      }
    where
      inv_on : Inv s R X t x → Inv s R X (record { looped = on; head = t.head; exact_fit = t.exact_fit; ended = t.ended }) (switched x on)
      inv_on (alive a same going) = alive (record { going = a.going; ready = a.ready; elapsed = a.elapsed; inside = a.inside; place = a.place }) refl going
      inv_on (stopped e p) = stopped e (record { has_block = p.has_block; time = p.time; past = p.past })
      inv_on (fitted e f) = fitted e f
      inv_on (run_out e f) = run_out e f

  pub went : (X : Float → Type 0) → Upward X → (t : Tape) (x : State) (e : Event) (es : List Event) → Moment X t x (e ∷ es) → (le s.stop (end_of s.rate e) ≡ true → X (end_of s.rate e)) → Went X t x e es
  went X up t x e es m hit = go (one_step samples e.call m.only.0)
    where
      go : OneStep samples e.call → Went X t x e es
      go (plays c) = went_block X up t x e es c m hit
      go (switches on is) = went_loop X t x e es on is m

  -- ---- the state after a front part of the list
  abbrev pub Hits : (Float → Type 0) → List Event → Type 0
  Hits X [] = Unit {0}
  Hits X (f ∷ fs) = (le s.stop (end_of s.rate f) ≡ true → X (end_of s.rate f)) × Hits X fs

  pub record Reached (X : Float → Type 0) (t : Tape) (p : Player) (es : List Event) : Type 0 where
    pub state : State
    pub player : p ≡ standing s state
    pub moment : Moment X t state es

  pub reach : (X : Float → Type 0) → Upward X → (front es : List Event) (t : Tape) (x : State) → Moment X t x (front ++ es) → Hits X front
      → Reached X (stepped_all 128 s.frames t (gathered step_in front)) (after_all (standing s x) front) es
  unfolding stepped_all
  reach X up [] es t x m hits = record { state = x; player = refl; moment = m }
  reach X up (f ∷ front) es t x m hits =
      let w = went X up t x f (front ++ es) m hits.0 in
      let u = stepped_all 128 s.frames t (step_in f.call) in
      let here : after f ≡ standing s w.state = ap (λ (p : Player). next p f.call) m.chain.0.got ∙ w.player in
      rw (stepped_on 128 s.frames t (step_in f.call) (gathered step_in front), here) (reach X up front es u w.state w.moment hits.1)

  -- ---- after the end
  record Gone (x : State) (f : Event) : Type 0 where
    state : State
    player : next (standing s x) f.call ≡ standing s state
    ended : state.ended ≡ true
    gives : (is_ended (after f) ≡ true) × ((d i : ℕ) → d < channels_of f → i < 128 → sample_of f d i ≡ 0)

  gone_block : (x : State) (f : Event) (c : Plain samples f.call) → Link (standing s x) f → x.ended ≡ true → Gone x f
  gone_block x f c k e =
      let h = taken_of x f k c in
      let g = ended_gives x c.out c.time h e in
      let here : next (standing s x) f.call ≡ standing s (silenced x c.time) = ap (next (standing s x)) c.is ∙ (gave s x c.out samples c.time _ h (plan_ended s x c.time e)).player in
      let same : f ≡ record { before = standing s x; call = block c.out samples c.time one one } = ap₂ (λ (p : Player) (d : Call). record { before = p; call = d }) k.got c.is in
      record {
        state = silenced x c.time;
        player = here;
        ended = refl;
        gives = subst (λ (f' : Event). (is_ended (after f') ≡ true) × ((d i : ℕ) → d < channels_of f' → i < 128 → sample_of f' d i ≡ 0)) (sym same) (ap is_ended (sym (ap (next (standing s x)) c.is) ∙ here), g.1);
      }

  gone_loop : (x : State) (f : Event) (on : Bool) → f.call ≡ message (Loop on) → Link (standing s x) f → x.ended ≡ true → Gone x f
  gone_loop x f on is k e =
      let here : next (standing s x) f.call ≡ standing s (switched x on) = ap (next (standing s x)) is ∙ switch_player s x on (clip_not_none s.rate R g.value g.low g.high s.frames g.long g.short).1 in
      record {
        state = switched x on;
        player = here;
        ended = e;
        gives = (ap (λ (p : Player). is_ended (next p f.call)) k.got ∙ ap is_ended here ∙ e, λ d i D I. absurd (none d (subst (λ (n : ℕ). d < n) (ap (channels_by f.before) is) D)));
      }
    where
      none : (d : ℕ) → d < 0 → ⊥
      none d h = omega arith

  gone : (x : State) (f : Event) → OneStep samples f.call → Link (standing s x) f → x.ended ≡ true → Gone x f
  gone x f (plays c) k e = gone_block x f c k e
  gone x f (switches on is) k e = gone_loop x f on is k e

  pub over_all : (x : State) (es : List Event) → Chain (standing s x) es → OnlySteps samples es → x.ended ≡ true → Over es
  over_all x [] ch ob e = tt
  over_all x (f ∷ fs) ch ob e =
      let g = gone x f (one_step samples f.call ob.0) ch.0 e in
      (g.gives, over_all g.state fs (subst (λ (p : Player). Chain p fs) g.player ch.1) ob.1 g.ended)
