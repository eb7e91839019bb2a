-- From the state before a block to what the statements say of the block: its channels, its samples, and the player after it. Assumes nothing.
use mathlib.Core.Path.{◌≡◌, refl, sym, ap, ap₂, ◌∙◌, subst}
use mathlib.Core.Logic.{⊎_elim}
use mathlib.Core.Bool.{Bool, true, false, cond, true≢false}
use mathlib.Core.List.{List, [], ◌∷◌}
use Prim.Native.Nat.{ℕ, ◌+◌, ◌*◌, ◌≤◌, ◌<◌}
use native.Mathlib.Nat.{le_trans}
use native.Mathlib.Omega.{arith}
use lib.Dec.{T, lit<, lit≤}
use lib.Ieee.{Float, lt, le, eq}
use lib.Ieee.Bits.{is_true}
use Rattle.seconds.specs.Seconds.{one, block_end, instant}
use Rattle.buffer.specs.Channels.{channel}
use Rattle.player.specs.declared.Player.{Player}
use Rattle.std.specs.Prelude.{None}
use Rattle.tape.specs.Tape.{Head, Tape, a_block, played, head_at, stepped, frame_at, bits_of}
use Rattle.tape.proofs.Laws.{frame_going, no_frames}
use Rattle.tape.proofs.Premise.{Premised, head_is, fit_frames, fit_ends}
use Rattle.claims.specs.Calls.{Call, block, next, Event, after, time_of, channels_of, sample_of, is_ended, gathered}
use Rattle.claims.specs.LongRun.{is_before, is_at, reaches, blocks_of, Reports, Stands, Over, end_of, NoneAt}
use Rattle.claims.specs.LoopSwitch.{step_in}
use Rattle.claims.proofs.Order as order
use Rattle.claims.proofs.Laws.{Time, end_under, instant_before}
use Rattle.claims.proofs.Position.{reports}
use Rattle.claims.proofs.Step.{few_steps}
use Rattle.claims.proofs.Unswitched.{Unswitched}
use Rattle.claims.proofs.States.{Setup, Ground, State, standing, Alive, plan_aligned, plan_between, aligned_channels, aligned_sample_lem, aligned_bits, between_channels, between_zero}
use Rattle.claims.proofs.Chain.{Chain}
use Rattle.claims.proofs.Events.{Plain, Taken, gave}
use Rattle.claims.proofs.Run.{stop_of, Upward, Passed, Inv, alive, stopped, fitted, run_out, BlockLeft, later_end, ended_gives, taken_of, Moment, start_before, block_steps, on_block, Hits, over_all}

-- an end that reaches the stop, and one past it
abbrev pub Meets : Float → Float → Type 0
Meets stop y = le stop y ≡ true

abbrev pub Passes : Float → Float → Type 0
Passes stop y = lt stop y ≡ true

-- blocks counted against frames
whole_blocks : (l k : ℕ) → l ≤ 128 * k → blocks_of 128 l ≤ k
whole_blocks l k h = omega arith

few_blocks : (l k : ℕ) → 128 * k ≤ l → k ≤ blocks_of 128 l
few_blocks l k h = omega arith

module _ (g : Ground) where
  abbrev s : Setup
  s = g.setup

  abbrev R : ℕ
  R = g.units

  abbrev samples : List ℕ
  samples = g.samples

  -- ---- the position of a player that goes on
  pub reports_alive : (p : ℕ) (x : State) → Alive s R p x → Reports s.rate x.position p
  reports_alive p x a = reports s.rate R g.value g.low g.high x.position a.place.steps p a.place.near (le_trans (few_steps s.rate R g.value g.low g.high s.frames g.long g.short x.position p a.place a.inside) (lit≤ tt))

  -- ---- one block, from the state before it
  module _ (X : Float → Type 0) (up : Upward X) (t : Tape) (x : State) (e : Event) (back : List Event) (m : Moment g X t x (e ∷ back)) (c : Plain samples e.call) where
    here : Event
    here = record { before = standing s x; call = block c.out samples c.time one one }

    is_here : e ≡ here
    unfolding here
    is_here = ap₂ (λ (p : Player) (d : Call). record { before = p; call = d }) m.chain.0.got c.is

    took : Taken s x c.out samples c.time
    took = taken_of g x e m.chain.0 c

    to_come : Premised 128 s.frames t (a_block ∷ gathered step_in back)
    to_come = subst (Premised 128 s.frames t) (block_steps g e back c) m.premised

    begins : x.ended ≡ false → le x.start c.time ≡ true
    begins = start_before g x e back c took m.ordered

    -- no end at or past the stop before this block
    not_stopped : (X (block_end 128 c.time s.rate) → ⊥) → Passed s X x → ⊥
    not_stopped n p = n (up _ _ p.past (later_end g x c.time p.has_block p.time took.time took.fresh))

    channels_here : channels_of here ≡ cond x.ended 1 s.channels
    unfolding here
    channels_here = go m.inv
      where
        ended : x.ended ≡ true → channels_of here ≡ cond x.ended 1 s.channels
        ended e = (ended_gives g x c.out c.time took e).0 ∙ ap (λ (b : Bool). cond b 1 s.channels) (sym e)

        go : Inv s R X t x → channels_of here ≡ cond x.ended 1 s.channels
        go (alive a same on) = side (lt s.stop (block_end 128 c.time s.rate)) refl ∙ ap (λ (b : Bool). cond b 1 s.channels) (sym a.going)
          where
            side : (b : Bool) → lt s.stop (block_end 128 c.time s.rate) ≡ b → channels_of here ≡ s.channels
            side true p = (gave s x c.out samples c.time _ took (plan_between g t.head.p x c.time a took.time (begins a.going) p)).channels ∙ between_channels g x c.time
            side false p = (gave s x c.out samples c.time _ took (plan_aligned g t.head.p x c.time a took.time (begins a.going) p)).channels ∙ aligned_channels g t.head.p x c.time a took.time (begins a.going)
        go (stopped e p) = ended e
        go (fitted e f) = ended e
        go (run_out e f) = ended e

    -- zeros, as the tape has none
    silent_here : x.ended ≡ true → (d j : ℕ) → d < channels_of here → j < 128 → frame_at s.frames t j ≡ None → sample_of here d j ≡ bits_of (channel samples s.frames d) (frame_at s.frames t j)
    unfolding here
    silent_here e d j D J n = (ended_gives g x c.out c.time took e).1 d j D J ∙ sym (ap (bits_of (channel samples s.frames d)) n)

    -- the tape's frames
    frames_here : (X (block_end 128 c.time s.rate) → ⊥) → lt s.stop (block_end 128 c.time s.rate) ≡ false
        → (d j : ℕ) → d < channels_of here → j < 128 → sample_of here d j ≡ bits_of (channel samples s.frames d) (frame_at s.frames t j)
    unfolding here
    frames_here n p d j D J = go m.inv
      where
        go : Inv s R X t x → sample_of here d j ≡ bits_of (channel samples s.frames d) (frame_at s.frames t j)
        go (alive a same on) =
            let k = gave s x c.out samples c.time _ took (plan_aligned g t.head.p x c.time a took.time (begins a.going) p) in
            let q = aligned_channels g t.head.p x c.time a took.time (begins a.going) in
            k.sample (subst (λ (y : ℕ). y ≤ 32) (sym q) g.few) d j (subst (λ (y : ℕ). d < y) k.channels D) J
            ∙ ap (λ (f : List ℕ → ℕ → ℕ). f (channel samples s.frames d) j) (aligned_sample_lem g t.head.p x c.time a took.time (begins a.going))
            ∙ aligned_bits g t.head.p x c.time a took.time (begins a.going) samples d j J
            ∙ ap (bits_of (channel samples s.frames d))
            (ap₂ (λ (b : Bool) (h : Head). played s.frames b (head_at s.frames b h j).p) same (sym (head_is t m.premised.cleared)) ∙ sym (frame_going s.frames t j on))
        go (stopped e q) = absurd (not_stopped n q)
        go (fitted z f) = silent_here z d j D J (fit_frames 128 s.frames t (gathered step_in back) to_come f j)
        go (run_out e f) = silent_here e d j D J (no_frames s.frames t j f)

    zero_here : (d j : ℕ) → d < channels_of here → j < 128 → le s.stop (instant c.time s.rate j) ≡ true → sample_of here d j ≡ 0
    unfolding here
    zero_here d j D J r = go m.inv
      where
        inside : lt s.stop (block_end 128 c.time s.rate) ≡ true
        inside = order.le_lt_trans s.stop (instant c.time s.rate j) (block_end 128 c.time s.rate) r (instant_before s.rate R g.value g.low g.high c.time took.time j J)

        ended : x.ended ≡ true → sample_of here d j ≡ 0
        ended e = (ended_gives g x c.out c.time took e).1 d j D J

        go : Inv s R X t x → sample_of here d j ≡ 0
        go (alive a same on) =
            let k = gave s x c.out samples c.time _ took (plan_between g t.head.p x c.time a took.time (begins a.going) inside) in
            let q = between_channels g x c.time in
            k.sample (subst (λ (y : ℕ). y ≤ 32) (sym q) g.few) d j (subst (λ (y : ℕ). d < y) k.channels D) J ∙ between_zero g x c.time (channel samples s.frames d) j r
        go (stopped e q) = ended e
        go (fitted e f) = ended e
        go (run_out e f) = ended e

    -- ---- and so of the event itself
    pub channels_at : channels_of e ≡ cond (is_ended e.before) 1 s.channels
    unfolding here
    channels_at = subst (λ (f : Event). channels_of f ≡ cond (is_ended f.before) 1 s.channels) (sym is_here) channels_here

    pub frames_at : (X (end_of s.rate e) → ⊥) → lt s.stop (end_of s.rate e) ≡ false → (d j : ℕ) → d < channels_of e → j < 128 → sample_of e d j ≡ bits_of (channel samples s.frames d) (frame_at s.frames t j)
    unfolding here
    frames_at =
        subst (λ (f : Event). (X (end_of s.rate f) → ⊥) → lt s.stop (end_of s.rate f) ≡ false → (d j : ℕ) → d < channels_of f → j < 128 → sample_of f d j ≡ bits_of (channel samples s.frames d) (frame_at s.frames t j))
        (sym is_here) frames_here

    pub zero_at : (d j : ℕ) → d < channels_of e → j < 128 → le s.stop (instant (time_of e.call) s.rate j) ≡ true → sample_of e d j ≡ 0
    unfolding here
    zero_at = subst (λ (f : Event). (d j : ℕ) → d < channels_of f → j < 128 → le s.stop (instant (time_of f.call) s.rate j) ≡ true → sample_of f d j ≡ 0) (sym is_here) zero_here

    pub time_at : Time (time_of e.call)
    time_at = subst (λ (d : Call). Time (time_of d)) (sym c.is) took.time

  -- ---- the player after k blocks without a switch
  stands_over : (looped : Bool) (k : ℕ) (x : State) → x.ended ≡ true → looped ≡ false → s.frames ≤ 128 * k → Stands s.rate looped s.frames k (standing s x)
  stands_over looped k x e f m = record {
    never_ends = λ t. absurd (true≢false (sym t ∙ f));
    not_before = λ t n. absurd (under s.frames k m n);
    has_ended = λ t n. e;
    position = λ t. absurd (true≢false (sym e ∙ t));
  }
    where
      under : (l k : ℕ) → l ≤ 128 * k → k < blocks_of 128 l → ⊥
      under l k m n = let w = whole_blocks l k m in omega arith

  pub stands_by : (X : Float → Type 0) (looped : Bool) (k : ℕ) (t : Tape) (x : State) → Unswitched 128 s.frames looped k t → (Passed s X x → ⊥) → Inv s R X t x → Stands s.rate looped s.frames k (standing s x)
  stands_by X looped k t x u free (alive a same on) = record {
    never_ends = λ e. a.going;
    not_before = λ e n. a.going;
    has_ended = λ e n. absurd (over s.frames k n (u.inside on e));
    position = λ e. subst (Reports s.rate x.position) (u.number on) (reports_alive t.head.p x a);
  }
    where
      over : (l k : ℕ) → blocks_of 128 l + 1 ≤ k → 128 * k ≤ l → ⊥
      over l k n m = let f = few_blocks l k m in omega arith
  stands_by X looped k t x u free (stopped e p) = absurd (free p)
  stands_by X looped k t x u free (fitted e f) = stands_over looped k x e (u.fit_by f).0 (u.fit_by f).1
  stands_by X looped k t x u free (run_out e f) = stands_over looped k x e (u.ended_by f).0 (u.ended_by f).1

  -- ---- the stop of the statement
  module _ (stops : List Float) (is : s.stop ≡ stop_of stops) where
    -- before the stop
    pub short_of : (time : Float) → Time time → T (is_before (block_end 128 time s.rate) stops) → le s.stop (block_end 128 time s.rate) ≡ false
    short_of time h b = ap (λ (y : Float). le y (block_end 128 time s.rate)) is ∙ go stops b
      where
        go : (l : List Float) → T (is_before (block_end 128 time s.rate) l) → le (stop_of l) (block_end 128 time s.rate) ≡ false
        go [] c = end_under s.rate R g.value g.low g.high time h
        go (y ∷ ys) c = order.lt_not_le (block_end 128 time s.rate) y (is_true (lt (block_end 128 time s.rate) y) c)

    -- just at it
    pub at_stop : (y : Float) → T (is_at y stops) → eq y s.stop ≡ true
    at_stop y b = ap (eq y) is ∙ go stops b
      where
        go : (l : List Float) → T (is_at y l) → eq y (stop_of l) ≡ true
        go [] c = absurd c
        go (z ∷ zs) c = is_true (eq y z) c

    pub at_or_after : (y : Float) → T (reaches y stops) → le s.stop y ≡ true
    at_or_after y b = ap (λ (z : Float). le z y) is ∙ go stops b
      where
        go : (l : List Float) → T (reaches y l) → le (stop_of l) y ≡ true
        go [] c = absurd c
        go (z ∷ zs) c = is_true (le z y) c

    -- an end that reaches the stop, where none is just at it, is past it
    pub hits_past : (front : List Event) (st : Float) (rest : List Float) → stops ≡ st ∷ rest → NoneAt s.rate stops front → Hits g (Passes s.stop) front
    hits_past [] st rest e n = tt
    hits_past (f ∷ fs) st rest e n = (
      λ r. ⊎_elim (λ (m : lt s.stop (end_of s.rate f) ≡ true). m)
          (λ (m : eq s.stop (end_of s.rate f) ≡ true). absurd (true≢false (sym (same (end_of s.rate f) m) ∙ n.0)))
          (order.le-lt-or-eq s.stop (end_of s.rate f) r),
      hits_past fs st rest e n.1,
    )
      where
        same : (y : Float) → eq s.stop y ≡ true → is_at y stops ≡ true
        same y m = ap (is_at y) e ∙ order.eq_sym st y (ap (λ (z : Float). eq z y) (sym (is ∙ ap stop_of e)) ∙ m)

  pub hits_reach : (front : List Event) → Hits g (Meets s.stop) front
  hits_reach [] = tt
  hits_reach (f ∷ fs) = (λ r. r, hits_reach fs)

  pub up_reach : Upward (Meets s.stop)
  up_reach y z p q = order.le_trans s.stop y z p q

  pub up_past : Upward (Passes s.stop)
  up_past y z p q = order.lt_le_trans s.stop y z p q

  pub not_past : (time : Float) → le s.stop (block_end 128 time s.rate) ≡ false → lt s.stop (block_end 128 time s.rate) ≡ false
  not_past time n = go (lt s.stop (block_end 128 time s.rate)) refl
    where
      go : (b : Bool) → lt s.stop (block_end 128 time s.rate) ≡ b → lt s.stop (block_end 128 time s.rate) ≡ false
      go true e = absurd (true≢false (sym (order.lt-le s.stop (block_end 128 time s.rate) e) ∙ n))
      go false e = e

  -- ---- the player after a block, where the ends at or past the stop are those that reach it
  module _ (t : Tape) (x : State) (e : Event) (back : List Event) (m : Moment g (Meets s.stop) t x (e ∷ back)) (c : Plain samples e.call) where
    block_left : BlockLeft s R (Meets s.stop) t x c.out samples c.time
    block_left = on_block g (Meets s.stop) up_reach t x e back c m (λ n. n)

    after_is : next (standing s x) e.call ≡ standing s block_left.state
    after_is = ap (next (standing s x)) c.is ∙ block_left.player

    left_is : after e ≡ standing s block_left.state
    left_is = ap (λ (p : Player). next p e.call) m.chain.0.got ∙ after_is

    end_is : end_of s.rate e ≡ block_end 128 c.time s.rate
    end_is = ap (λ (d : Call). block_end 128 (time_of d) s.rate) c.is

    no_stop : le s.stop (end_of s.rate e) ≡ false → Passed s (Meets s.stop) block_left.state → ⊥
    no_stop n p = true≢false (sym p.past ∙ ap (λ (y : Float). le s.stop (block_end 128 y s.rate)) block_left.at_time ∙ ap (le s.stop) (sym end_is) ∙ n)

    pub stands_at : (looped : Bool) (k : ℕ) → Unswitched 128 s.frames looped k (stepped 128 s.frames t a_block) → le s.stop (end_of s.rate e) ≡ false → Stands s.rate looped s.frames k (after e)
    stands_at looped k u n = subst (Stands s.rate looped s.frames k) (sym left_is) (stands_by (Meets s.stop) looped k (stepped 128 s.frames t a_block) block_left.state u (no_stop n) block_left.inv)

    pub over_at : le s.stop (end_of s.rate e) ≡ true → (is_ended (after e) ≡ true) × Over back
    over_at n =
        let d : block_left.state.ended ≡ true = block_left.stops (ap (le s.stop) (sym end_is) ∙ n) in
        (ap is_ended left_is ∙ d, over_all g block_left.state back (subst (λ (p : Player). Chain p back) after_is m.chain.1) m.only.1 d)

    -- where the tape has ended by then, the player has
    ended_at : (stepped 128 s.frames t a_block).ended ≡ true → is_ended (after e) ≡ true
    ended_at d = ap is_ended left_is ∙ go block_left.inv
      where
        go : Inv s R (Meets s.stop) (stepped 128 s.frames t a_block) block_left.state → block_left.state.ended ≡ true
        go (alive a same on) = absurd (true≢false (sym d ∙ on))
        go (stopped z p) = z
        go (fitted z f) = z
        go (run_out z f) = z

    -- so it has after the block that follows an exact fit
    pub fit_at : t.exact_fit ≡ true → is_ended (after e) ≡ true
    fit_at f = ended_at (fit_ends 128 s.frames t (gathered step_in back) (subst (Premised 128 s.frames t) (block_steps g e back c) m.premised) f (lit< tt))
