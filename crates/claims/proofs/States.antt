-- The player from its first block on, by the few things that a block moves and a loop message switches, and the plan of a block for it. Assumes nothing.
use mathlib.Core.Path.{◌≡◌, refl, sym, ap, ap₂, ◌∙◌, subst}
use mathlib.Core.Logic.{◌⊎◌, inl, inr, ⊎_elim}
use mathlib.Core.Bool.{Bool, true, false, not, ◌&&◌, ◌||◌, cond, true≢false}
use mathlib.Core.List.{List}
use Prim.Native.Nat.{ℕ, ◌+◌, ◌*◌, ◌^◌, ◌≤◌, ◌<◌}
use native.Mathlib.Nat.{le_of_lt}
use native.Mathlib.Omega.{arith}
use borrow.Author.Tests.{ltb-true, ltb-false}
use lib.Dec.{ltb}
use lib.Ieee.{Float, binary64, add, mul, lt, le, eq}
use lib.Ieee.Exact.{HasValue}
use Rattle.buffer.specs.Limits.{duration}
use Rattle.seconds.specs.Seconds.{context, in_clip, float_zero, never, one, block_seconds, block_end, instant}
use Rattle.player.specs.Record.{shape_of, loop_of, render_of, with_ramp}
use Rattle.ramps.specs.declared.Ramp.{Ramp}
use Rattle.ramps.specs.Ramps.{counted}
use Rattle.claims.proofs.Ramps.{ramp_after, counting, after_length, unramped, hushed, hushed_is, stays}
use Rattle.aligned.specs.Aligned.{first_frame, ends_within, aligned_sample, last_wrap, aligned_position}
use Rattle.sub_sample.specs.SubSample.{head_at, is_idle, info_of_sample}
use Rattle.interpolated.specs.Interpolated.{sample_of}
use Rattle.sub_sample.specs.declared.Playhead.{Playhead}
use Rattle.buffer.specs.Channels.{channel}
use Rattle.player.specs.Block.{Plan, silent, idle, start_at, is_aligned, has_ended, turns_over, aligned_plan, settings, first_head, sub_sample_plan, bare_plan, ramp_in, ramped_plan, plan}
use Rattle.player.specs.declared.Player.{Player}
use Rattle.tolerances.specs.declared.Tolerances.{Tolerances}
use Rattle.tape.specs.Tape as tape
use Rattle.tape.specs.Tape.{Head, played, at_end, bits_of}
use Rattle.tape.proofs.Heads.{at, straight, turning, end_below}
use Rattle.claims.specs.Calls.{message, next}
use Rattle.claims.proofs.Order as order
use Rattle.claims.proofs.Opening.{keep_start, keep_end}
use Rattle.claims.proofs.Position.{Elapsed, frames_duration, ratio_one, clip_itself, never_far, elapsed_under_never}
use Rattle.claims.proofs.Laws.{Time, closed, below, end_later, elapsed_more}
use Rattle.claims.proofs.Step.{Place, on, position_on, plays}
use Rattle.player.specs.Messages.{clamped, on_loop, handled}
use Rattle.player.specs.declared.ControlMessage.TheVariants.{Loop}

-- what stays
pub record Setup : Type 0 where
  pub rate : Float
  pub channels : ℕ
  pub frames : ℕ
  pub stop : Float
  pub tolerances : Tolerances

-- the ground that all blocks stand on: what stays, a rate of R units of binary32, the limits, and the samples that each block is lent
pub record Ground : Type 0 where
  pub setup : Setup
  pub units : ℕ
  pub value : HasValue setup.rate false units (2 ^ 149)
  pub low : 3000 * 2 ^ 149 ≤ units
  pub high : units ≤ 768000 * 2 ^ 149
  pub long : 1 ≤ setup.frames
  pub short : setup.frames ≤ 16777216
  pub few : setup.channels ≤ 32
  pub samples : List ℕ

-- what a block moves, and a loop message switches; the ramp has length 0
pub record State : Type 0 where
  pub looped : Bool
  pub has_start : Bool
  pub start : Float
  pub offset : Float
  pub position : Float
  pub elapsed : Float
  pub started : Bool
  pub entered : Bool
  pub aligned : Bool
  pub ended : Bool
  pub has_block : Bool
  pub time : Float
  pub ramp : Ramp

abbrev pub standing : Setup → State → Player
standing s x = record {
  sample_rate = s.rate;
  start_time = context x.start;
  stop_time = context s.stop;
  offset = in_clip x.offset;
  duration = in_clip never;
  loop_state = loop_of x.looped float_zero (duration s.frames s.rate);
  render_state = render_of x.position x.started x.entered x.elapsed x.aligned x.ended;
  has_start = x.has_start;
  has_buffer = true;
  shape = shape_of s.channels s.frames s.rate;
  has_block = x.has_block;
  block_time = context x.time;
  tolerances = s.tolerances;
  ramp = hushed x.ramp;
}

-- ---- an ended player
abbrev pub silenced : State → Float → State
silenced x t = record {
  looped = x.looped;
  has_start = x.has_start;
  start = x.start;
  offset = x.offset;
  position = x.position;
  elapsed = x.elapsed;
  started = x.started;
  entered = x.entered;
  aligned = x.aligned;
  ended = true;
  has_block = true;
  time = t;
  ramp = x.ramp;
}

bare_ended : (s : Setup) (x : State) (t : Float) → x.ended ≡ true → bare_plan 128 (standing s x) t one one ≡ silent 128 (standing s (silenced x t)) false
unfolding bare_plan idle
bare_ended s x t h = simp h

-- the plan of a player whose ramp has length 0, by the bare one
quiet : (s : Setup) (x : State) (t : Float) (q : Plan) → bare_plan 128 (standing s x) t one one ≡ q → plan 128 (standing s x) t one one ≡ counting 128 (standing s x) q
quiet s x t q e = ap (ramped_plan 128 (standing s x)) e ∙ unramped 128 (standing s x) q refl

pub plan_ended : (s : Setup) (x : State) (t : Float) → x.ended ≡ true → plan 128 (standing s x) t one one ≡ silent 128 (standing s (silenced x t)) false
unfolding ramp_in counted
plan_ended s x t h =
    quiet s x t (silent 128 (standing s (silenced x t)) false) (bare_ended s x t h)
    ∙ ap (λ (r : Ramp). silent 128 (with_ramp (standing s (silenced x t)) (counted 128 r 128)) false) (stays x.started _ (hushed x.ramp))

-- ---- the start
time_same : (t : Float) → Time t → eq t t ≡ true
time_same t h =
    ⊎_elim (λ (b : lt t t ≡ true). absurd (true≢false (sym b ∙ order.lt_irrefl t))) (λ (e : eq t t ≡ true). e)
    (order.le-lt-or-eq t t (order.le_of_not_lt t t h.whole h.whole (order.lt_irrefl t)))

abbrev pub begins : State → Float → Float
begins x t = cond (not x.started && lt x.start t) t x.start

start_is : (s : Setup) (x : State) (t : Float) → start_at (standing s x) t ≡ begins x t
unfolding start_at
start_is s x t = refl

pub start_by : (x : State) (t : Float) → Time t → le x.start t ≡ true → le (begins x t) t ≡ true
start_by x t h l = go (not x.started && lt x.start t)
  where
    go : (b : Bool) → le (cond b t x.start) t ≡ true
    go true = order.eq-le t t (time_same t h)
    go false = l

start_at_lem : (x : State) (t : Float) → Time t → le x.start t ≡ true → x.started ≡ false → eq (begins x t) t ≡ true
start_at_lem x t h l n = ap (λ (b : Bool). eq (cond (not b && lt x.start t) t x.start) t) n ∙ go (lt x.start t) refl
  where
    go : (b : Bool) → lt x.start t ≡ b → eq (cond b t x.start) t ≡ true
    go true e = time_same t h
    go false e = ⊎_elim (λ (b : lt x.start t ≡ true). absurd (true≢false (sym b ∙ e))) (λ (q : eq x.start t ≡ true). q) (order.le-lt-or-eq x.start t l)

-- ---- a player that goes on: its position is p frames
pub record Alive (s : Setup) (R p : ℕ) (x : State) : Type 0 where
  pub going : x.ended ≡ false
  pub ready : (x.aligned ≡ true) ⊎ ((x.started ≡ false) × (eq x.offset float_zero ≡ true))
  pub elapsed : Elapsed x.elapsed
  pub inside : p ≤ s.frames
  pub place : Place s.rate R x.position p

-- ---- the kinds of block
-- what three tests leave of four plans
third : (b c d : Bool) (p q u w : Plan) → b ≡ false → c ≡ false → d ≡ true → cond b p (cond c q (cond d u w)) ≡ u
third b c d p q u w e f g = simp (e, f, g)

fourth : (b c d : Bool) (p q u w : Plan) → b ≡ false → c ≡ false → d ≡ false → cond b p (cond c q (cond d u w)) ≡ w
fourth b c d p q u w e f g = simp (e, f, g)

module _ (g : Ground) where
  abbrev s : Setup
  s = g.setup

  abbrev R : ℕ
  R = g.units

  module _ (p : ℕ) (x : State) (t : Float) (a : Alive s R p x) (h : Time t) (l : le x.start t ≡ true) where
    not_late : le (block_end 128 t s.rate) x.start ≡ false
    not_late = order.lt_not_le x.start (block_end 128 t s.rate) (order.le_lt_trans x.start t (block_end 128 t s.rate) l (end_later s.rate R g.value g.low g.high t h))

    aligned_first : (x.aligned || eq (begins x t) t && eq x.offset float_zero) ≡ true
    aligned_first = go a.ready
      where
        or-true : (b : Bool) → (b || true) ≡ true
        or-true true = refl
        or-true false = refl

        go : (x.aligned ≡ true) ⊎ ((x.started ≡ false) × (eq x.offset float_zero ≡ true)) → (x.aligned || eq (begins x t) t && eq x.offset float_zero) ≡ true
        go (inl e) = ap (λ (b : Bool). b || eq (begins x t) t && eq x.offset float_zero) e
        go (inr e) = ap₂ (λ (b c : Bool). x.aligned || b && c) (start_at_lem x t h l e.0) e.1 ∙ or-true x.aligned

    not_far : lt never (add binary64 x.position (block_seconds 128 s.rate)) ≡ false
    not_far =
        let q = on s.rate R g.value g.low g.high s.frames g.long g.short x.position p a.place a.inside in
        never_far s.rate R g.value g.low g.high (add binary64 x.position (block_seconds 128 s.rate)) q.steps (p + 128) q.near
        (bound p s.frames a.inside g.short) (steps q.steps p s.frames q.few a.inside g.short)
      where
        bound : (a l : ℕ) → a ≤ l → l ≤ 16777216 → a + 128 ≤ 16778240
        bound a l p q = omega arith

        steps : (j a l : ℕ) → 128 * j ≤ a + 128 + 128 → a ≤ l → l ≤ 16777216 → j ≤ 1048577
        steps j a l f p q = omega arith

    -- whether the block is aligned turns on the stop alone
    aligned_is : is_aligned 128 (standing s x) t (mul binary64 one one) ≡ not (lt s.stop (block_end 128 t s.rate))
    unfolding is_aligned
    aligned_is =
        simp (start_is s x t, aligned_first, ratio_one s.rate R g.value g.low g.high, closed.one_one, closed.one_same, closed.none_same, (clip_itself s.rate R g.value g.low g.high s.frames g.long g.short).1, not_far)

    pub plan_aligned : lt s.stop (block_end 128 t s.rate) ≡ false → plan 128 (standing s x) t one one ≡ counting 128 (standing s x) (aligned_plan 128 (standing s x) t (mul binary64 one one))
    unfolding bare_plan
    plan_aligned e = quiet s x t (aligned_plan 128 (standing s x) t (mul binary64 one one)) (third x.ended _ (is_aligned 128 (standing s x) t (mul binary64 one one)) _ _ _ _ a.going not_late (aligned_is ∙ ap not e))

    pub plan_between : lt s.stop (block_end 128 t s.rate) ≡ true → plan 128 (standing s x) t one one ≡ counting 128 (standing s x) (sub_sample_plan 128 (standing s x) t one (mul binary64 one one))
    unfolding bare_plan
    plan_between e = quiet s x t (sub_sample_plan 128 (standing s x) t one (mul binary64 one one)) (fourth x.ended _ (is_aligned 128 (standing s x) t (mul binary64 one one)) _ _ _ _ a.going not_late (aligned_is ∙ ap not e))

    -- ---- what follows an aligned block
    pub later : Float
    later = aligned_position 128 x.position s.rate (duration s.frames s.rate) (last_wrap (x.looped && ends_within 128 x.position s.rate (duration s.frames s.rate)) s.frames (first_frame x.position s.rate) 128)

    pub longer : Float
    longer = add binary64 x.elapsed (block_seconds 128 s.rate)

    unfoldable pub carried : State
    carried = record {
      looped = x.looped;
      has_start = x.has_start;
      start = begins x t;
      offset = x.offset;
      position = later;
      elapsed = longer;
      started = x.started || eq (begins x t) t;
      entered = x.entered;
      aligned = true;
      ended = has_ended 128 (standing s x) t (mul binary64 one one) later longer;
      has_block = true;
      time = t;
      ramp = ramp_after 128 (standing s x) (aligned_plan 128 (standing s x) t (mul binary64 one one));
    }

    pub aligned_player : (counting 128 (standing s x) (aligned_plan 128 (standing s x) t (mul binary64 one one))).player ≡ standing s carried
    unfolding aligned_plan turns_over carried later longer start_at
    aligned_player =
        let q = aligned_plan 128 (standing s x) t (mul binary64 one one) in
        ap (with_ramp q.player) (sym (hushed_is (ramp_after 128 (standing s x) q) (after_length 128 (standing s x) q)))

    pub aligned_channels : (aligned_plan 128 (standing s x) t (mul binary64 one one)).channels ≡ s.channels
    unfolding aligned_plan
    aligned_channels = refl

    pub aligned_sample_lem : (aligned_plan 128 (standing s x) t (mul binary64 one one)).sample ≡ aligned_sample (x.looped && ends_within 128 x.position s.rate (duration s.frames s.rate)) s.frames (first_frame x.position s.rate)
    unfolding aligned_plan turns_over
    aligned_sample_lem = refl

    -- the tape's p then
    abbrev next_p : ℕ
    next_p = (at_end s.frames (tape.head_at s.frames x.looped (at p false) 128)).p

    later_place : Place s.rate R later next_p
    unfolding later
    later_place = position_on s.rate R g.value g.low g.high s.frames g.long g.short x.looped p x.position a.place a.inside

    longer_elapsed : Elapsed longer
    unfolding longer
    longer_elapsed = elapsed_more s.rate R g.value g.low g.high x.elapsed a.elapsed

    -- the stop, or, unlooped, the clip's end
    carried_ended : carried.ended ≡ (le s.stop (block_end 128 t s.rate) || not x.looped && le (duration s.frames s.rate) later)
    unfolding carried has_ended
    carried_ended =
        let u = (elapsed_under_never longer longer_elapsed).0 in
        let c : lt float_zero (mul binary64 one one) ≡ true = ap (lt float_zero) closed.one_one ∙ closed.one_above in
        let d : lt (mul binary64 one one) float_zero ≡ false = ap (λ (y : Float). lt y float_zero) closed.one_one ∙ closed.one_not_below in
        flat (le s.stop (block_end 128 t s.rate)) (le never longer) (not x.looped) (lt float_zero (mul binary64 one one)) (le (duration s.frames s.rate) later) (lt (mul binary64 one one) float_zero) (lt later float_zero) u c d
      where
        or-false : (b : Bool) → (b || false) ≡ b
        or-false true = refl
        or-false false = refl

        flat : (p e n c q d w : Bool) → e ≡ false → c ≡ true → d ≡ false → (p || e || n && (c && q || d && w)) ≡ (p || n && q)
        flat p e n c q d w h i j = simp (h, i, j, or-false)

    -- past the clip, or before it
    held : (b : ℕ) (y : Float) → Place s.rate R y b → b ≤ s.frames + 128 → (s.frames < b → le (duration s.frames s.rate) y ≡ true) × (b < s.frames → le (duration s.frames s.rate) y ≡ false)
    held b y p m =
        let d = duration s.frames s.rate in
        let f = frames_duration s.rate R g.value g.low g.high s.frames g.short in
        let few : p.steps ≤ 131075 = bound p.steps b s.frames p.few m g.short in (
          (λ n. (below s.rate R g.value g.low g.high d y 1 p.steps s.frames b f p.near (small p.steps few) n).le-true),
          (λ n. (below s.rate R g.value g.low g.high y d p.steps 1 b s.frames p.near f (small' p.steps few) n).le-false),
        )
      where
        bound : (j b l : ℕ) → 128 * j ≤ b + 128 → b ≤ l + 128 → l ≤ 16777216 → j ≤ 131075
        bound j b l f m n = omega arith

        small : (j : ℕ) → j ≤ 131075 → 1 + j < 268435456
        small j h = omega arith

        small' : (j : ℕ) → j ≤ 131075 → j + 1 < 268435456
        small' j h = omega arith

    -- it goes on, or it is at or past the clip's end
    goes_on : carried.ended ≡ false → next_p ≤ s.frames → Alive s R next_p carried
    unfolding carried
    goes_on e i = record { going = e; ready = inl refl; elapsed = longer_elapsed; inside = i; place = later_place }

    pub aligned_next : le s.stop (block_end 128 t s.rate) ≡ false → (Alive s R next_p carried) ⊎ ((carried.ended ≡ true) × (x.looped ≡ false) × (s.frames ≤ next_p))
    aligned_next n = go x.looped refl
      where
        is : (b : Bool) → x.looped ≡ b → carried.ended ≡ (not b && le (duration s.frames s.rate) later)
        is b e = carried_ended ∙ ap₂ (λ (p q : Bool). p || not q && le (duration s.frames s.rate) later) n e

        next_by : Bool → ℕ
        next_by b = (at_end s.frames (tape.head_at s.frames b (at p false) 128)).p

        go : (b : Bool) → x.looped ≡ b → (Alive s R next_p carried) ⊎ ((carried.ended ≡ true) × (x.looped ≡ false) × (s.frames ≤ next_p))
        go true e =
            let m : next_by true ≤ s.frames = end_below s.frames (tape.head_at s.frames true (at p false) 128) (turning s.frames (at p false) 128 g.long a.inside).below in
            inl (goes_on (is true e) (subst (λ (b : Bool). next_by b ≤ s.frames) (sym e) m))
        go false e = at_end_of (ltb next_p s.frames) refl (ltb s.frames next_p) refl (le (duration s.frames s.rate) later) refl
          where
            plain : next_p ≡ p + 128
            plain = ap next_by e ∙ ap (λ (h : Head). (at_end s.frames h).p) (straight s.frames (at p false) 128)

            close : next_p ≤ s.frames + 128
            close = let i = a.inside in omega (arith, plain)

            at_end_of : (q : Bool) → ltb next_p s.frames ≡ q → (r : Bool) → ltb s.frames next_p ≡ r → (d : Bool) → le (duration s.frames s.rate) later ≡ d
                → (Alive s R next_p carried) ⊎ ((carried.ended ≡ true) × (x.looped ≡ false) × (s.frames ≤ next_p))
            at_end_of true q r Q d D = let m = ltb-true next_p s.frames q in inl (goes_on (is false e ∙ (held next_p later later_place close).1 m) (le_of_lt m))
            at_end_of false q true Q d D = let m = ltb-true s.frames next_p Q in inr (is false e ∙ (held next_p later later_place close).0 m, e, le_of_lt m)
            at_end_of false q false Q true D = inr (is false e ∙ D, e, ltb-false next_p s.frames q)
            at_end_of false q false Q false D = inl (goes_on (is false e ∙ D) (ltb-false s.frames next_p Q))

    -- a block that ends at the stop ends the player
    pub aligned_stops : le s.stop (block_end 128 t s.rate) ≡ true → carried.ended ≡ true
    aligned_stops n = carried_ended ∙ ap (λ (p : Bool). p || not x.looped && le (duration s.frames s.rate) later) n

    -- ---- which frames an aligned block plays
    pub aligned_bits : (samples : List ℕ) (c i : ℕ) → i < 128
        → aligned_sample (x.looped && ends_within 128 x.position s.rate (duration s.frames s.rate)) s.frames (first_frame x.position s.rate) (channel samples s.frames c) i
        ≡ bits_of (channel samples s.frames c) (played s.frames x.looped (tape.head_at s.frames x.looped (at p false) i).p)
    aligned_bits samples c i I = plays s.rate R g.value g.low g.high s.frames g.long g.short x.looped p i x.position samples c a.place a.inside I

  -- ---- a block with the stop inside
  module _ (x : State) (t : Float) where
    pub last : Playhead
    last = head_at (settings (standing s x) t one (mul binary64 one one)) (first_head (standing s x) t) 128

    unfoldable pub cut_short : State
    cut_short = record {
      looped = x.looped;
      has_start = x.has_start;
      start = last.start_time.0;
      offset = last.offset.0;
      position = last.buffer_time.0;
      elapsed = last.buffer_time_elapsed.0;
      started = last.started;
      entered = last.entered_loop;
      aligned = false;
      ended = has_ended 128 (standing s x) t (mul binary64 one one) last.buffer_time.0 last.buffer_time_elapsed.0;
      has_block = true;
      time = t;
      ramp = ramp_after 128 (standing s x) (sub_sample_plan 128 (standing s x) t one (mul binary64 one one));
    }

    pub between_player : (counting 128 (standing s x) (sub_sample_plan 128 (standing s x) t one (mul binary64 one one))).player ≡ standing s cut_short
    unfolding sub_sample_plan cut_short last
    between_player =
        let q = sub_sample_plan 128 (standing s x) t one (mul binary64 one one) in
        ap (with_ramp q.player) (sym (hushed_is (ramp_after 128 (standing s x) q) (after_length 128 (standing s x) q)))

    pub between_channels : (sub_sample_plan 128 (standing s x) t one (mul binary64 one one)).channels ≡ s.channels
    unfolding sub_sample_plan
    between_channels = refl

    pub between_stops : le s.stop (block_end 128 t s.rate) ≡ true → cut_short.ended ≡ true
    unfolding cut_short has_ended
    between_stops h = ap (λ (b : Bool). b || le never last.buffer_time_elapsed.0 || not x.looped && (lt float_zero (mul binary64 one one) && le (duration s.frames s.rate) last.buffer_time.0 || lt (mul binary64 one one) float_zero && lt last.buffer_time.0 float_zero)) h

    -- a sample at or after the stop is zero
    pub between_zero : (frames : List ℕ) (i : ℕ) → le s.stop (instant t s.rate i) ≡ true → (sub_sample_plan 128 (standing s x) t one (mul binary64 one one)).sample frames i ≡ 0
    unfolding sub_sample_plan info_of_sample is_idle sample_of settings instant
    between_zero frames i h = simp (h, or-true)
      where
        or-true : (b : Bool) → (b || true) ≡ true
        or-true true = refl
        or-true false = refl

-- ---- a loop message: the loop points stay
abbrev pub switched : State → Bool → State
switched x on = record {
  looped = on;
  has_start = x.has_start;
  start = x.start;
  offset = x.offset;
  position = x.position;
  elapsed = x.elapsed;
  started = x.started;
  entered = x.entered;
  aligned = x.aligned;
  ended = x.ended;
  has_block = x.has_block;
  time = x.time;
  ramp = x.ramp;
}

pub switch_player : (s : Setup) (x : State) (on : Bool) → lt (duration s.frames s.rate) float_zero ≡ false → next (standing s x) (message (Loop on)) ≡ standing s (switched x on)
unfolding next handled on_loop clamped
switch_player s x on h =
    let d = duration s.frames s.rate in
    simp (keep_start d h, keep_end d)
