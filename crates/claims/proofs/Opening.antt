-- The player before its first block, by what it has received: a clip, a start, a stop, a loop switch. Assumes nothing.
use mathlib.Core.Path.{◌≡◌, refl, sym, ap, ap₂, ◌∙◌, subst}
use mathlib.Core.Bool.{Bool, true, false, not, ◌||◌, cond, true≢false, false≢true}
use mathlib.Core.List.{List, [], ◌∷◌, ◌++◌}
use Prim.Native.Nat.{ℕ, zero, suc, ◌≤◌}
use native.Mathlib.Omega.{arith}
use borrow.Author.Tests.{eqb-false}
use lib.Dec.{T, eqb}
use lib.ListN.{length}
use lib.Ieee.{Float, binary32, of_bits, fits, lt, le, eq}
use Rattle.buffer.specs.Limits.{valid_rate, valid_shape, duration, Valid, valid}
use Rattle.seconds.specs.Seconds.{context, in_clip, float_zero, never}
use Rattle.player.specs.Record.{shape_of, loop_of, render_of, fresh_with, given}
use Rattle.player.specs.Messages.{clamped_start, clamped_end, clamped, bad_time, on_start, ramp_at_stop, on_stop, on_loop, handled, buffered}
use Rattle.ramps.specs.Ramps as ramps
use Rattle.buffer.specs.declared.Shape.{Shape}
use Rattle.player.specs.declared.Player.{Player}
use Rattle.player.specs.declared.PlayerOptions.{PlayerOptions}
use Rattle.player.specs.declared.ControlMessage.{ControlMessage}
use Rattle.player.specs.declared.ControlMessage.TheVariants.{Start, Stop, Loop, LoopStart, LoopEnd}
use Rattle.buffer.specs.declared.refusals.Refusal.{Refusal}
use Rattle.std.specs.Prelude.{Result, Ok, Err}
use Rattle.buffer.specs.declared.refusals.Refusal.TheVariants as refused
use Rattle.claims.specs.Calls.{Call, buffer, message, block, is_done, left, accepts, next, typed, Event, after, after_all, is_block_call, point_in, gathered}
use Rattle.claims.proofs.Chain.{Chain, NoBlocks}

-- what was received so far
pub record Received : Type 0 where
  pub has_start : Bool
  pub start : Float
  pub stop : Float
  pub offset : Float
  pub length : Float
  pub looped : Bool
  pub has_buffer : Bool
  pub shape : Shape

-- the clip's duration, and 0 without a clip
abbrev end_of : Bool → Shape → Float
end_of has shape = cond has (duration shape.frames shape.rate) float_zero

-- the player then, with these loop points
abbrev pointed : Float → PlayerOptions → Received → Bool → Float → Float → Player
pointed rate options a has from to = record {
  sample_rate = rate;
  start_time = context a.start;
  stop_time = context a.stop;
  offset = in_clip a.offset;
  duration = in_clip a.length;
  loop_state = loop_of a.looped from to;
  render_state = render_of float_zero false false float_zero false false;
  has_start = a.has_start;
  has_buffer = has;
  shape = a.shape;
  has_block = false;
  block_time = context float_zero;
  tolerances = options.tolerances;
  ramp = ramps.fresh options.ramp;
}

abbrev pub opened : Float → PlayerOptions → Received → Player
opened rate options a = pointed rate options a a.has_buffer float_zero (end_of a.has_buffer a.shape)

abbrev pub nothing : Received
nothing = record { has_start = false; start = never; stop = never; offset = float_zero; length = never; looped = false; has_buffer = false; shape = shape_of 0 0 (of_bits binary32 0) }

pub fresh_is : (rate : Float) (options : PlayerOptions) → fresh_with rate options ≡ opened rate options nothing
unfolding fresh_with
fresh_is rate options = refl

-- one call more
abbrev pub receive : Received → Call → Received
receive a (buffer channels frames rate samples) = record { has_start = a.has_start; start = a.start; stop = a.stop; offset = a.offset; length = a.length; looped = a.looped; has_buffer = true; shape = shape_of channels frames rate }
receive a (message (Start when offset duration)) = record { has_start = true; start = when; stop = a.stop; offset = offset; length = duration; looped = a.looped; has_buffer = a.has_buffer; shape = a.shape }
receive a (message (Stop when)) = record { has_start = a.has_start; start = a.start; stop = when; offset = a.offset; length = a.length; looped = a.looped; has_buffer = a.has_buffer; shape = a.shape }
receive a (message (Loop on)) = record { has_start = a.has_start; start = a.start; stop = a.stop; offset = a.offset; length = a.length; looped = on; has_buffer = a.has_buffer; shape = a.shape }
receive a (message (LoopStart at)) = a
receive a (message (LoopEnd at)) = a
receive a (block out samples time rate factor) = a

-- a clip that was received is of a shape and a rate that the table accepts
pub record Sound (channels frames : ℕ) (rate : Float) : Type 0 where
  pub some : 1 ≤ channels
  pub few : channels ≤ 32
  pub long : 1 ≤ frames
  pub short : frames ≤ 16777216
  pub proper : T (valid_rate rate)
  pub single : T (fits binary32 rate)

abbrev pub SoundIf : Received → Type 0
SoundIf a = a.has_buffer ≡ true → Sound a.shape.channels a.shape.frames a.shape.rate

-- ---- clamping the loop points
not-below : lt float_zero float_zero ≡ false
unfolding lt of_bits
not-below = refl

is_none : le float_zero float_zero ≡ true
unfolding le lt eq of_bits
is_none = refl

pub keep_start : (d : Float) → lt d float_zero ≡ false → clamped_start float_zero d ≡ float_zero
unfolding clamped_start
keep_start d h = simp (not-below, h)

either : (b : Bool) (d : Float) → cond b d d ≡ d
either true d = refl
either false d = refl

pub keep_end : (d : Float) → clamped_end d d ≡ d
unfolding clamped_end
keep_end d = either (le d float_zero || lt d d) d

set_end : (d : Float) → clamped_end float_zero d ≡ d
unfolding clamped_end
set_end d = simp is_none

-- the loop points of a clip that stands are kept, and those of one that has just come are set
module _ (rate : Float) (options : PlayerOptions) (a : Received) where
  clamp_keeps : (a.has_buffer ≡ true → lt (duration a.shape.frames a.shape.rate) float_zero ≡ false) → clamped (opened rate options a) ≡ opened rate options a
  unfolding clamped
  clamp_keeps h = go a.has_buffer h
    where
      go : (b : Bool) → (b ≡ true → lt (duration a.shape.frames a.shape.rate) float_zero ≡ false) → clamped (pointed rate options a b float_zero (end_of b a.shape)) ≡ pointed rate options a b float_zero (end_of b a.shape)
      go true k = ap₂ (λ (x y : Float). pointed rate options a true x y) (keep_start _ (k refl)) (keep_end _)
      go false k = refl

  clamp_sets : lt (duration a.shape.frames a.shape.rate) float_zero ≡ false → clamped (pointed rate options a true float_zero float_zero) ≡ pointed rate options a true float_zero (duration a.shape.frames a.shape.rate)
  unfolding clamped
  clamp_sets h = ap₂ (λ (x y : Float). pointed rate options a true x y) (keep_start _ h) (set_end _)

-- ---- an accepted call
-- what the refusals' tests leave
two_tests : (x y : Bool) (m n : Refusal) (p q : Player) → is_done (cond x (Err m) (cond y (Err n) (Ok q))) ≡ true → left (cond x (Err m) (cond y (Err n) (Ok q))) p ≡ q
two_tests true y m n p q h = absurd (false≢true h)
two_tests false true m n p q h = absurd (false≢true h)
two_tests false false m n p q h = refl

pub record Four (w x y z : Bool) (a : Result Player Refusal) (p q : Player) : Type 0 where
  pub first : w ≡ true
  pub second : x ≡ true
  pub third : y ≡ false
  pub fourth : z ≡ false
  pub result : left a p ≡ q

four_tests : (w x y z : Bool) (p q : Player) → is_done (cond (not w) (Err refused.Shape) (cond (not x) (Err refused.Rate) (cond y (Err refused.Second) (cond z (Err refused.Empty) (Ok q))))) ≡ true
    → Four w x y z (cond (not w) (Err refused.Shape) (cond (not x) (Err refused.Rate) (cond y (Err refused.Second) (cond z (Err refused.Empty) (Ok q))))) p q
four_tests false x y z p q h = absurd (false≢true h)
four_tests true false y z p q h = absurd (false≢true h)
four_tests true true true z p q h = absurd (false≢true h)
four_tests true true false true p q h = absurd (false≢true h)
four_tests true true false false p q h = record { first = refl; second = refl; third = refl; fourth = refl; result = refl }

no_point : {A : Type 0} (x : A) (l : List A) → (x ∷ l) ≡ [] → ⊥
no_point x l e = let z : ◌≡◌ {A = ℕ} 0 1 = cc in omega arith

-- a positive duration for every clip that the table accepts
abbrev pub SomeSeconds : Type 0
SomeSeconds = (n : ℕ) (r : Float) → 1 ≤ n → n ≤ 16777216 → T (fits binary32 r) → T (valid_rate r) → lt (duration n r) float_zero ≡ false

module _ (seconds : SomeSeconds) (rate : Float) (options : PlayerOptions) where
  stands : (a : Received) → SoundIf a → a.has_buffer ≡ true → lt (duration a.shape.frames a.shape.rate) float_zero ≡ false
  stands a s h = let k = s h in seconds a.shape.frames a.shape.rate k.long k.short k.single k.proper

  open_buffer : (a : Received) (channels frames : ℕ) (r : Float) (samples : List ℕ) → is_done (buffered (opened rate options a) channels frames r (length samples)) ≡ true → T (fits binary32 r)
      → (left (buffered (opened rate options a) channels frames r (length samples)) (opened rate options a) ≡ opened rate options (receive a (buffer channels frames r samples))) × Sound channels frames r
  unfolding buffered
  open_buffer a channels frames r samples h t =
      let p = opened rate options a in
      let q = clamped (given p (shape_of channels frames r)) in
      let f = four_tests (valid_shape channels frames (length samples)) (valid_rate r) a.has_buffer (eqb frames 0) p q h in
      let v : Valid channels frames (length samples) = valid channels frames (length samples) f.first in
      let one_more : 1 ≤ frames = at_least frames (eqb-false frames 0 f.fourth) in
      let s : Sound channels frames r = record { some = v.some; few = v.few; long = one_more; short = v.short; proper = subst T (sym f.second) tt; single = t } in
      let b = receive a (buffer channels frames r samples) in (
        f.result
            ∙ ap (λ (x : Bool). clamped (pointed rate options b true float_zero (end_of x a.shape))) f.third
            ∙ clamp_sets rate options b (seconds frames r one_more v.short t s.proper),
        s,
      )
    where
      at_least : (n : ℕ) → (n ≡ 0 → ⊥) → 1 ≤ n
      at_least zero h = absurd (h refl)
      at_least (suc n) h = omega arith

  open_message : (a : Received) (m : ControlMessage) → SoundIf a → is_done (handled (opened rate options a) m) ≡ true → point_in (message m) ≡ []
      → (left (handled (opened rate options a) m) (opened rate options a) ≡ opened rate options (receive a (message m))) × SoundIf (receive a (message m))
  unfolding handled on_start on_stop on_loop ramp_at_stop
  open_message a (Start when offset length) s h n =
      let b = receive a (message (Start when offset length)) in
      (two_tests (bad_time when || bad_time offset || bad_time length) a.has_start refused.Value refused.Second (opened rate options a) _ h ∙ clamp_keeps rate options b (stands b s), s)
  open_message a (Stop when) s h n =
      let b = receive a (message (Stop when)) in
      (two_tests (bad_time when) (not a.has_start) refused.Value refused.Early (opened rate options a) _ h ∙ clamp_keeps rate options b (stands b s), s)
  open_message a (Loop on) s h n = let b = receive a (message (Loop on)) in (clamp_keeps rate options b (stands b s), s)
  open_message a (LoopStart at) s h n = absurd (no_point at [] n)
  open_message a (LoopEnd at) s h n = absurd (no_point at [] n)

  open_call : (a : Received) (c : Call) → SoundIf a → accepts (opened rate options a) c ≡ true → T (typed c) → is_block_call c ≡ false → point_in c ≡ []
      → (next (opened rate options a) c ≡ opened rate options (receive a c)) × SoundIf (receive a c)
  unfolding accepts next
  open_call a (buffer channels frames r samples) s h t b n = let o = open_buffer a channels frames r samples h t in (o.0, λ (e : true ≡ true). o.1)
  open_call a (message m) s h t b n = open_message a m s h n
  open_call a (block out samples time r factor) s h t b n = absurd (true≢false b)

-- ---- all the calls before the first block
abbrev pub receive_all : Received → List Event → Received
receive_all a [] = a
receive_all a (e ∷ es) = receive_all (receive a e.call) es

-- the first of two lists is empty where their sum is
pub front_none : {A : Type 0} (xs ys : List A) → xs ++ ys ≡ [] → xs ≡ []
front_none [] ys e = refl
front_none (x ∷ xs) ys e = absurd (no_point x (xs ++ ys) e)

back_none : {A : Type 0} (xs ys : List A) → xs ++ ys ≡ [] → ys ≡ []
back_none [] ys e = e
back_none (x ∷ xs) ys e = absurd (no_point x (xs ++ ys) e)

pub open_all : (seconds : SomeSeconds) (rate : Float) (options : PlayerOptions) (a : Received) (p : Player) (es : List Event) → p ≡ opened rate options a → SoundIf a → Chain p es → NoBlocks es → gathered point_in es ≡ []
    → (after_all p es ≡ opened rate options (receive_all a es)) × SoundIf (receive_all a es)
open_all seconds rate options a p [] is s ch nb np = (is, s)
open_all seconds rate options a p (e ∷ es) is s ch nb np =
    let l = ch.0 in
    let n : point_in e.call ≡ [] = front_none (point_in e.call) (gathered point_in es) np in
    let o = open_call seconds rate options a e.call s (ap (λ (q : Player). accepts q e.call) (sym is) ∙ l.taken) l.fits nb.0 n in
    let same : next p e.call ≡ after e = ap (λ (q : Player). next q e.call) (sym l.got) in
    let here : after e ≡ opened rate options (receive a e.call) = sym same ∙ ap (λ (q : Player). next q e.call) is ∙ o.0 in
    open_all seconds rate options (receive a e.call) (after e) es here o.1 (subst (λ (q : Player). Chain q es) same ch.1) nb.1 (back_none (point_in e.call) (gathered point_in es) np)
