-- From what the opening holds to the player before its first block, beside the tape. Assumes nothing.
use mathlib.Core.Path.{◌≡◌, refl, sym, ap, ◌∙◌, subst}
use mathlib.Core.Logic.{inr}
use mathlib.Core.Bool.{Bool, true, false, cond, true≢false, false≢true}
use mathlib.Core.List.{List, [], ◌∷◌, ◌++◌}
use Prim.Native.Nat.{ℕ, suc, ◌≤◌}
use native.Mathlib.Omega.{arith}
use lib.Dec.{T}
use lib.ListN.{length}
use lib.Ieee.{Float, binary32, fits, le, eq}
use lib.Ieee.Bits.{is_true}
use Rattle.buffer.specs.Limits.{valid_rate}
use Rattle.buffer.specs.declared.Shape.{Shape}
use Rattle.seconds.specs.Seconds.{float_zero, never}
use Rattle.player.specs.Record.{shape_of, fresh_with}
use Rattle.player.specs.declared.Player.{Player}
use Rattle.player.specs.declared.PlayerOptions.{PlayerOptions}
use Rattle.player.specs.declared.ControlMessage.TheVariants.{Start, Stop, Loop, LoopStart, LoopEnd}
use Rattle.ramps.specs.Ramps as ramps
use Rattle.tape.specs.Tape as tape
use Rattle.tape.specs.Tape.{Tape, Step, stepped, stepped_all, stays_off}
use Rattle.claims.specs.Calls.{Call, buffer, message, block, all_typed, Event, accepted, after_all, time_of, is_block_call, opening, playing, Clip, Started, clip_in, start_in, stop_in, switch_in, point_in, gathered}
use Rattle.claims.specs.LongRun.{starts_in_time, switched_on}
use Rattle.claims.specs.LoopSwitch.{step_in, OnlySteps}
use Rattle.claims.proofs.Units.{Rate, rate_of}
use Rattle.claims.proofs.Position.{frames_zero, elapsed_none, clip_not_none}
use Rattle.claims.proofs.Chain.{Chain, NoBlocks, chain, no_blocks, chain_opening, chain_playing}
use Rattle.claims.proofs.Opening.{Received, opened, nothing, fresh_is, receive, receive_all, Sound, SoundIf, SomeSeconds, open_all}
use Rattle.claims.proofs.Unswitched.{begun}
use Rattle.claims.proofs.States.{Setup, Ground, State, standing, Alive}
use Rattle.claims.proofs.Run.{stop_of, alive, First, Moment}

-- ---- what was received, by what the opening holds of each kind
abbrev last_by : {A B : Type 0} → (A → B) → B → List A → B
last_by f d [] = d
last_by f d (x ∷ xs) = last_by f (f x) xs

received : {A B : Type 0} (part : Received → B) (kind : Call → List A) (f : A → B) → ((a : Received) (c : Call) (rest : List A) → last_by f (part a) (kind c ++ rest) ≡ last_by f (part (receive a c)) rest)
    → (a : Received) (es : List Event) → part (receive_all a es) ≡ last_by f (part a) (gathered kind es)
received part kind f one a [] = refl
received part kind f one a (e ∷ es) = received part kind f one (receive a e.call) es ∙ sym (one a e.call (gathered kind es))

record Held : Type 0 where
  has : Bool
  shape : Shape

start_part : Received → Started
start_part a = record { when = a.start; offset = a.offset; duration = a.length }

start_one : (a : Received) (c : Call) (rest : List Started) → last_by (λ s. s) (start_part a) (start_in c ++ rest) ≡ last_by (λ s. s) (start_part (receive a c)) rest
unfolding start_part
start_one a (buffer channels frames rate samples) rest = refl
start_one a (message (Start when offset duration)) rest = refl
start_one a (message (Stop when)) rest = refl
start_one a (message (Loop on)) rest = refl
start_one a (message (LoopStart at)) rest = refl
start_one a (message (LoopEnd at)) rest = refl
start_one a (block out samples time rate factor) rest = refl

clip_part : Received → Held
clip_part a = record { has = a.has_buffer; shape = a.shape }

held_clip : Clip → Held
held_clip c = record { has = true; shape = shape_of c.channels c.frames c.rate }

clip_one : (a : Received) (c : Call) (rest : List Clip) → last_by held_clip (clip_part a) (clip_in c ++ rest) ≡ last_by held_clip (clip_part (receive a c)) rest
unfolding clip_part held_clip
clip_one a (buffer channels frames rate samples) rest = refl
clip_one a (message (Start when offset duration)) rest = refl
clip_one a (message (Stop when)) rest = refl
clip_one a (message (Loop on)) rest = refl
clip_one a (message (LoopStart at)) rest = refl
clip_one a (message (LoopEnd at)) rest = refl
clip_one a (block out samples time rate factor) rest = refl

stop_one : (a : Received) (c : Call) (rest : List Float) → last_by (λ s. s) a.stop (stop_in c ++ rest) ≡ last_by (λ s. s) (receive a c).stop rest
stop_one a (buffer channels frames rate samples) rest = refl
stop_one a (message (Start when offset duration)) rest = refl
stop_one a (message (Stop when)) rest = refl
stop_one a (message (Loop on)) rest = refl
stop_one a (message (LoopStart at)) rest = refl
stop_one a (message (LoopEnd at)) rest = refl
stop_one a (block out samples time rate factor) rest = refl

switch_one : (a : Received) (c : Call) (rest : List Bool) → last_by (λ s. s) a.looped (switch_in c ++ rest) ≡ last_by (λ s. s) (receive a c).looped rest
switch_one a (buffer channels frames rate samples) rest = refl
switch_one a (message (Start when offset duration)) rest = refl
switch_one a (message (Stop when)) rest = refl
switch_one a (message (Loop on)) rest = refl
switch_one a (message (LoopStart at)) rest = refl
switch_one a (message (LoopEnd at)) rest = refl
switch_one a (block out samples time rate factor) rest = refl

-- at most one of a kind: the last is the first
only_stop : (l : List Float) → length l ≤ 1 → last_by (λ s. s) never l ≡ stop_of l
only_stop [] h = refl
only_stop (x ∷ []) h = refl
only_stop (x ∷ y ∷ l) h = absurd (two (length l) h)
  where
    two : (n : ℕ) → suc (suc n) ≤ 1 → ⊥
    two n h = omega arith

only_switch : (l : List Bool) → length l ≤ 1 → last_by (λ s. s) false l ≡ switched_on l
only_switch [] h = refl
only_switch (x ∷ []) h = refl
only_switch (x ∷ y ∷ l) h = absurd (two (length l) h)
  where
    two : (n : ℕ) → suc (suc n) ≤ 1 → ⊥
    two n h = omega arith

pub loop_of_switch : (es : List Event) → length (gathered switch_in es) ≤ 1 → (receive_all nothing es).looped ≡ switched_on (gathered switch_in es)
loop_of_switch es h = received (λ (a : Received). a.looped) switch_in (λ s. s) switch_one nothing es ∙ only_switch (gathered switch_in es) h

-- ---- the tape meanwhile: the loop messages alone
loops_one : (n l : ℕ) (a : Received) (c : Call) (rest : List Step) → is_block_call c ≡ false → stepped_all n l (begun a.looped) (step_in c ++ rest) ≡ stepped_all n l (begun (receive a c).looped) rest
unfolding stepped_all stepped
loops_one n l a (buffer channels frames rate samples) rest h = refl
loops_one n l a (message (Start when offset duration)) rest h = refl
loops_one n l a (message (Stop when)) rest h = refl
loops_one n l a (message (Loop on)) rest h = refl
loops_one n l a (message (LoopStart at)) rest h = refl
loops_one n l a (message (LoopEnd at)) rest h = refl
loops_one n l a (block out samples time rate factor) rest h = absurd (true≢false h)

pub loops : (n l : ℕ) (a : Received) (es : List Event) → NoBlocks es → stepped_all n l (begun a.looped) (gathered step_in es) ≡ begun (receive_all a es).looped
unfolding stepped_all
loops n l a [] h = refl
loops n l a (e ∷ es) h = loops_one n l a e.call (gathered step_in es) h.0 ∙ loops n l (receive a e.call) es h.1

-- ---- a clip's duration is above 0
pub some_seconds : SomeSeconds
some_seconds n r l s f t = let q = rate_of r f t in (clip_not_none r q.units q.value q.low q.high n l s).1

-- ---- the premises of both statements, before the first block
pub record Begins (rate : Float) (es : List Event) : Type 0 where
  pub clip : Clip
  pub start : Started
  pub one_clip : gathered clip_in (opening es) ≡ clip ∷ []
  pub own_rate : clip.rate ≡ rate
  pub one_start : gathered start_in (opening es) ≡ start ∷ []
  pub in_time : T (starts_in_time start.when (playing es))
  pub no_offset : T (eq start.offset float_zero)
  pub no_duration : start.duration ≡ never
  pub few_stops : length (gathered stop_in (opening es)) ≤ 1
  pub no_points : gathered point_in (opening es) ≡ []

-- the start is not after the first block
first_block : (x : State) (es : List Event) → T (starts_in_time x.start (playing es)) → First x (playing es)
unfolding playing
first_block x [] h = tt
first_block x (e ∷ es) h = go (is_block_call e.call) refl h (first_block x es)
  where
    go : (b : Bool) → is_block_call e.call ≡ b → T (starts_in_time x.start (cond b (e ∷ es) (playing es))) → (T (starts_in_time x.start (playing es)) → First x (playing es)) → First x (cond b (e ∷ es) (playing es))
    go true i k rest = (i, is_true (le x.start (time_of e.call)) k)
    go false i k rest = rest k

-- put to use
module _ (rate : Float) (options : PlayerOptions) (quiet : options.ramp ≡ 0) (f : T (fits binary32 rate)) (t : T (valid_rate rate)) (calls : List Call) (ty : T (all_typed calls)) (h : Begins rate (accepted (fresh_with rate options) calls)) where
  abbrev es : List Event
  es = accepted (fresh_with rate options) calls

  abbrev pub got : Received
  got = receive_all nothing (opening es)

  abbrev pub setup : Setup
  setup = record { rate = rate; channels = h.clip.channels; frames = h.clip.frames; stop = stop_of (gathered stop_in (opening es)); tolerances = options.tolerances }

  abbrev pub first : State
  first = record {
    looped = got.looped;
    has_start = got.has_start;
    start = h.start.when;
    offset = h.start.offset;
    position = float_zero;
    elapsed = float_zero;
    started = false;
    entered = false;
    aligned = false;
    ended = false;
    has_block = false;
    time = float_zero;
    ramp = ramps.fresh 0;
  }

  starts_are : start_part got ≡ h.start
  starts_are = received start_part start_in (λ s. s) start_one nothing (opening es) ∙ ap (last_by (λ s. s) (start_part nothing)) h.one_start

  clips_are : clip_part got ≡ held_clip h.clip
  clips_are = received clip_part clip_in held_clip clip_one nothing (opening es) ∙ ap (last_by held_clip (clip_part nothing)) h.one_clip

  stop_is : got.stop ≡ stop_of (gathered stop_in (opening es))
  stop_is = received (λ (a : Received). a.stop) stop_in (λ s. s) stop_one nothing (opening es) ∙ only_stop (gathered stop_in (opening es)) h.few_stops

  all_open : (after_all (fresh_with rate options) (opening es) ≡ opened rate options got) × SoundIf got
  all_open =
      open_all some_seconds rate options nothing (fresh_with rate options) (opening es) (fresh_is rate options) (λ (e : false ≡ true). absurd (false≢true e))
      (chain_opening (fresh_with rate options) es (chain (fresh_with rate options) calls ty)) (no_blocks es) h.no_points

  has_is : got.has_buffer ≡ true
  unfolding clip_part held_clip
  has_is = ap (λ (x : Held). x.has) clips_are

  shape_is : got.shape ≡ shape_of h.clip.channels h.clip.frames rate
  unfolding clip_part held_clip
  shape_is = ap (λ (x : Held). x.shape) clips_are ∙ ap (shape_of h.clip.channels h.clip.frames) h.own_rate

  start_is : got.start ≡ h.start.when
  unfolding start_part
  start_is = ap (λ (x : Started). x.when) starts_are

  offset_is : got.offset ≡ h.start.offset
  unfolding start_part
  offset_is = ap (λ (x : Started). x.offset) starts_are

  length_is : got.length ≡ never
  unfolding start_part
  length_is = ap (λ (x : Started). x.duration) starts_are ∙ h.no_duration

  pub sound : Sound h.clip.channels h.clip.frames rate
  sound = subst (λ (s : Shape). Sound s.channels s.frames s.rate) shape_is (all_open.1 has_is)

  opened_is : opened rate options got ≡ standing setup first
  opened_is = simp (start_is, stop_is, offset_is, length_is, has_is, shape_is, quiet)

  pub first_is : after_all (fresh_with rate options) (opening es) ≡ standing setup first
  first_is = all_open.0 ∙ opened_is

  pub q : Rate rate
  q = rate_of rate f t

  abbrev pub ground : Ground
  ground = record {
    setup = setup;
    units = q.units;
    value = q.value;
    low = q.low;
    high = q.high;
    long = sound.long;
    short = sound.short;
    few = sound.few;
    samples = h.clip.samples;
  }

  pub ready : Alive setup q.units 0 first
  ready = record {
    going = refl;
    ready = inr (refl, is_true _ h.no_offset);
    elapsed = elapsed_none;
    inside = omega arith;
    place = record { steps = 0; few = omega arith; near = frames_zero rate q.units };
  }

  pub tape_is : (n : ℕ) → stepped_all n h.clip.frames tape.fresh (gathered step_in (opening es)) ≡ begun got.looped
  tape_is n = loops n h.clip.frames nothing (opening es) (no_blocks es)

  pub moment : (X : Float → Type 0) → OnlySteps h.clip.samples (playing es) → T (stays_off 128 h.clip.frames (begun got.looped) (gathered step_in (playing es)))
      → Moment ground X (begun got.looped) first (playing es)
  moment X only off = record {
    inv = alive ready refl refl;
    chain = subst (λ (p : Player). Chain p (playing es)) first_is (chain_playing (fresh_with rate options) es (chain (fresh_with rate options) calls ty));
    only = only;
    ordered = inr (first_block first es h.in_time);
    premised = record { cleared = refl; fit = λ e. absurd (false≢true e); off = off };
  }
