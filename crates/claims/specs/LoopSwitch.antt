-- The loop switched during playback (docs/REFERENCE.md, 'The loop switch'): one claim about one list of calls, refused ones included. What
-- the tape is without a switch during playback, which is the rule of the long run (LongRun.antt), stands at the end. Definitions, and a
-- tape by hand.
use Rattle.std.specs.Prelude.{◌≡◌, Bool, true, false, not, ◌&&◌, cond, List, [], ◌∷◌, ◌++◌, ℕ, ◌*◌, ◌<◌, ltb, T, replicate, Float}
use Rattle.std.specs.Float.{binary32}
use Rattle.std.specs.Float.Ieee.{fits, eq}
use Rattle.std.proofs.Math.Path.{refl}
use Rattle.seconds.specs.Seconds.{float_zero, never, one}
use Rattle.buffer.specs.Limits.{valid_rate}
use Rattle.buffer.specs.Channels.{channel}
use Rattle.player.specs.Record.{fresh_with}
use Rattle.player.specs.declared.Player.{Player}
use Rattle.player.specs.declared.PlayerOptions.{PlayerOptions}
use Rattle.player.specs.declared.ControlMessage.TheVariants.{Start, Stop, Loop, LoopStart, LoopEnd}
use Rattle.tape.specs.Tape as tape
use Rattle.tape.specs.Tape.{Tape, Step, loop_is, a_block, stepped, stepped_all, frame_at, bits_of, stays_off}
use Rattle.claims.specs.Calls.{Call, buffer, message, block, all_typed, Event, accepted, after, after_all, is_block_call, channels_of, sample_of, is_ended}
use Rattle.claims.specs.Calls.{opening, playing, Clip, Started, clip_in, start_in, stop_in, point_in, gathered}
use Rattle.claims.specs.LongRun.{starts_in_time, PlainBlock, Premises, frame_bits, exact_frames, Reports, Over}

-- ---- the tape that a list is followed with
-- of the accepted calls, the loop messages and the blocks
abbrev pub step_in : Call → List Step
step_in (buffer channels frames rate samples) = []
step_in (message (Start when offset duration)) = []
step_in (message (Stop when)) = []
step_in (message (Loop on)) = loop_is on ∷ []
step_in (message (LoopStart at)) = []
step_in (message (LoopEnd at)) = []
step_in (block out samples time rate factor) = a_block ∷ []

-- the tape after these calls, for a clip of l frames
abbrev pub tape_after : ℕ → List Event → Tape
tape_after l es = stepped_all 128 l tape.fresh (gathered step_in es)

-- by hand, a clip of 192 frames: on and two blocks, so that the tape wraps at frame 192 and comes to 64; off and a block, an exact fit
abbrev by : Player → Call → Event
by p c = record { before = p; call = c }

abbrev some_block : Call
some_block = block [] [] float_zero one one

tape_by_hand : (p : Player)
    → tape_after 192 (by p (message (Loop true)) ∷ by p some_block ∷ by p some_block ∷ by p (message (Loop false)) ∷ by p some_block ∷ [])
    ≡ record { looped = false; head = record { p = 192; wrap = false }; exact_fit = true; ended = false }
unfolding tape.head_at stepped stepped_all
tape_by_hand p = refl

-- ---- the premises: those of the long run, but that no stop is accepted, and that loop messages may stand anywhere
-- from the first block on only blocks and loop messages, each block lent that clip unaltered, at rate and factor 1
abbrev pub PlainStep : List ℕ → Call → Type 0
PlainStep clip (buffer channels frames rate samples) = ⊥
PlainStep clip (message (Start when offset duration)) = ⊥
PlainStep clip (message (Stop when)) = ⊥
PlainStep clip (message (Loop on)) = Unit {0}
PlainStep clip (message (LoopStart at)) = ⊥
PlainStep clip (message (LoopEnd at)) = ⊥
PlainStep clip (block out samples time rate factor) = PlainBlock clip (block out samples time rate factor)

abbrev pub OnlySteps : List ℕ → List Event → Type 0
OnlySteps clip [] = Unit {0}
OnlySteps clip (e ∷ es) = PlainStep clip e.call × OnlySteps clip es

pub record SwitchPremises (rate : Float) (es : List Event) : Type 0 where
  pub clip : Clip
  pub start : Started
  pub one_clip : gathered clip_in (opening es) ≡ clip ∷ []
  pub own_rate : clip.rate ≡ rate
  pub one_start : gathered start_in (opening es) ≡ start ∷ []
  pub in_time : T (starts_in_time start.when (playing es))
  pub no_offset : T (eq start.offset float_zero)
  pub no_duration : start.duration ≡ never
  pub no_stop : gathered stop_in (opening es) ≡ []
  pub no_points : gathered point_in (opening es) ≡ []
  pub only_steps : OnlySteps clip.samples (playing es)
  -- after an exact fit, no loop-on message before the next block
  pub stays_off : T (stays_off 128 clip.frames tape.fresh (gathered step_in es))

-- ---- the conclusions

-- The player at one moment, and the tape t: an unlooped block that finished with p above L has ended it, and nothing earlier does except an
-- exact fit; until the end the position is within 1/1024 frame of p.
pub record Beside (rate : Float) (t : Tape) (p : Player) : Type 0 where
  pub has_ended : t.ended ≡ true → is_ended p ≡ true
  pub not_before : t.ended ≡ false → t.exact_fit ≡ false → is_ended p ≡ false
  pub position : is_ended p ≡ false → Reports rate p.render_state.buffer_time.0 t.head.p

-- Accepted block e, before which the tape is t: in every answered channel the tape's bits; and where the last block was an exact fit, this
-- one has ended the player.
pub record Follows (clip : Clip) (t : Tape) (e : Event) : Type 0 where
  pub channels : channels_of e ≡ cond (is_ended e.before) 1 clip.channels
  pub plays : (c i : ℕ) → c < channels_of e → i < 128
      → sample_of e c i ≡ bits_of (channel clip.samples clip.frames c) (frame_at clip.frames t i)
  pub after_fit : t.exact_fit ≡ true → is_ended (after e) ≡ true

pub record Switched (rate : Float) (options : PlayerOptions) (es : List Event) (clip : Clip) : Type 0 where
  -- after every front part of the list
  pub beside : (front back : List Event) → es ≡ front ++ back
      → Beside rate (tape_after clip.frames front) (after_all (fresh_with rate options) front)
  -- every block
  pub follows : (front : List Event) (e : Event) (back : List Event) → es ≡ front ++ (e ∷ back) → is_block_call e.call ≡ true
      → Follows clip (tape_after clip.frames front) e
  -- once ended, the player stays so and gives zeros for good, loop messages or not
  pub over : (front back : List Event) → es ≡ front ++ back → is_ended (after_all (fresh_with rate options) front) ≡ true → Over back

-- ---- with no switch during playback, the long run's rule is the tape's
-- the tape after k blocks of n samples, the loop as it was before them
abbrev pub unswitched : ℕ → ℕ → Bool → ℕ → Tape
unswitched n l looped k = stepped_all n l tape.fresh (loop_is looped ∷ replicate k a_block)

pub record NoSwitch (n : ℕ) (looped : Bool) (clip : Clip) (k : ℕ) : Type 0 where
  pub bits : (i c : ℕ)
      → bits_of (channel clip.samples clip.frames c) (frame_at clip.frames (unswitched n clip.frames looped k) i)
      ≡ frame_bits n looped clip k i c
  pub position : (unswitched n clip.frames looped k).ended ≡ false
      → (unswitched n clip.frames looped k).head.p ≡ exact_frames n looped clip.frames k
  -- unlooped it ends with the first block that goes past frame L
  pub ended : (unswitched n clip.frames looped k).ended ≡ (not looped && ltb clip.frames (n * k))

-- ---- the claim
pub record LoopSwitch : Type 0 where
  -- for every output rate that a player can be made for, whatever tolerances it is made with, without a ramp, and every list of calls on
  -- that fresh player
  pub switched : (rate : Float) (options : PlayerOptions) → options.ramp ≡ 0 → T (fits binary32 rate) → T (valid_rate rate)
      → (calls : List Call) → T (all_typed calls)
      → (h : SwitchPremises rate (accepted (fresh_with rate options) calls))
      → Switched rate options (accepted (fresh_with rate options) calls) h.clip
  -- every list of the long run without a stop is one of these lists
  pub older : (rate : Float) (options : PlayerOptions) (calls : List Call) → Premises rate (accepted (fresh_with rate options) calls)
      → gathered stop_in (opening (accepted (fresh_with rate options) calls)) ≡ []
      → SwitchPremises rate (accepted (fresh_with rate options) calls)
  -- and the frames and positions that the long run's statement names are the tape's
  pub same_rule : (n : ℕ) (looped : Bool) (clip : Clip) (k : ℕ) → 0 < n → 0 < clip.frames → NoSwitch n looped clip k
