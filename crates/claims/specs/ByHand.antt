-- The statements' definitions beside players, clips and numbers
-- (docs/REFERENCE.md, 'The long run', 'The loop switch', 'Detune in cents', 'Conversion' and 'Near tests and tolerances'): facts that can
-- be followed by hand; an edit of must-fail does not meet one of them. Others stand beside the definitions, in LongRun.antt and
-- LoopSwitch.antt. Definitions only.
use Rattle.std.specs.Prelude.{◌≡◌, true, false, List, [], ◌∷◌, pos, negsuc, replicate, Float}
use Rattle.std.specs.Float.{fin}
use Rattle.seconds.specs.Seconds.{float_zero, one}
use Rattle.player.specs.Record.{fresh_with}
use Rattle.player.specs.declared.Player.{Player}
use Rattle.tolerances.specs.declared.Tolerances.{Tolerances}
use Rattle.player.specs.declared.PlayerOptions.{PlayerOptions}
use Rattle.reshape.specs.Known.{single, mono}
use Rattle.claims.specs.GivenNumbers as given
use Rattle.claims.specs.Calls.{Call, block, accepted, playing, after_all, is_ended}
use Rattle.claims.specs.LongRun.{Stands}
use Rattle.claims.specs.LoopSwitch.{SwitchPremises}
use Rattle.claims.specs.Longer.{as_call}
use Rattle.claims.specs.Conversions.{SameInstant}
use Rattle.claims.specs.Instances.{rate, frames, start, tick, tock, looped_calls, plain_calls, stopped_calls, cents_at, all_heard, said, unramped}
use Rattle.claims.specs.SwitchInstances.{clip, block_at, switch, third}

-- the player that a list of calls leaves
abbrev pub after_calls : PlayerOptions → List Call → Player
after_calls options calls = after_all (fresh_with rate options) (accepted (fresh_with rate options) calls)

-- 128 frames looped, after one block: the exact position is frame 128, and not 0
abbrev pub one_looped : List Call
one_looped = clip 128 ∷ start ∷ switch true ∷ block_at 128 float_zero ∷ []

-- 640 frames, after five blocks: the reported seconds lie a little below the clip's end, so that it has not ended
abbrev pub five_plain : List Call
five_plain =
    clip 640 ∷ start ∷ block_at 640 float_zero ∷ block_at 640 tick ∷ block_at 640 tock ∷ block_at 640 third
    ∷ block_at 640 (fin false 1 (negsuc 5)) ∷ []

-- 2, 5/4 and 1/2
abbrev pub two : Float
two = fin false 1 (pos 1)

abbrev pub five_quarters : Float
five_quarters = fin false 5 (negsuc 1)

abbrev pub half : Float
half = fin false 1 (negsuc 0)

pub record ByHand : Type 0 where
  -- the long run: the bits of two blocks without a ramp, and where the player stands
  pub looped_bits : (t : Tolerances)
      → all_heard (playing (accepted (fresh_with rate (unramped t)) looped_calls)) ≡ said true 0 ∷ said true 1 ∷ []
  pub plain_bits : (t : Tolerances)
      → all_heard (playing (accepted (fresh_with rate (unramped t)) plain_calls)) ≡ said false 0 ∷ said false 1 ∷ []
  pub looped_stands : (options : PlayerOptions) → Stands rate true 128 1 (after_calls options one_looped)
  pub plain_stands : (options : PlayerOptions) → Stands rate false 640 5 (after_calls options five_plain)
  pub plain_goes_on : (options : PlayerOptions) → is_ended (after_calls options five_plain) ≡ false
  -- the loop switch: a list with a stop is none of its lists
  pub no_stop : (options : PlayerOptions) → SwitchPremises rate (accepted (fresh_with rate options) stopped_calls) → ⊥
  -- a block in cents: an octave up is the block with factor 2
  pub octave : as_call (cents_at tick (pos 1200)) ≡ block (replicate 4096 7) frames tick one two
  -- conversion: frame 1 from 44,100 to 48,000
  pub instant : SameInstant (single 44100) (single 48000) 1
  -- the given numbers: each test has its own, the two others being 0
  pub near : given.is_near half float_zero float_zero one five_quarters ≡ true
  pub not_near : given.is_near float_zero half half one five_quarters ≡ false
  pub near_zero : given.is_near_zero float_zero one float_zero half ≡ true
  pub not_near_zero : given.is_near_zero one float_zero one half ≡ false
  pub relabels : given.relabels float_zero float_zero one (mono 1 48000) (single 48001) ≡ true
  pub converts : given.relabels one one float_zero (mono 1 48000) (single 48001) ≡ false
