-- Ramps on lists of calls that can be followed (docs/REFERENCE.md, 'Ramps' and 'Known frames'). Definitions only.
use Rattle.std.specs.Prelude.{◌≡◌, true, false, List, [], ◌∷◌, ℕ, pos, negsuc, replicate, Float, Some, Ok, Err, from_bits}
use Rattle.std.specs.Float.{fin, nan, binary64}
use Rattle.std.specs.Float.Ieee.{add}
use Rattle.seconds.specs.Seconds.{float_zero, never, one, block_end}
use Rattle.buffer.specs.declared.refusals.Refusal.TheVariants as refused
use Rattle.tolerances.specs.Tolerances.{defaults}
use Rattle.ramps.specs.Ramps.{ramp_of, scaled}
use Rattle.player.specs.declared.Player.{Player}
use Rattle.player.specs.declared.PlayerOptions.{PlayerOptions}
use Rattle.player.specs.declared.ControlMessage.TheVariants.{Start, Stop, Loop}
use Rattle.player.specs.Record.{fresh_with}
use Rattle.player.specs.Messages.{made_with}
use Rattle.player.specs.Block.{plan}
use Rattle.claims.specs.Calls.{Call, buffer, message, block, next, is_ended}
use Rattle.claims.specs.Instances.{rate}

-- the default tolerances, and a ramp of r frames
abbrev pub ramp_options : ℕ → PlayerOptions
ramp_options r = record { tolerances = defaults; ramp = r }

-- a block of a clip of one frame
abbrev pub block_at : ℕ → Float → Call
block_at frame time = block (replicate 4096 7) (frame ∷ []) time one one

abbrev pub after_all : Player → List Call → Player
after_all p [] = p
after_all p (c ∷ cs) = after_all (next p c) cs

-- the player of a ramp of r frames, with such a clip at 48,000, looped, after these calls; and sample i of its next block
abbrev pub player : ℕ → ℕ → List Call → Player
player r frame calls =
    after_all (fresh_with rate (ramp_options r)) (buffer 1 1 rate (frame ∷ []) ∷ message (Loop true) ∷ calls)

abbrev pub sample : ℕ → ℕ → List Call → Float → ℕ → ℕ
sample r frame calls time i = (plan 128 (player r frame calls) time one one).sample (frame ∷ []) i

abbrev start_at : Float → Call
start_at when = message (Start when float_zero never)

abbrev stop_at : Float → Call
stop_at when = message (Stop when)

-- 1 and a NaN with a payload, as f32 patterns
abbrev unit : ℕ
unit = 0x3f80_0000

abbrev odd_nan : ℕ
odd_nan = 0x7f80_0001

-- 100 / 48,000 s, 10 ^ -9 s and 6.5 / 48,000 s; 2 ^ 20 s, and 0.0005 s and 0.002 s after it; 375 / 48,000 s
abbrev hundred : Float
hundred = from_bits binary64 0x3f61_1111_1111_1111

abbrev nano : Float
nano = from_bits binary64 0x3e11_2e0b_e826_d695

abbrev six : Float
six = from_bits binary64 0x3f21_bfd4_4f30_7826

abbrev far : Float
far = fin false 1 (pos 20)

abbrev starting : Float
starting = add binary64 far (from_bits binary64 0x3f40_624d_d2f1_a9fc)

abbrev ending : Float
ending = add binary64 far (from_bits binary64 0x3f60_624d_d2f1_a9fc)

abbrev tock : Float
tock = fin false 1 (negsuc 6)

pub record RampInstances : Type 0 where
  -- the start lies at sample 100: the first block counts 28 samples, and sample 100 of the second is number 128
  pub late_start : (player 300 unit (start_at hundred ∷ block_at unit float_zero ∷ [])).ramp ≡ ramp_of 300 28 false 0
  pub uncounted : (plan 128 (player 300 unit (start_at hundred ∷ [])) float_zero one one).uncounted ≡ 100
  pub number_128 : sample 300 unit (start_at hundred ∷ block_at unit float_zero ∷ []) nano 100 ≡ scaled 300 (Some 128) unit
  -- the stop at the block's end, 128: of a clip of NaNs sample 124 keeps its bits, 125 is multiplied
  pub kept : sample 4 odd_nan (start_at float_zero ∷ stop_at (block_end 128 float_zero rate) ∷ []) float_zero 124 ≡ odd_nan
  pub calculated : sample 4 odd_nan (start_at float_zero ∷ stop_at (block_end 128 float_zero rate) ∷ []) float_zero 125 ≡ 0x7fc0_0000
  -- the stop after sample 6: sample 3 is 0.75, and it is not multiplied by both factors
  pub both : sample 4 unit (start_at float_zero ∷ stop_at six ∷ []) float_zero 3 ≡ 0x3f40_0000
  -- far from 0 the start is near the block's time, and becomes it: the stop's sample is 96, and 72 by the start that was told. The block
  -- ends the player, and all of it counts
  pub far_start : (player 4 unit (start_at starting ∷ stop_at ending ∷ block_at unit far ∷ [])).ramp ≡ ramp_of 4 128 true 96
  pub ends : is_ended (player 4 unit (start_at starting ∷ stop_at ending ∷ block_at unit far ∷ [])) ≡ true
  -- a stop told before the start is not worked out, one told later is, and a second one and one at `never` too
  pub early_stop : (player 4 unit (start_at float_zero ∷ stop_at tock ∷ [])).ramp ≡ ramp_of 4 0 false 0
  pub later_stop : (player 4 unit (start_at float_zero ∷ block_at unit float_zero ∷ stop_at tock ∷ [])).ramp ≡ ramp_of 4 128 true 375
  pub second_stop : (player 4 unit (start_at float_zero ∷ block_at unit float_zero ∷ stop_at tock ∷ stop_at float_zero ∷ [])).ramp
      ≡ ramp_of 4 128 true 0
  pub no_stop : (player 4 unit (start_at float_zero ∷ block_at unit float_zero ∷ stop_at tock ∷ stop_at never ∷ [])).ramp
      ≡ ramp_of 4 128 false 0
  -- a block before the start counts nothing
  pub waits : (player 4 unit (start_at far ∷ block_at unit float_zero ∷ [])).ramp ≡ ramp_of 4 0 false 0
  -- a player is made with a ramp of 48,000 frames, and with no longer one; the rate is checked first
  pub longest : made_with rate (ramp_options 48000) ≡ Ok (fresh_with rate (ramp_options 48000))
  pub too_long : made_with rate (ramp_options 48001) ≡ Err refused.Ramp
  pub no_rate : made_with nan (ramp_options 48001) ≡ Err refused.Rate
