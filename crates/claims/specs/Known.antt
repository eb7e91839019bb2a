-- The known frames that are proved (docs/REFERENCE.md, 'Known frames'), as one claim about the definitions. Definitions only.
use Rattle.std.specs.Prelude.{◌≡◌, Bool, true, false, List, ℕ, ◌+◌, pos, negsuc, Float}
use Rattle.std.specs.Float.{fin}
use Rattle.rounding.specs.Known.{KnownRounding}
use Rattle.fused.specs.Known.{KnownFused}
use Rattle.buffer.specs.Known.{KnownBuffer}
use Rattle.reshape.specs.Known.{KnownReshape}
use Rattle.lists.specs.Table.{table}
use Rattle.seconds.specs.Seconds.{float_zero, never, one, block_end}
use Rattle.player.specs.Record.{fresh}
use Rattle.player.specs.Messages.{clamped_start, clamped_end}
use Rattle.player.specs.Block.{plan}
use Rattle.player.specs.declared.Player.{Player}
use Rattle.player.specs.declared.ControlMessage.TheVariants.{Start, Loop}
use Rattle.claims.specs.Calls.{buffer, message, next, is_ended}

-- ---- loop points in a clip of one second: an end at or below 0, or above 1, becomes 1; a start is brought into 0 to 1
abbrev minus_one : Float
minus_one = fin true 1 (pos 0)

abbrev one_point_five : Float
one_point_five = fin false 3 (negsuc 0)

abbrev two : Float
two = fin false 1 (pos 1)

unfoldable pub KnownLoopPoints : Type 0
KnownLoopPoints =
    (clamped_end float_zero one ≡ one) × (clamped_end minus_one one ≡ one) × (clamped_end one_point_five one ≡ one)
    × (clamped_start minus_one one ≡ float_zero) × (clamped_start two one ≡ one)

-- ---- playback at 48,000 = 375 × 2 ^ 7 of one channel, in which frame i has the bits i + 1
abbrev rate : Float
rate = fin false 375 (pos 7)

abbrev pub words : ℕ → List ℕ
words l = table l (λ i. i + 1)

-- the player with a clip of l frames, started at 0, the loop as it says
abbrev pub begun : Bool → ℕ → Player
begun looped l =
    next (next (next (fresh rate) (buffer 1 l rate (words l))) (message (Start float_zero float_zero never))) (message (Loop looped))

-- the player after its first block, and sample 0 of block 1, which begins where block 0 ends
abbrev pub after : Bool → ℕ → Player
after looped l = (plan 128 (begun looped l) float_zero one one).player

abbrev pub sample_of_block_one : Bool → ℕ → ℕ
sample_of_block_one looped l = (plan 128 (after looped l) (block_end 128 float_zero rate) one one).sample (words l) 0

-- looped, block 1 starts on frame 2 of a clip of 3 frames, and on frame 0 of one of 128; unlooped, a clip of 128 frames has ended after one
-- block
unfoldable pub KnownPlayback : Type 0
KnownPlayback = (sample_of_block_one true 3 ≡ 2 + 1) × (sample_of_block_one true 128 ≡ 0 + 1) × (is_ended (after false 128) ≡ true)

-- ---- the table
pub record KnownFrames : Type 0 where
  pub rounding : KnownRounding
  pub fused : KnownFused
  pub buffers : KnownBuffer
  pub reshaped : KnownReshape
  pub loop_points : KnownLoopPoints
  pub playback : KnownPlayback
