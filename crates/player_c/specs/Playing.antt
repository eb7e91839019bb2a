-- docs/REFERENCE.md, 'Player and messages' and 'Output block': a clip played from its start for a count of blocks, clip and output at
-- 48,000. Definitions only.
use Rattle.std.specs.Prelude.{Bool, false, not, List, ℕ, zero, suc, length, Float}
use Rattle.std.specs.Float.{binary64}
use Rattle.std.specs.Float.Ieee.{mul, div}
use Rattle.rounding.specs.Rounding.{whole}
use Rattle.seconds.specs.Seconds.{float_zero, never, one}
use Rattle.player.specs.Messages.{made, buffered, handled}
use Rattle.player.specs.Block.{rendered, output}
use Rattle.player.specs.declared.Player.{Player}
use Rattle.player.specs.declared.ControlMessage.{ControlMessage}
use Rattle.player.specs.declared.ControlMessage.TheVariants.{Start, Loop}
use Rattle.buffer.specs.declared.refusals.Refusal.{Refusal}
use Rattle.std.specs.Prelude.{Result, Ok, Err}
use Rattle.player.specs.declared.BlockReport.{BlockReport}

-- the rate of the clip and of the output
abbrev pub samples_in_second : Float
samples_in_second = whole 48000

-- ---- the beginning: after a refusal nothing more is asked
-- `len` is the length of the lent samples
-- the buffer call, if a player was made
unfoldable pub given : Result Player Refusal → ℕ → ℕ → ℕ → Result Player Refusal
given (Ok p) channels frames len = buffered p channels frames samples_in_second len
given (Err refusal) channels frames len = Err refusal

-- a message, if there is a player
unfoldable pub sent : Result Player Refusal → ControlMessage → Result Player Refusal
sent (Ok p) m = handled p m
sent (Err refusal) m = Err refusal

-- the player that was given the clip, started at 0 with no duration and told whether to loop
unfoldable pub begun : ℕ → ℕ → Bool → ℕ → Result Player Refusal
begun channels frames looped len =
    sent (sent (given (made samples_in_second) channels frames len) (Start float_zero float_zero never)) (Loop looped)

-- ---- blocks, one after another
-- block n is at n times 128, divided by 48,000: each step is rounded
unfoldable pub block_time : ℕ → Float
block_time n = div binary64 (mul binary64 (whole n) (whole 128)) samples_in_second

-- a refused block leaves the player
unfoldable pub left : Player → Result BlockReport Refusal → Player
left p (Ok r) = r.player
left p (Err refusal) = p

-- the player and the lent output after some blocks
pub record Played : Type 0 where
  pub player : Player
  pub out : List ℕ

-- after block n, at `rate` and with the factor 1
unfoldable pub next : Played → List ℕ → Float → ℕ → Played
next q samples rate n = record {
  player = left q.player (rendered 128 q.player (length q.out) (length samples) (block_time n) rate one);
  out = output 128 q.player q.out samples (block_time n) rate one;
}

-- after that many blocks from block 0 on
unfoldable pub played : Player → List ℕ → List ℕ → Float → ℕ → Played
played p out samples rate zero = record { player = p; out = out }
played p out samples rate (suc n) = next (played p out samples rate n) samples rate n

-- ---- what the run answers and leaves
-- whether the player has begun, and has not ended after the blocks
unfoldable pub goes_on : Result Player Refusal → List ℕ → List ℕ → Float → ℕ → Bool
goes_on (Ok p) out samples rate blocks = not (played p out samples rate blocks).player.render_state.ended
goes_on (Err refusal) out samples rate blocks = false

-- without a beginning the output is not touched
unfoldable pub output_after : Result Player Refusal → List ℕ → List ℕ → Float → ℕ → List ℕ
output_after (Ok p) out samples rate blocks = (played p out samples rate blocks).out
output_after (Err refusal) out samples rate blocks = out
