-- What one line of `trial` does: the session that it leaves, the lent block output, and the text that is printed
-- (docs/REFERENCE.md, 'trial'). Definitions only.
use Rattle.std.specs.Prelude.{ℕ, ◌+◌, ◌*◌, min, Bool, cond, List, [], length, from_bits, nat_le, Float}
use Rattle.std.proofs.lemmas.List.Edits.{sets}
use Rattle.std.specs.Float.{binary64}
use Rattle.std.specs.Float.Ieee.{div}
use Rattle.rounding.specs.Rounding.{whole}
use Rattle.seconds.specs.Seconds.{one}
use Rattle.player.specs.Messages.{handled}
use Rattle.player.specs.Block.{rendered, output}
use Rattle.player.specs.declared.Player.{Player}
use Rattle.player.specs.declared.ControlMessage.{ControlMessage}
use Rattle.player.specs.declared.ControlMessage.TheVariants as message
use Rattle.buffer.specs.Refusals.{number}
use Rattle.buffer.specs.declared.refusals.Refusal.{Refusal}
use Rattle.std.specs.Prelude.{Result, Ok, Err, Option, Some, None}
use Rattle.commands.specs.Commands.{command}
use Rattle.text.specs.Lines.{block_text, refusal_text, block_room}
use Rattle.commands.specs.declared.Command.{Command}
use Rattle.commands.specs.declared.Command.TheVariants.{Start, Stop, LoopStart, LoopEnd, Loop, Block}
use Rattle.obeying.specs.declared.Session.{Session}
use Rattle.obeying.specs.declared.Answer.{Answer}
use Rattle.player.specs.declared.BlockReport.{BlockReport}

-- the player, and the number of the next `B` line
abbrev pub session_of : Player → ℕ → Session
session_of p number = record { player = p; number = number }

-- the session after a line, and the text that the line prints
pub record Reply : Type 0 where
  pub session : Session
  pub text : List ℕ

abbrev pub reply : Session → List ℕ → Reply
reply s text = record { session = s; text = text }

-- the number that is printed: 0 for a line that is no command
abbrev pub number_of : Option Refusal → ℕ
number_of (Some refusal) = number refusal
number_of None = 0

-- a refused call prints `X` and the refusal's number, and leaves the player as it was
unfoldable pub refused : Session → ℕ → Reply
refused s number = reply s (refusal_text number)

-- ---- messages: one that is accepted prints nothing
unfoldable pub after_message : Session → Result Player Refusal → Reply
after_message s (Ok p) = reply (session_of p s.number) []
after_message s (Err turned_down) = refused s (number turned_down)

unfoldable pub sent : Session → ControlMessage → Reply
sent s m = after_message s (handled s.player m)

-- a time is written as f64 bits
abbrev pub seconds : ℕ → Float
seconds bits = from_bits binary64 bits

-- ---- blocks
-- `B` lines are counted up to 2 ^ 45. A later one has the time of that number, over 2 ^ 30 at every allowed rate, and is refused with 13
-- (`LateBlocks` of Statement.antt).
abbrev pub most_blocks : ℕ
most_blocks = 35184372088832

abbrev pub counted : ℕ → ℕ
counted number = min number most_blocks

abbrev pub next_number : ℕ → ℕ
next_number number = counted number + 1

-- the block's time: 128 × number frames at the player's rate, where the first `B` line has the number 0
unfoldable pub block_time : Session → Float
block_time s = div binary64 (whole (128 * counted s.number)) s.player.sample_rate

-- an accepted block is printed; the number goes up in any case
unfoldable pub after_block : Session → List ℕ → Result BlockReport Refusal → Reply
after_block s words (Ok r) =
    reply (session_of r.player (next_number s.number)) (block_text s.number r.keep_alive r.ended r.channels words)
after_block s words (Err turned_down) = refused (session_of s.player (next_number s.number)) (number turned_down)

-- a block is played at rate 1 and factor 1: the block output after the line, and the reply
unfoldable pub played_words : List ℕ → Session → List ℕ → List ℕ
played_words samples s words = output 128 s.player words samples (block_time s) one one

unfoldable pub played : List ℕ → Session → List ℕ → Reply
played samples s words =
    after_block s (played_words samples s words) (rendered 128 s.player (length words) (length samples) (block_time s) one one)

-- ---- a line: the reply, and the words of the lent block output after it
pub record Outcome : Type 0 where
  pub reply : Reply
  pub words : List ℕ

abbrev pub outcome : Reply → List ℕ → Outcome
outcome r words = record { reply = r; words = words }

unfoldable pub done : List ℕ → Session → List ℕ → Option Command → Outcome
done samples s words (Some (Start when offset duration)) =
    outcome (sent s (message.Start (seconds when) (seconds offset) (seconds duration))) words
done samples s words (Some (Stop when)) = outcome (sent s (message.Stop (seconds when))) words
done samples s words (Some (LoopStart at)) = outcome (sent s (message.LoopStart (seconds at))) words
done samples s words (Some (LoopEnd at)) = outcome (sent s (message.LoopEnd (seconds at))) words
done samples s words (Some (Loop on)) = outcome (sent s (message.Loop on)) words
done samples s words (Some Block) = outcome (played samples s words) (played_words samples s words)
done samples s words None = outcome (refused s 0) words

unfoldable pub obeyed : List ℕ → Session → List ℕ → List ℕ → Outcome
obeyed samples s words line = done samples s words (command line)

-- ---- into a lent slice of bytes: a line is obeyed if any block's text has room, and its text then stands at the start
abbrev pub has_room : List ℕ → Bool
has_room out = nat_le block_room (length out)

abbrev pub answer_of : Reply → Answer
answer_of r = record { session = r.session; printed = length r.text }

unfoldable pub answered : Bool → Outcome → Option Answer
answered room o = cond room (Some (answer_of o.reply)) None

unfoldable pub words_after : Bool → Outcome → List ℕ → List ℕ
words_after room o words = cond room o.words words

unfoldable pub out_after : Bool → Outcome → List ℕ → List ℕ
out_after room o out = cond room (sets out 0 o.reply.text) out

-- a caller writes so many bytes: never more than the slice has
abbrev pub written : Option Answer → ℕ
written (Some a) = a.printed
written None = 0
