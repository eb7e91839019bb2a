-- What a line prints fits the room that is asked for. Assumes nothing.
use Rattle.std.proofs.Common.{le_trans, ◌≡◌, ℕ, ◌≤◌, List, length, refl, arith}
use Rattle.commands.specs.Commands.{command}
use Rattle.text.specs.Lines.{refusal_text, block_room}
use Rattle.text.proofs.Lengths.{length_field, length_block}
use Rattle.commands.specs.declared.Command.{Command}
use Rattle.commands.specs.declared.Command.TheVariants.{Start, Stop, LoopStart, LoopEnd, Loop, Block}
use Rattle.seconds.specs.Seconds.{one}
use Rattle.player.specs.Messages.{handled}
use Rattle.player.specs.Block.{rendered}
use Rattle.player.specs.declared.BlockReport.{BlockReport}
use Rattle.player.specs.declared.ControlMessage.{ControlMessage}
use Rattle.buffer.specs.declared.refusals.Refusal.{Refusal}
use Rattle.std.specs.Prelude.{Result, Ok, Err, Option, Some, None}
use Rattle.buffer.specs.Refusals.{number}
use Rattle.obeying.specs.declared.Session.{Session}
use Rattle.obeying.specs.Obeying.{refused, after_message, sent, block_time, after_block, played_words, played, done, obeyed}
use Rattle.obeying.proofs.Accepted.{few_channels}
use Rattle.player.specs.declared.Player.{Player}

refusal_fits : (s : Session) (number : ℕ) → length (refused s number).text ≤ block_room
unfolding refused refusal_text
refusal_fits s number = omega (arith, length_field number 10)

after_message_lem : (s : Session) (h : Result Player Refusal) → length (after_message s h).text ≤ block_room
unfolding after_message
after_message_lem s (Ok p) = omega arith
after_message_lem s (Err refusal) = refusal_fits s (number refusal)

message_fits : (s : Session) (m : ControlMessage) → length (sent s m).text ≤ block_room
unfolding sent
message_fits s m = after_message_lem s (handled s.player m)

after_block_lem : (s : Session) (words : List ℕ) (x : Result BlockReport Refusal) → ((r : BlockReport) → x ≡ Ok r → r.channels ≤ 32) → length (after_block s words x).text ≤ block_room
unfolding after_block
after_block_lem s words (Ok r) few = le_trans (length_block _ _ _ _ words) (omega (arith, few r refl))
after_block_lem s words (Err refusal) few = refusal_fits _ (number refusal)

played_fits : (samples : List ℕ) (s : Session) (words : List ℕ) → length (played samples s words).text ≤ block_room
unfolding played
played_fits samples s words = after_block_lem s (played_words samples s words) (rendered 128 s.player (length words) (length samples) (block_time s) one one) (few_channels s.player (length words) (length samples) (block_time s) one one)

done_fits : (samples : List ℕ) (s : Session) (words : List ℕ) (k : Option Command) → length (done samples s words k).reply.text ≤ block_room
unfolding done
done_fits samples s words (Some (Start a b d)) = message_fits s _
done_fits samples s words (Some (Stop a)) = message_fits s _
done_fits samples s words (Some (LoopStart a)) = message_fits s _
done_fits samples s words (Some (LoopEnd a)) = message_fits s _
done_fits samples s words (Some (Loop on)) = message_fits s _
done_fits samples s words (Some Block) = played_fits samples s words
done_fits samples s words None = refusal_fits s 0

-- a line's text
pub obeyed_fits : (samples : List ℕ) (s : Session) (words line : List ℕ) → length (obeyed samples s words line).reply.text ≤ block_room
unfolding obeyed
obeyed_fits samples s words line = done_fits samples s words (command line)
