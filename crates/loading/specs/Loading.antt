-- What `trial` starts with (docs/REFERENCE.md, 'trial' and 'Clip file'): a fresh player of the clip's rate that was handed the clip.
-- `trial` is a new reader: the player has the clip's shape and samples, and not the onset. Definitions only.
use Rattle.std.specs.Prelude.{ℕ, ◌*◌, List, [], cond, ltb, Result, Ok, Err}
use Rattle.lists.specs.Table.{over}
use Rattle.buffer.specs.Answers.{answer_of, stored}
use Rattle.buffer.specs.declared.Shape.{Shape}
use Rattle.buffer.specs.declared.refusals.Refusal.{Refusal}
use Rattle.buffer.specs.declared.refusals.Refusal.TheVariants as refused
use Rattle.clip.specs.Reading.{read_with_onset, header_read}
use Rattle.clip.specs.Statement.{frames_of}
use Rattle.clip.specs.declared.ClipHeader.{ClipHeader}
use Rattle.player.specs.Messages.{made, buffered}
use Rattle.player.specs.declared.Player.{Player}

abbrev pub count_of : Shape → ℕ
count_of shape = shape.channels * shape.frames

abbrev pub with_count : Result Player Refusal → ℕ → Result (Player × ℕ) Refusal
with_count (Ok player) n = Ok (player, n)
with_count (Err refusal) n = Err refusal

-- a player of the clip's rate, given the clip; and the count of its samples
abbrev pub sent : Result Player Refusal → Shape → Result (Player × ℕ) Refusal
sent (Ok fresh) shape = with_count (buffered fresh shape.channels shape.frames shape.rate (count_of shape)) (count_of shape)
sent (Err refusal) shape = Err refusal

-- the clip of a file, where there is room for its samples
abbrev pub sent_clip : Result ClipHeader Refusal → ℕ → Result (Player × ℕ) Refusal
sent_clip (Ok h) room = cond (ltb room (count_of h.shape)) (Err refused.Length) (sent (made h.shape.rate) h.shape)
sent_clip (Err refusal) room = Err refusal

abbrev pub loaded : List ℕ → ℕ → Result (Player × ℕ) Refusal
loaded file room = sent_clip (header_read (read_with_onset file)) room

-- the clip's samples, at the front of the lent ones
abbrev pub samples_of : Result ClipHeader Refusal → List ℕ → List ℕ
samples_of (Ok h) file = frames_of file h
samples_of (Err refusal) file = []

abbrev pub samples_out : Result (Player × ℕ) Refusal → List ℕ → List ℕ → List ℕ
samples_out answer file samples = stored (answer_of answer) (over (samples_of (header_read (read_with_onset file)) file) samples) samples
