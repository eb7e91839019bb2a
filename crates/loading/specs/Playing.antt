-- What the program `trial` prints of a clip file's bytes and the lines' bytes (docs/REFERENCE.md, 'trial'): of a clip that is refused `X`
-- and its number, else the transcript of the lines, from a fresh player that was sent the clip, block number 0 and an empty block output.
-- Definitions only.
use Rattle.std.specs.Prelude.{ℕ, List, Option, Result, Ok, Err}
use Rattle.std.specs.Io.KnownBytes.{Consumes}
use Rattle.buffer.specs.Refusals.{number}
use Rattle.buffer.specs.declared.refusals.Refusal.{Refusal}
use Rattle.clip.specs.Reading.{read_with_onset, header_read}
use Rattle.player.specs.declared.Player.{Player}
use Rattle.text.specs.Lines.{refusal_text}
use Rattle.obeying.specs.Obeying.{session_of}
use Rattle.session.specs.Transcript.{transcript, no_words}
use Rattle.loading.specs.Loading.{loaded, samples_of}

-- the words that `trial` has for a clip's samples
abbrev pub clip_room : ℕ
clip_room = 16384

-- and the bytes of its file: one more than the longest clip has
abbrev pub file_room : ℕ
file_room = 65537

abbrev pub told_of : Result (Player × ℕ) Refusal → List ℕ → List ℕ → List ℕ
told_of (Ok sent) samples lines = transcript samples (session_of sent.0 0) no_words lines
told_of (Err refusal) samples lines = refusal_text (number refusal)

abbrev pub told : List ℕ → List ℕ → List ℕ
told file lines = told_of (loaded file clip_room) (samples_of (header_read (read_with_onset file)) file) lines

-- what holds of the bytes that were read of a file, where they are known: of all, or of those before the read that failed
pub record OfTheRead (file left : Option (List ℕ)) (P : List ℕ → Type 0) : Type 0 where
  pub clip : List ℕ
  pub read : Consumes file left clip
  pub holds : P clip
