-- What holds of a clip that the new reader accepts (docs/REFERENCE.md, 'trial' and 'Clip file'): it is sent to a player, and its onset
-- moves no sample. The premises are met by the known clips of `clip` (`new_by_new`, `another`, `one_sound`, `by_old_header` and `old_sound`
-- in its Known.antt).
use Rattle.std.specs.Prelude.{◌≡◌, ℕ, ◌≤◌, List, [], take, Ok}
use Rattle.player.specs.Record.{fresh, given}
use Rattle.player.specs.Messages.{clamped}
use Rattle.clip.specs.Reading.{read_with_onset}
use Rattle.clip.specs.Statement.{frames_of}
use Rattle.clip.specs.declared.WithOnset.{WithOnset}
use Rattle.text.specs.Lines.{refusal_text}
use Rattle.loading.specs.Loading.{count_of, loaded, samples_out}
use Rattle.loading.specs.Playing.{clip_room, file_room, told}

pub record ClipsPlay : Type 0 where
  -- an accepted clip is refused by no later step: the fresh player of its rate holds it
  pub sent : (file : List ℕ) (read : WithOnset) (room : ℕ) → read_with_onset file ≡ Ok read → count_of read.header.shape ≤ room
      → loaded file room ≡ Ok (clamped (given (fresh read.header.shape.rate) read.header.shape), count_of read.header.shape)
  -- every accepted clip fits the words that `trial` has for its samples
  pub fits : (file : List ℕ) (read : WithOnset) → read_with_onset file ≡ Ok read → count_of read.header.shape ≤ clip_room
  -- so `trial` sends every accepted clip to its player
  pub played : (file : List ℕ) (read : WithOnset) → read_with_onset file ≡ Ok read
      → loaded file clip_room ≡ Ok (clamped (given (fresh read.header.shape.rate) read.header.shape), count_of read.header.shape)
  -- no bytes are no clip, and of a file only as many bytes count as `trial` reads: a longer one is no clip either
  pub no_clip : (lines : List ℕ) → told [] lines ≡ refusal_text 15
  pub front_read : (file lines : List ℕ) → told (take file_room file) lines ≡ told file lines
  -- the onset tells a user where the sound begins, and moves no sample: two clips of one shape and rate and of the same frames, whatever
  -- their onsets and headers, give the same player and samples
  pub onset_moves_nothing : (file other : List ℕ) (read same : WithOnset) (samples : List ℕ) (room : ℕ)
      → read_with_onset file ≡ Ok read → read_with_onset other ≡ Ok same
      → read.header.shape ≡ same.header.shape → frames_of file read.header ≡ frames_of other same.header
      → (loaded file room ≡ loaded other room) × (samples_out (loaded file room) file samples ≡ samples_out (loaded other room) other samples)
