-- What holds of mended files (docs/REFERENCE.md, 'Mending').
use Rattle.std.specs.Prelude.{◌≡◌, Bool, false, List, ℕ, ◌+◌, ◌*◌, ◌≤◌, ◌<◌, ◌-◌, length, take, drop, Ok}
use Rattle.std.specs.Float.{binary32}
use Rattle.std.specs.Float.Ieee.{of_bits}
use Rattle.clip.specs.Layout.{onset_bytes, file_length}
use Rattle.clip.specs.Reading.{channels_field, rate_field, onset_field, frames_from, form_of, read_with_onset}
use Rattle.clip.specs.Statement.{Below}
use Rattle.clip.specs.declared.WithOnset.{WithOnset}
use Rattle.mending.specs.Mending.{header_of_file, frames_held, mended_onset, mended, mend_answer}
use Rattle.mending.specs.declared.Marks.{Marks}
use Rattle.mending.specs.declared.Mended.{Mended}

-- nothing is altered
abbrev pub unaltered : ℕ → Mended
unaltered n = record { length = n; tail_size = 0; marks = record { frames = false; offsets = false; tail = false; onset = false } }

-- what the new reader is to say of the mended file
abbrev pub read_of : List ℕ → WithOnset
read_of file = record {
  header = record {
    shape = record { channels = channels_field file; frames = frames_held file; rate = of_bits binary32 (rate_field file) };
    rate_bits = rate_field file;
    start = header_of_file file;
  };
  onset = mended_onset file;
}

-- n bytes from a place on
abbrev pub part : ℕ → ℕ → List ℕ → List ℕ
part at n file = take n (drop at file)

-- a mark is set exactly where this doesn't hold
abbrev pub SetUnless : Bool → Type 0 → Type 0
SetUnless mark Same = (mark ≡ false → Same) × (Same → mark ≡ false)

-- a mark is set exactly where n bytes from a place on changed
abbrev pub SetWhereChanged : Bool → ℕ → ℕ → List ℕ → Type 0
SetWhereChanged mark at n file = SetUnless mark (part at n (mended file) ≡ part at n file)

pub record Marked (file : List ℕ) (marks : Marks) : Type 0 where
  pub frames : SetWhereChanged marks.frames 4 4 file
  pub onset : SetWhereChanged marks.onset 12 (onset_bytes (form_of file)) file
  pub offsets : SetWhereChanged marks.offsets (12 + onset_bytes (form_of file)) (4 * channels_field file) file
  pub tail : SetUnless marks.tail (length (mended file) ≡ length file)

-- every other byte stays in its place: the header's length and the channel count, the rate, and all behind the header
pub record Kept (file : List ℕ) : Type 0 where
  pub start : part 0 4 (mended file) ≡ part 0 4 file
  pub rate : part 8 4 (mended file) ≡ part 8 4 file
  pub samples : drop (header_of_file file) (mended file) ≡ part (header_of_file file) (4 * frames_held file * channels_field file) file

-- of a file of bytes that is mended
pub record IsMended (file : List ℕ) (m : Mended) : Type 0 where
  -- as many frames as the bytes behind the header hold whole ones for each channel
  pub held : file_length (form_of file) (channels_field file) (frames_held file) ≤ length file
  pub no_more : length file < file_length (form_of file) (channels_field file) (frames_held file + 1)
  pub length_is : length (mended file) ≡ m.length
  -- the bytes that are dropped are fewer than one frame for each channel
  pub tail_is : m.length + m.tail_size ≡ length file
  pub tail_fits : m.tail_size < 4 * channels_field file
  -- an onset is lowered only where it is at or past the frames, and then to the last
  pub onset_stays : onset_field (form_of file) file < frames_held file → mended_onset file ≡ onset_field (form_of file) file
  pub onset_lowered : frames_held file ≤ onset_field (form_of file) file → mended_onset file ≡ frames_held file - 1
  pub marked : Marked file m.marks
  pub kept : Kept file
  -- the new reader accepts it, with the form, channels and rate that it had, and the frames that stood there
  pub same_form : form_of (mended file) ≡ form_of file
  pub accepted : read_with_onset (mended file) ≡ Ok (read_of file)
  pub same_frames : frames_from (mended file) (header_of_file file) (channels_field file * frames_held file)
      ≡ frames_from file (header_of_file file) (channels_field file * frames_held file)
  -- mending it once more alters nothing
  pub again : mend_answer (mended file) m.length ≡ Ok (unaltered m.length)
  pub again_bytes : mended (mended file) ≡ mended file

pub record MendedClips : Type 0 where
  pub mends : (file : List ℕ) (lent : ℕ) (m : Mended) → Below 256 file → mend_answer file lent ≡ Ok m → IsMended file m
  -- a sound clip, one that the new reader accepts, comes back with its bytes equal, and nothing is altered
  pub sound : (file : List ℕ) (read : WithOnset) → Below 256 file → read_with_onset file ≡ Ok read
      → (mend_answer file (length file) ≡ Ok (unaltered (length file))) × (mended file ≡ file)
