-- What holds of clip files (docs/REFERENCE.md, 'Clip file'). What a reader accepts: exactly the bytes of the layout, and it reads from them
-- what was put there. How the two readers agree, and that what is written is read as it was.
use Rattle.std.specs.Prelude.{◌≡◌, true, List, ℕ, ◌+◌, ◌*◌, ◌^◌, ◌≤◌, ◌<◌, length, get_or, to_bits, T, Result, Ok, Err}
use Rattle.std.specs.Float.{binary32}
use Rattle.std.specs.Float.Ieee.{fits}
use Rattle.buffer.specs.Answers.{passed}
use Rattle.buffer.specs.declared.Shape.{Shape}
use Rattle.buffer.specs.declared.refusals.Refusal.{Refusal}
use Rattle.buffer.specs.declared.refusals.Refusal.TheVariants as refused
use Rattle.clip.specs.Layout.{onset_bytes, header_length, layout, max_length}
use Rattle.clip.specs.Reading.{is_layout, channels_field, frames_field, rate_field, onset_field, frames_from, form_of, clip_read, read_with_onset}
use Rattle.clip.specs.Reading.{frames_read, frames_read_with_onset, frames_out}
use Rattle.clip.specs.Writing.{is_file, length_to_write, written}
use Rattle.clip.specs.declared.ClipHeader.{ClipHeader}
use Rattle.clip.specs.declared.WithOnset.{WithOnset}
use Rattle.clip.specs.declared.Form.{Form}
use Rattle.clip.specs.declared.Form.TheVariants as form

-- every element is below a bound
abbrev pub Below : ℕ → List ℕ → Type 0
Below bound l = (k : ℕ) → get_or l k 0 < bound

-- the file is the layout's bytes of these channels, frames, rate, onset and samples, with a header of this form
pub record IsClip (f : Form) (file : List ℕ) (channels frames rate onset : ℕ) (samples : List ℕ) : Type 0 where
  pub laid_out : file ≡ layout f channels frames rate onset samples
  pub some : 1 ≤ frames
  pub full : length samples ≡ channels * frames
  pub frames_fit : frames < 2 ^ 32
  pub rate_fits : rate < 2 ^ 32
  -- below 2^32, and 0 where the header has no onset
  pub onset_fits : onset < 256 ^ onset_bytes f
  pub samples_fit : Below (2 ^ 32) samples
  pub short : length file ≤ max_length

-- a file that passes the test is the layout's bytes of what is read from it
abbrev pub Sound : Form → Type 0
Sound f = (file : List ℕ) → Below 256 file → is_layout f file ≡ true
    → IsClip f file (channels_field file) (frames_field file) (rate_field file) (onset_field f file)
    (frames_from file (header_length f (channels_field file)) (channels_field file * frames_field file))

-- the layout's bytes pass the test, and what is read from them is what they were made of
abbrev pub Complete : Form → Type 0
Complete f = (file : List ℕ) (channels frames rate onset : ℕ) (samples : List ℕ) → IsClip f file channels frames rate onset samples
    → (is_layout f file ≡ true) × (channels_field file ≡ channels) × (frames_field file ≡ frames) × (rate_field file ≡ rate)
    × (onset_field f file ≡ onset) × (frames_from file (header_length f channels) (channels * frames) ≡ samples)

abbrev pub ClipFile : Type 0
ClipFile = (f : Form) → Sound f × Complete f

-- ---- the two readers

-- a header's answer with onset 0
abbrev pub at_zero : Result ClipHeader Refusal → Result WithOnset Refusal
at_zero (Ok h) = Ok (record { header = h; onset = 0 })
at_zero (Err refusal) = Err refusal

pub record TwoReaders : Type 0 where
  -- a file with the new header: the old reader refuses it with 15
  pub refused_by_old : (file : List ℕ) → form_of file ≡ form.New → clip_read file ≡ Err refused.Layout
  -- any other file has the old reader's answer, with onset 0, refusals too
  pub as_old : (file : List ℕ) → form_of file ≡ form.Old → read_with_onset file ≡ at_zero (clip_read file)
  pub frames_as_old : (file : List ℕ) (n : ℕ) → form_of file ≡ form.Old → frames_read_with_onset file n ≡ frames_read file n
  -- what both accept is one clip
  pub same : (file : List ℕ) (h : ClipHeader) (read : WithOnset) → clip_read file ≡ Ok h → read_with_onset file ≡ Ok read
      → read ≡ record { header = h; onset = 0 }

-- ---- the writer

-- the frames that a header leads to
abbrev pub frames_of : List ℕ → ClipHeader → List ℕ
frames_of file h = frames_from file h.start (h.shape.channels * h.shape.frames)

-- the new reader's answers: the header, and the frames in every slice of their number
pub record ReadsAs (file : List ℕ) (shape : Shape) (rate_bits onset : ℕ) (samples : List ℕ) : Type 0 where
  pub header : read_with_onset file
      ≡ Ok (record {
        header = record { shape = shape; rate_bits = rate_bits; start = header_length form.New shape.channels };
        onset = onset;
      })
  pub frames : (out : List ℕ) → length out ≡ shape.channels * shape.frames
      → frames_out (frames_read_with_onset file (length out)) file out ≡ samples

pub record WrittenClips : Type 0 where
  -- the writer and the reader check alike: of a clip of so many samples that a file holds, the reader says of the file what the writer says
  -- of the clip
  pub same_checks : (shape : Shape) (onset : ℕ) (samples : List ℕ) → T (fits binary32 shape.rate) → Below (2 ^ 32) samples
      → shape.frames < 2 ^ 32 → onset < 2 ^ 32 → length samples ≡ shape.channels * shape.frames → is_file shape.channels shape.frames ≡ true
      → passed (read_with_onset (written shape onset samples)) ≡ passed (length_to_write shape (length samples) onset)
  -- what is written is read with the shape, rate, onset and frame bits that it had, of an f32 rate and u32 samples
  pub returns : (shape : Shape) (onset n : ℕ) (samples : List ℕ) → T (fits binary32 shape.rate) → Below (2 ^ 32) samples
      → length_to_write shape (length samples) onset ≡ Ok n
      → (length (written shape onset samples) ≡ n)
      × ReadsAs (written shape onset samples) shape (to_bits binary32 shape.rate) onset samples
  -- a new clip that the reader accepts is byte for byte what the writer makes of what was read
  pub made : (file : List ℕ) (read : WithOnset) → Below 256 file → form_of file ≡ form.New → read_with_onset file ≡ Ok read
      → (length_to_write read.header.shape (length (frames_of file read.header)) read.onset ≡ Ok (length file))
      × (written read.header.shape read.onset (frames_of file read.header) ≡ file)
  -- an accepted old clip, written again, is four bytes longer and read as the same clip with onset 0
  pub again : (file : List ℕ) (h : ClipHeader) → Below 256 file → clip_read file ≡ Ok h → length file + 4 ≤ max_length
      → (length_to_write h.shape (length (frames_of file h)) 0 ≡ Ok (length file + 4))
      × ReadsAs (written h.shape 0 (frames_of file h)) h.shape h.rate_bits 0 (frames_of file h)
  -- where the four bytes don't fit, 15
  pub too_long : (file : List ℕ) (h : ClipHeader) → Below 256 file → clip_read file ≡ Ok h → max_length < length file + 4
      → length_to_write h.shape (length (frames_of file h)) 0 ≡ Err refused.Layout
