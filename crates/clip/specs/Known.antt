-- Known clips (docs/REFERENCE.md, 'Clip file' and 'Known frames'): one of a single frame, and clips of two frames with an onset. They meet
-- the premises of what is stated about readers and writer.
use Rattle.std.specs.Prelude.{◌≡◌, List, [], ◌∷◌, ℕ, ◌+◌, ◌^◌, ◌<◌, length, replicate, T, Ok, Err}
use Rattle.std.specs.Float.{binary32}
use Rattle.std.specs.Float.Ieee.{of_bits, fits}
use Rattle.buffer.specs.declared.Shape.{Shape}
use Rattle.buffer.specs.declared.refusals.Refusal.TheVariants as refused
use Rattle.clip.specs.Layout.{max_length, layout}
use Rattle.clip.specs.Reading.{form_of, clip_read, read_with_onset}
use Rattle.clip.specs.Writing.{length_to_write, written}
use Rattle.clip.specs.Statement.{Below, frames_of}
use Rattle.clip.specs.declared.ClipHeader.{ClipHeader}
use Rattle.clip.specs.declared.Form.TheVariants as form

-- one channel, one frame of the value 1, at 48,000: 10 00 01 00 01 00 00 00 00 80 3B 47 10 00 00 00 00 00 80 3F
abbrev pub old_clip : List ℕ
old_clip = 0x10 ∷ 0 ∷ 1 ∷ 0 ∷ 1 ∷ 0 ∷ 0 ∷ 0 ∷ 0 ∷ 0x80 ∷ 0x3B ∷ 0x47 ∷ 0x10 ∷ 0 ∷ 0 ∷ 0 ∷ 0 ∷ 0 ∷ 0x80 ∷ 0x3F ∷ []

-- two frames, of the values 0 and 1, at 48,000, with this onset; `rate` is the last byte of the rate's four
abbrev pub new_clip : ℕ → ℕ → List ℕ
new_clip rate onset =
    0x14 ∷ 0 ∷ 1 ∷ 0 ∷ 2 ∷ 0 ∷ 0 ∷ 0 ∷ 0 ∷ 0x80 ∷ 0x3B ∷ rate ∷ onset ∷ 0 ∷ 0 ∷ 0 ∷ 0x14 ∷ 0 ∷ 0 ∷ 0
    ∷ 0 ∷ 0 ∷ 0 ∷ 0 ∷ 0 ∷ 0 ∷ 0x80 ∷ 0x3F ∷ []

-- the same two frames with the old header
abbrev pub old_pair : List ℕ
old_pair = 0x10 ∷ 0 ∷ 1 ∷ 0 ∷ 2 ∷ 0 ∷ 0 ∷ 0 ∷ 0 ∷ 0x80 ∷ 0x3B ∷ 0x47 ∷ 0x10 ∷ 0 ∷ 0 ∷ 0 ∷ 0 ∷ 0 ∷ 0 ∷ 0 ∷ 0 ∷ 0 ∷ 0x80 ∷ 0x3F ∷ []

-- the one old clip that is too long to be written with an onset: 16,380 frames in one channel, here zeros
abbrev pub longest : List ℕ
longest = layout form.Old 1 16380 0x473B8000 0 (replicate 16380 0)

-- one channel at 48,000
abbrev pub mono : ℕ → Shape
mono frames = record { channels = 1; frames = frames; rate = of_bits binary32 0x473B8000 }

abbrev pub header : ℕ → ℕ → ClipHeader
header frames start = record { shape = mono frames; rate_bits = 0x473B8000; start = start }

abbrev pub frames : List ℕ
frames = 0 ∷ 0x3F800000 ∷ []

pub record KnownClips : Type 0 where
  pub old_by_old : clip_read old_clip ≡ Ok (header 1 16)
  pub old_by_new : read_with_onset old_clip ≡ Ok (record { header = header 1 16; onset = 0 })
  pub old_form : form_of old_clip ≡ form.Old
  pub old_bytes : Below 256 old_clip
  pub new_by_new : read_with_onset (new_clip 0x47 1) ≡ Ok (record { header = header 2 20; onset = 1 })
  pub new_by_old : clip_read (new_clip 0x47 1) ≡ Err refused.Layout
  pub new_form : form_of (new_clip 0x47 1) ≡ form.New
  pub new_bytes : Below 256 (new_clip 0x47 1)
  -- the same with its onset at frame 0
  pub another : read_with_onset (new_clip 0x47 0) ≡ Ok (record { header = header 2 20; onset = 0 })
  pub one_sound : frames_of (new_clip 0x47 1) (header 2 20) ≡ frames_of (new_clip 0x47 0) (header 2 20)
  -- and with the old header
  pub by_old_header : read_with_onset old_pair ≡ Ok (record { header = header 2 16; onset = 0 })
  pub old_sound : frames_of (new_clip 0x47 1) (header 2 20) ≡ frames_of old_pair (header 2 16)
  -- an onset that is not below the frames: 17, but after 2
  pub past_the_frames : read_with_onset (new_clip 0x47 2) ≡ Err refused.Onset
  pub rate_first : read_with_onset (new_clip 0 2) ≡ Err refused.Rate
  -- the longest old clip
  pub longest_read : clip_read longest ≡ Ok (header 16380 16)
  pub longest_bytes : Below 256 longest
  pub longest_length : max_length < length longest + 4
  pub room : length_to_write (mono 2) (length frames) 1 ≡ Ok 28
  pub bytes_made : written (mono 2) 1 frames ≡ new_clip 0x47 1
  pub f32_rate : T (fits binary32 (mono 2).rate)
  pub words : Below (2 ^ 32) frames
