-- What reading a clip file answers (docs/REFERENCE.md, 'Clip file' and 'Refusals'): 15 where the file is not the layout's, then 1, 2; with
-- the onset, which a new header has, 17 after them. Definitions only.
use Rattle.std.specs.Prelude.{Bool, true, not, ◌&&◌, cond, List, ℕ, zero, suc, ◌+◌, ◌*◌, leb, ltb, eqb, length, get_or, drop, Result, Ok, Err}
use Rattle.std.specs.Float.{binary32}
use Rattle.std.specs.Float.Ieee.{of_bits}
use Rattle.lists.specs.Table.{table}
use Rattle.buffer.specs.Limits.{valid_shape, valid_rate, Valid}
use Rattle.buffer.specs.Answers.{after_checks}
use Rattle.buffer.specs.declared.refusals.Refusal.TheVariants as refused
use Rattle.buffer.specs.declared.Shape.{Shape}
use Rattle.clip.specs.Layout.{onset_bytes, header_length, offset, file_length, max_length}
use Rattle.clip.specs.declared.Form.{Form}
use Rattle.clip.specs.declared.Form.TheVariants as form
use Rattle.clip.specs.declared.ClipHeader.{ClipHeader}
use Rattle.clip.specs.declared.WithOnset.{WithOnset}
use Rattle.buffer.specs.declared.refusals.Refusal.{Refusal}

-- the number of n bytes, little-endian, at the start of a list; a byte past the end counts as 0
unfoldable pub number : ℕ → List ℕ → ℕ
number zero file = 0
number (suc n) file = get_or file 0 0 + 256 * number n (drop 1 file)

-- the same from a place on
abbrev pub number_at : ℕ → List ℕ → ℕ → ℕ
number_at n file at = number n (drop at file)

-- the fields of the header
abbrev pub length_field : List ℕ → ℕ
length_field file = number_at 2 file 0

abbrev pub channels_field : List ℕ → ℕ
channels_field file = number_at 2 file 2

abbrev pub frames_field : List ℕ → ℕ
frames_field file = number_at 4 file 4

abbrev pub rate_field : List ℕ → ℕ
rate_field file = number_at 4 file 8

-- an old header has no onset, and is read as onset 0: a number of no bytes is 0
abbrev pub onset_field : Form → List ℕ → ℕ
onset_field f file = number_at (onset_bytes f) file 12

abbrev pub offset_field : Form → List ℕ → ℕ → ℕ
offset_field f file c = number_at 4 file (12 + onset_bytes f + 4 * c)

-- the frames, one channel after another
abbrev pub frames_from : List ℕ → ℕ → ℕ → List ℕ
frames_from file start count = table count (λ k. number_at 4 file (start + 4 * k))

-- f of every number below n
unfoldable pub each : ℕ → (ℕ → Bool) → Bool
each zero f = true
each (suc n) f = each n f && f n

unfoldable pub offsets_match : Form → List ℕ → ℕ → ℕ → Bool
offsets_match f file channels frames = each channels (λ c. eqb (offset_field f file c) (offset f channels frames c))

-- header, offsets and length as the layout has them
unfoldable pub is_layout : Form → List ℕ → Bool
is_layout f file =
    let channels = channels_field file in
    let frames = frames_field file in
    leb 12 (length file) && (leb (length file) max_length
    && (eqb (length_field file) (header_length f channels) && (leb 1 frames
    && (eqb (length file) (file_length f channels frames) && offsets_match f file channels frames))))

-- what the header of a file says
abbrev pub header_of : Form → List ℕ → ClipHeader
header_of f file = record {
  shape = record { channels = channels_field file; frames = frames_field file; rate = of_bits binary32 (rate_field file) };
  rate_bits = rate_field file;
  start = header_length f (channels_field file);
}

-- ---- the old reader, which knows the old header alone

unfoldable pub clip_read : List ℕ → Result ClipHeader Refusal
clip_read file =
    cond (not (is_layout form.Old file)) (Err refused.Layout)
    (cond (not (valid_shape (channels_field file) (frames_field file) (channels_field file * frames_field file))) (Err refused.Shape)
    (cond (not (valid_rate (of_bits binary32 (rate_field file)))) (Err refused.Rate)
    (Ok (header_of form.Old file))))

-- ---- the new reader, which takes both headers

-- a clip's checks, of the reader and of the writer: 15, 1, 2, and then 17 where the onset is not below the number of frames
unfoldable pub clip_checks : Bool → Shape → ℕ → ℕ → Result Unit Refusal
clip_checks laid_out shape len onset =
    cond (not laid_out) (Err refused.Layout)
    (cond (not (valid_shape shape.channels shape.frames len)) (Err refused.Shape)
    (cond (not (valid_rate shape.rate)) (Err refused.Rate)
    (cond (not (ltb onset shape.frames)) (Err refused.Onset)
    (Ok tt))))

-- the length that the header states is that of a form, for as many channels as it states
abbrev pub has_length : Form → List ℕ → Bool
has_length f file = eqb (length_field file) (header_length f (channels_field file))

-- which header a file has, by the header's length
abbrev pub form_of : List ℕ → Form
form_of file = cond (has_length form.New file) form.New form.Old

-- a clip by the header of one form
unfoldable pub read_as : Form → List ℕ → Result WithOnset Refusal
read_as f file =
    let header = header_of f file in
    after_checks (clip_checks (is_layout f file) header.shape (header.shape.channels * header.shape.frames) (onset_field f file))
    (record { header = header; onset = onset_field f file })

abbrev pub read_with_onset : List ℕ → Result WithOnset Refusal
read_with_onset file = read_as (form_of file) file

-- what is known of an accepted header
abbrev pub ValidHeader : WithOnset → Type 0
ValidHeader read = Valid read.header.shape.channels read.header.shape.frames (read.header.shape.channels * read.header.shape.frames)

-- ---- reading the frames into a lent slice of the length n

-- a slice that is not just channels × frames long is refused last
unfoldable pub room_checked : Result ClipHeader Refusal → ℕ → Result ClipHeader Refusal
room_checked (Ok h) n = cond (eqb n (h.shape.channels * h.shape.frames)) (Ok h) (Err refused.Length)
room_checked (Err refusal) n = Err refusal

abbrev pub frames_read : List ℕ → ℕ → Result ClipHeader Refusal
frames_read file n = room_checked (clip_read file) n

-- the slice by the answer
unfoldable pub frames_out : Result ClipHeader Refusal → List ℕ → List ℕ → List ℕ
frames_out (Ok h) file out = frames_from file h.start (length out)
frames_out (Err refusal) file out = out

-- the new reader's header without its onset
abbrev pub header_read : Result WithOnset Refusal → Result ClipHeader Refusal
header_read (Ok w) = Ok w.header
header_read (Err refusal) = Err refusal

-- the frames of a clip with either header
abbrev pub frames_read_with_onset : List ℕ → ℕ → Result ClipHeader Refusal
frames_read_with_onset file n = room_checked (header_read (read_with_onset file)) n
