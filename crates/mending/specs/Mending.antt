-- Mending a clip file (docs/REFERENCE.md, 'Mending' and 'Refusals'): the header is made to fit the bytes that stand behind it.
-- Definitions only.
use Rattle.std.specs.Prelude.{Bool, not, ◌&&◌, cond, List, ℕ, ◌-◌, ◌*◌, ◌/◌, min, leb, ltb, eqb, length, Result, Ok, Err}
use Rattle.std.specs.Float.{binary32}
use Rattle.std.specs.Float.Ieee.{of_bits}
use Rattle.lists.specs.Table.{over}
use Rattle.buffer.specs.Limits.{max_channels, valid_rate}
use Rattle.buffer.specs.Answers.{after_checks, answer_of, stored}
use Rattle.buffer.specs.declared.refusals.Refusal.{Refusal}
use Rattle.buffer.specs.declared.refusals.Refusal.TheVariants as refused
use Rattle.clip.specs.Layout.{header_length, file_length, max_length, layout}
use Rattle.clip.specs.Reading.{channels_field, frames_field, rate_field, onset_field, frames_from, offsets_match, has_length, form_of}
use Rattle.mending.specs.declared.Marks.{Marks}
use Rattle.mending.specs.declared.Mended.{Mended}

-- the header's length, by the form that it has
abbrev pub header_of_file : List ℕ → ℕ
header_of_file file = header_length (form_of file) (channels_field file)

-- the file is not too long and not shorter than its header, and the length that the header states is that of a form
abbrev pub has_header : List ℕ → Bool
has_header file = leb (length file) max_length && (leb (header_of_file file) (length file) && has_length (form_of file) file)

-- 1 to 32 channels
abbrev pub has_channels : ℕ → Bool
has_channels channels = leb 1 channels && leb channels max_channels

-- the whole frames that the bytes behind the header hold, for each channel
abbrev pub frames_held : List ℕ → ℕ
frames_held file = (length file - header_of_file file) / (4 * channels_field file)

-- the length of the mended file
abbrev pub mended_length : List ℕ → ℕ
mended_length file = file_length (form_of file) (channels_field file) (frames_held file)

-- the bytes left over behind it, which are dropped
abbrev pub tail_size : List ℕ → ℕ
tail_size file = length file - mended_length file

-- an onset at or past the frames becomes the last frame
abbrev pub mended_onset : List ℕ → ℕ
mended_onset file = min (onset_field (form_of file) file) (frames_held file - 1)

-- the mended file: the layout of these frames and this onset, with the form, the channels, the rate and the samples that the file has
abbrev pub mended : List ℕ → List ℕ
mended file =
    layout (form_of file) (channels_field file) (frames_held file) (rate_field file) (mended_onset file)
    (frames_from file (header_of_file file) (channels_field file * frames_held file))

-- what is altered
abbrev pub marks_of : List ℕ → Marks
marks_of file = record {
  frames = not (eqb (frames_field file) (frames_held file));
  offsets = not (offsets_match (form_of file) file (channels_field file) (frames_held file));
  tail = ltb 0 (tail_size file);
  onset = not (eqb (onset_field (form_of file) file) (mended_onset file));
}

-- the checks, of an output of the length `lent`: 15, 1, 2, 21, 8
unfoldable pub mend_checks : List ℕ → ℕ → Result Unit Refusal
mend_checks file lent =
    cond (not (has_header file)) (Err refused.Layout)
    (cond (not (has_channels (channels_field file))) (Err refused.Shape)
    (cond (not (valid_rate (of_bits binary32 (rate_field file)))) (Err refused.Rate)
    (cond (not (leb 1 (frames_held file))) (Err refused.NothingLeft)
    (cond (not (eqb lent (length file))) (Err refused.Length)
    (Ok tt)))))

abbrev pub mend_answer : List ℕ → ℕ → Result Mended Refusal
mend_answer file lent =
    after_checks (mend_checks file lent) (record { length = mended_length file; tail_size = tail_size file; marks = marks_of file })

-- the output by the answer: the mended file at its start, and what stood there behind it
abbrev pub mend_out : Result Mended Refusal → List ℕ → List ℕ → List ℕ
mend_out answer file out = stored (answer_of answer) (over (mended file) out) out
