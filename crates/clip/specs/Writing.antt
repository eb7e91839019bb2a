-- Writing a clip file with its onset (docs/REFERENCE.md, 'Clip file' and 'Refusals'): the checks are those of the reader, where 15 is a
-- clip without frames or whose file would be over 65,536 bytes long; then 8 for a slice of another length. Definitions only.
use Rattle.std.specs.Prelude.{Bool, ◌&&◌, List, ℕ, leb, eqb, to_bits, Result, Ok, Err}
use Rattle.std.specs.Float.{binary32}
use Rattle.buffer.specs.Answers.{after_checks, check}
use Rattle.buffer.specs.declared.refusals.Refusal.TheVariants as refused
use Rattle.buffer.specs.declared.refusals.Refusal.{Refusal}
use Rattle.buffer.specs.declared.Shape.{Shape}
use Rattle.clip.specs.Layout.{file_length, max_length, layout}
use Rattle.clip.specs.Reading.{clip_checks}
use Rattle.clip.specs.declared.Form.TheVariants as form

-- there are frames, and the file is at most 65,536 bytes long
abbrev pub is_file : ℕ → ℕ → Bool
is_file channels frames = leb 1 frames && leb (file_length form.New channels frames) max_length

-- the length of the file of a clip of `len` samples, or why it is refused: 15, 1, 2, 17
unfoldable pub length_to_write : Shape → ℕ → ℕ → Result ℕ Refusal
length_to_write shape len onset =
    after_checks (clip_checks (is_file shape.channels shape.frames) shape len onset) (file_length form.New shape.channels shape.frames)

-- the lent slice is just as long as the file; if not, 8 comes after every other refusal
unfoldable pub exactly : Result ℕ Refusal → ℕ → Result Unit Refusal
exactly (Ok n) lent = check (eqb lent n) refused.Length
exactly (Err refusal) lent = Err refusal

-- writing a clip of `len` samples into a slice of the length `lent`
abbrev pub clip_written : Shape → ℕ → ℕ → ℕ → Result Unit Refusal
clip_written shape len onset lent = exactly (length_to_write shape len onset) lent

-- the file: the new layout's bytes
abbrev pub written : Shape → ℕ → List ℕ → List ℕ
written shape onset samples = layout form.New shape.channels shape.frames (to_bits binary32 shape.rate) onset samples
