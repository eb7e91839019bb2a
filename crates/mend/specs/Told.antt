-- What the program `mend` writes of its input's bytes (docs/REFERENCE.md, 'Mending'). Definitions only.
use Rattle.std.specs.Prelude.{cond, ℕ, List, [], ◌∷◌, ◌++◌, length, codes, decimal, Result, Ok, Err}
use Rattle.lists.specs.Table.{table}
use Rattle.buffer.specs.Refusals.{number}
use Rattle.buffer.specs.declared.refusals.Refusal.{Refusal}
use Rattle.clip.specs.Reading.{channels_field, frames_field, onset_field, offset_field, form_of}
use Rattle.text.specs.Lines.{refusal_text}
use Rattle.mending.specs.Mending.{mended, mend_answer}
use Rattle.mending.specs.declared.Marks.{Marks}
use Rattle.mending.specs.declared.Mended.{Mended}

-- a blank and a number, for each number
unfoldable pub numbers : List ℕ → List ℕ
numbers [] = []
numbers (n ∷ ns) = (codes " " ++ decimal n) ++ numbers ns

-- a line: what was altered, and its numbers before and after
unfoldable pub change_line : List ℕ → List ℕ → List ℕ → List ℕ
change_line name before after = name ++ (codes ":" ++ (numbers before ++ (codes ", now" ++ (numbers after ++ codes "\n"))))

-- a line for each mark that is set, of the file as it was and as it was made
unfoldable pub report_of : List ℕ → List ℕ → Marks → List ℕ
report_of file made marks =
    let f = form_of file in
    let channels = channels_field file in
    cond marks.frames (change_line (codes "frames") (frames_field file ∷ []) (frames_field made ∷ [])) []
    ++ (cond marks.offsets (change_line (codes "offsets") (table channels (offset_field f file)) (table channels (offset_field f made))) []
    ++ (cond marks.tail (change_line (codes "bytes") (length file ∷ []) (length made ∷ [])) []
    ++ cond marks.onset (change_line (codes "onset") (onset_field f file ∷ []) (onset_field f made ∷ [])) []))

abbrev pub told_of : Result Mended Refusal → List ℕ → List ℕ
told_of (Ok m) file = mended file
told_of (Err refusal) file = []

-- to the output: the mended file, and nothing where it is refused
abbrev pub told : List ℕ → List ℕ
told file = told_of (mend_answer file (length file)) file

abbrev pub reported : Result Mended Refusal → List ℕ → List ℕ
reported (Ok m) file = report_of file (mended file) m.marks
reported (Err refusal) file = refusal_text (number refusal)

-- to the errors: what was altered, or the refusal
abbrev pub report : List ℕ → List ℕ
report file = reported (mend_answer file (length file)) file
