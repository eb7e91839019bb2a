-- The lines that are printed: a block with its runs of equal bits, and a refusal (docs/REFERENCE.md, 'trial'). Definitions only.
use Rattle.std.specs.Prelude.{Bool, ◌&&◌, cond, List, [], ◌∷◌, ◌++◌, ℕ, zero, suc, ◌+◌, ◌*◌, leb, eqb, length, take, drop, Option, Some, None}
use Rattle.std.proofs.lemmas.List.Edits.{sets}
use Rattle.commands.specs.Digits.{SPACE, flag, hex, decimal}

abbrev pub NEWLINE : ℕ
NEWLINE = 10

-- a decimal and the byte after it
unfoldable pub field : ℕ → ℕ → List ℕ
field v after = decimal v ++ (after ∷ [])

-- a run of equal words: the channel, the run's first index and length, and the word's eight hex digits
unfoldable pub run_line : ℕ → ℕ → ℕ → ℕ → List ℕ
run_line channel first count bits = field channel SPACE ++ (field first SPACE ++ (field count SPACE ++ (hex 8 bits ++ (NEWLINE ∷ []))))

-- the runs of a list, of which `count` equal words from the index `first` on have gone before
unfoldable pub runs_from : ℕ → ℕ → ℕ → ℕ → List ℕ → List ℕ
runs_from channel first count bits [] = run_line channel first count bits
runs_from channel first count bits (x ∷ xs) =
    cond (eqb x bits) (runs_from channel first (count + 1) bits xs)
    (run_line channel first count bits ++ runs_from channel (first + count) 1 x xs)

-- the lines of a channel's words, which begin at the index `first`
unfoldable pub runs : ℕ → ℕ → List ℕ → List ℕ
runs channel first [] = []
runs channel first (x ∷ xs) = runs_from channel first 1 x xs

-- the lines of n channels of 128 words each, which stand one after another; the first of them is number c
unfoldable pub channel_lines : ℕ → ℕ → List ℕ → List ℕ
channel_lines zero c words = []
channel_lines (suc n) c words = runs c 0 (take 128 words) ++ channel_lines n (c + 1) (drop 128 words)

-- the first line of a block: `B`, its number, whether to keep alive, whether it ended, and its channels; a flag is 0 or 1
unfoldable pub block_line : ℕ → Bool → Bool → ℕ → List ℕ
block_line number keep ended channels =
    66 ∷ SPACE ∷ (field number SPACE ++ (field (flag keep) SPACE ++ (field (flag ended) SPACE ++ field channels NEWLINE)))

unfoldable pub block_text : ℕ → Bool → Bool → ℕ → List ℕ → List ℕ
block_text number keep ended channels words = block_line number keep ended channels ++ channel_lines channels 0 words

-- a refusal: `X` and its number, which is 0 for an unknown line
unfoldable pub refusal_text : ℕ → List ℕ
refusal_text number = 88 ∷ SPACE ∷ field number NEWLINE

-- ---- printing into a lent slice

-- the bytes that are asked for, so that any text fits: 72 for each word's line
abbrev pub block_room : ℕ
block_room = 128 + 72 * 4096

-- at most 32 channels of 128 words and a slice with room for any block; else nothing is printed
unfoldable pub fits : ℕ → ℕ → ℕ → Bool
fits channels words room = leb channels 32 && (eqb words 4096 && leb block_room room)

-- the answer is the text's length, if there is room; the text stands at the start of the slice
unfoldable pub printed : Bool → List ℕ → Option ℕ
printed room text = cond room (Some (length text)) None

unfoldable pub printed_out : Bool → List ℕ → List ℕ → List ℕ
printed_out room text out = cond room (sets out 0 text) out
