-- The bytes of a clip file with either header (docs/REFERENCE.md, 'Clip file'). Definitions only.
use Rattle.std.specs.Prelude.{List, [], ◌∷◌, ◌++◌, ℕ, zero, suc, ◌+◌, ◌*◌, ◌/◌, ◌%◌}
use Rattle.lists.specs.Table.{table}
use Rattle.clip.specs.declared.Form.{Form}
use Rattle.clip.specs.declared.Form.TheVariants as form

-- little-endian: the n low bytes of v, the lowest first
unfoldable pub bytes : ℕ → ℕ → List ℕ
bytes zero v = []
bytes (suc n) v = v % 256 ∷ bytes n (v / 256)

-- u32 numbers one after another
unfoldable pub words : List ℕ → List ℕ
words [] = []
words (w ∷ ws) = bytes 4 w ++ words ws

-- the bytes of the onset: the new header has a u32 before the offsets, the old header none
abbrev pub onset_bytes : Form → ℕ
onset_bytes form.Old = 0
onset_bytes form.New = 4

-- the header's length with C channels: 12 + 4C bytes in the old form, 16 + 4C in the new one
abbrev pub header_length : Form → ℕ → ℕ
header_length f channels = 12 + onset_bytes f + 4 * channels

-- where channel c starts: behind the header and the N frames of each channel before it, 4 bytes a frame
abbrev pub offset : Form → ℕ → ℕ → ℕ → ℕ
offset f channels frames c = header_length f channels + 4 * frames * c

-- the length of the file
abbrev pub file_length : Form → ℕ → ℕ → ℕ
file_length f channels frames = header_length f channels + 4 * frames * channels

-- the most bytes that a clip file has
abbrev pub max_length : ℕ
max_length = 65536

-- the file, each number little-endian: the header's length and the channel count in two bytes each, the frames and the rate's f32 bits in
-- four, the onset where there is one, an offset for each channel in four, and then the frames' f32 bits, channel after channel
unfoldable pub layout : Form → ℕ → ℕ → ℕ → ℕ → List ℕ → List ℕ
layout f channels frames rate onset samples =
    bytes 2 (header_length f channels) ++ (bytes 2 channels ++ (bytes 4 frames ++ (bytes 4 rate
    ++ (bytes (onset_bytes f) onset ++ (words (table channels (offset f channels frames)) ++ words samples)))))
