-- Where the channels of a buffer lie (docs/REFERENCE.md, 'Buffers and copies').
use Rattle.std.specs.Prelude.{◌≡◌, ℕ, ◌*◌, ◌<◌, List, length, take, drop}
use Rattle.std.proofs.Common.{arith, length-drop, length-take-le}
use Rattle.lists.specs.Rows.{row_fits, rows, row_of}

-- the frames of channel c: the channels lie one after another, each `frames` frames long
abbrev pub channel : List ℕ → ℕ → ℕ → List ℕ
channel samples frames c = take frames (drop (frames * c) samples)

-- a channel below the count has all its frames
pub length_channel : (samples : List ℕ) (frames count c : ℕ) → length samples ≡ frames * count → c < count
    → length (channel samples frames c) ≡ frames
length_channel samples frames count c full below =
    length-take-le frames (drop (frames * c) samples) (simp length-drop (omega (arith, row_fits frames c count below)))

-- channel c of a buffer of n channels that is made channel by channel
pub channel_rows : (frames n : ℕ) (f : ℕ → List ℕ) → ((k : ℕ) → k < n → length (f k) ≡ frames) → (c : ℕ) → c < n
    → channel (rows n f) frames c ≡ f c
channel_rows frames n f even c below = row_of frames n f even c below
