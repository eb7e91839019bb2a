-- Where the frames of a result are read, apart from a channel's frames: it is worked out once for all channels.
use Rattle.std.specs.Prelude.{ℕ, ◌+◌, ◌-◌, min, cond, List, length, nat_lt, from_bits, slice_index, get_or, Float}
use Rattle.std.specs.Float.{binary32, nan}
use Rattle.std.specs.Float.Ieee.{lt}
use Rattle.rounding.specs.Rounding.{whole}
use Rattle.reshape.specs.Converting.{playhead, previous, fraction, mixed}

-- the frame at or before the place of frame i, of frames up to the last one; past the last one for a place past it
unfoldable pub place_frame : Float → Float → ℕ → ℕ → ℕ
place_frame source target last i =
    let position = playhead source target i in
    cond (lt (whole last) position) (last + 1) (previous position)

-- how far past that frame; 0 for a place past the last one
unfoldable pub place_fraction : Float → Float → ℕ → ℕ → Float
place_fraction source target last i =
    let position = playhead source target i in
    cond (lt (whole last) position) (from_bits binary32 0) (fraction position)

-- what a channel has there
unfoldable pub read_at : List ℕ → ℕ → Float → ℕ
read_at frames frame k =
    let last = length frames - 1 in
    cond (nat_lt last frame) (slice_index frames last) (mixed k (slice_index frames frame) (slice_index frames (min (frame + 1) last)))

-- frame i of a block, by the places that stand in its arrays
abbrev pub at_places : List ℕ → List Float → List ℕ → ℕ → ℕ
at_places frame fraction frames i = read_at frames (get_or frame i 0) (get_or fraction i nan)
