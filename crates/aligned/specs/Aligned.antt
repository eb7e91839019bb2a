-- docs/REFERENCE.md, 'Aligned block': which frame each sample plays, and the position afterwards.
-- n is the block length; positions and lengths are seconds of the clip. Definitions only.
use Rattle.std.specs.Prelude.{Bool, ◌&&◌, cond, List, ℕ, zero, suc, ◌-◌, leb, get_or, Float, Option, None, Some}
use Rattle.std.specs.Float.{binary64}
use Rattle.std.specs.Float.Ieee.{add, mul, div, rem, lt, to_unsigned}
use Rattle.rounding.specs.Rounding.{whole, round_away}
use Rattle.seconds.specs.Seconds.{block_seconds}

-- the first frame: position × rate, rounded half away from zero
unfoldable pub first_frame : Float → Float → ℕ
first_frame position rate = to_unsigned 64 (round_away binary64 (mul binary64 position rate))

-- whether the clip ends within the block: the position and the block's length lie past its duration
unfoldable pub ends_within : ℕ → Float → Float → Float → Bool
ends_within n position rate seconds = lt seconds (add binary64 position (block_seconds n rate))

-- The frame that is played where frame `next` comes next: past the last frame, a clip that turns over starts with frame 0.
unfoldable pub played : Bool → ℕ → ℕ → ℕ
played turns frames next = cond (turns && leb frames next) 0 next

-- The frame that comes next at sample i, from `first` on. A block turns over if it is looped and the clip ends within it.
unfoldable pub next_frame : Bool → ℕ → ℕ → ℕ → ℕ
next_frame turns frames first zero = first
next_frame turns frames first (suc i) = suc (played turns frames (next_frame turns frames first i))

-- sample i of a channel: past the clip's last frame it is zero
unfoldable pub aligned_sample : Bool → ℕ → ℕ → List ℕ → ℕ → ℕ
aligned_sample turns frames first channel i = get_or channel (played turns frames (next_frame turns frames first i)) 0

-- the last sample below i at which frame 0 was started over
unfoldable pub last_wrap : Bool → ℕ → ℕ → ℕ → Option ℕ
last_wrap turns frames first zero = None
last_wrap turns frames first (suc i) =
    cond (turns && leb frames (next_frame turns frames first i)) (Some i) (last_wrap turns frames first i)

-- after a last wrap at sample i it is the remainder of (n − i) / rate by the duration; otherwise the position grows by the block's length
unfoldable pub aligned_position : ℕ → Float → Float → Float → Option ℕ → Float
aligned_position n position rate seconds None = add binary64 position (block_seconds n rate)
aligned_position n position rate seconds (Some i) = rem binary64 (div binary64 (whole (n - i)) rate) seconds
