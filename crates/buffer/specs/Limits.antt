-- The limits of every buffer, and a buffer's duration (docs/REFERENCE.md, 'Limits' and 'Buffers and copies').
use Rattle.std.specs.Prelude.{◌≡◌, ℕ, ◌*◌, ◌≤◌, Bool, true, false, ◌&&◌, pos, ◌==◌, nat_le, refl, Float}
use Rattle.std.proofs.Common.{leb-true, eqb-true}
use Rattle.std.specs.Float.{binary32, binary64}
use Rattle.std.specs.Float.Ieee.{of_int, le, div}
use Rattle.rounding.specs.Rounding.{whole}

-- the most channels of a buffer, and the most frames of a channel
abbrev pub max_channels : ℕ
max_channels = 32

abbrev pub max_frames : ℕ
max_frames = 16777216

-- 1 to max_channels channels, each at most max_frames frames long, in samples of just that length
unfoldable pub valid_shape : ℕ → ℕ → ℕ → Bool
valid_shape channels frames len =
    nat_le 1 channels && (nat_le channels max_channels && (nat_le frames max_frames && len == channels * frames))

-- 3,000 to 768,000 frames a second; of a NaN both tests are false
unfoldable pub valid_rate : Float → Bool
valid_rate rate = le (of_int binary32 (pos 3000)) rate && le rate (of_int binary32 (pos 768000))

-- the seconds of a buffer: its frames as f64 over its rate as f64. Every f32 is an f64 as it stands
unfoldable pub duration : ℕ → Float → Float
duration frames rate = div binary64 (whole frames) rate

-- what a valid shape says of its numbers
pub record Valid (channels frames len : ℕ) : Type 0 where
  pub some : 1 ≤ channels
  pub few : channels ≤ max_channels
  pub short : frames ≤ max_frames
  pub full : len ≡ channels * frames

both : (a b : Bool) → (a && b) ≡ true → (a ≡ true) × (b ≡ true)
both true b h = (refl, h)
both false b h = (cc, cc)

pub valid : (channels frames len : ℕ) → valid_shape channels frames len ≡ true → Valid channels frames len
unfolding valid_shape
valid channels frames len h =
    let one = both _ _ h in
    let two = both _ _ one.1 in
    let three = both _ _ two.1 in
    record { some = leb-true _ _ one.0; few = leb-true _ _ two.0; short = leb-true _ _ three.0; full = eqb-true _ _ three.1 }
