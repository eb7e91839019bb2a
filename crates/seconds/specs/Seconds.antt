-- Seconds, and the instants of a block: docs/REFERENCE.md, 'Words' and 'Output block'. Definitions only.
use Rattle.std.specs.Prelude.{ℕ, from_bits, Float}
use Rattle.std.specs.Float.{binary64}
use Rattle.std.specs.Float.Ieee.{add, mul, div}
use Rattle.rounding.specs.Rounding.{whole}
use Rattle.seconds.specs.declared.ContextSeconds.{ContextSeconds}
use Rattle.seconds.specs.declared.BufferSeconds.{BufferSeconds}

-- seconds of the context's clock, and of the clip
abbrev pub context : Float → ContextSeconds
context x = record { 0 = x }

abbrev pub in_clip : Float → BufferSeconds
in_clip x = record { 0 = x }

-- f64::MAX: a start or a stop that was not received, and no duration
abbrev pub never : Float
never = from_bits binary64 0x7fef_ffff_ffff_ffff

-- +0.0 and 1.0
abbrev pub float_zero : Float
float_zero = from_bits binary64 0

abbrev pub one : Float
one = from_bits binary64 0x3ff0_0000_0000_0000

-- the seconds from one sample to the next at r samples in a second: 1 / r, rounded to f64
unfoldable pub dt : Float → Float
dt r = div binary64 one r

-- the seconds of a block of n samples
unfoldable pub block_seconds : ℕ → Float → Float
block_seconds n r = mul binary64 (dt r) (whole n)

-- the instant of sample i, counted from 0, in a block that begins at `time`
unfoldable pub instant : Float → Float → ℕ → Float
instant time r i = add binary64 time (mul binary64 (whole i) (dt r))

-- where the block of n samples that begins at `time` ends
unfoldable pub block_end : ℕ → Float → Float → Float
block_end n time r = add binary64 time (block_seconds n r)
