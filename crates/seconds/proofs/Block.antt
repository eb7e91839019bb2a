-- The number of a block's samples in code is the f64 of the definition's whole number. Assumes nothing.
use mathlib.Core.Path.{◌≡◌, refl}
use lib.Ieee.{Float, binary64, mul, of_bits, of_int}
use Rattle.seconds.specs.Seconds.{dt, block_seconds}

pub block_of : (rate : Float) → block_seconds 128 rate ≡ mul binary64 (dt rate) (of_bits binary64 0x4060_0000_0000_0000)
unfolding block_seconds of_bits of_int
block_of rate = refl
