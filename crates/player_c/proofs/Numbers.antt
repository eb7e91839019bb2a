-- The code's numbers are the definitions'. Assumes nothing.
use mathlib.Core.Path.{◌≡◌, refl}
use lib.Ieee.{binary32, binary64, of_bits, of_int}
use Rattle.rounding.specs.Rounding.{whole}
use Rattle.player_c.specs.Playing.{samples_in_second}

-- 48,000 as an f32 and as an f64
pub rate_f32 : of_bits binary32 0x473b_8000 ≡ samples_in_second
unfolding of_bits of_int
rate_f32 = refl

pub rate_f64 : of_bits binary64 0x40e7_7000_0000_0000 ≡ samples_in_second
unfolding of_bits of_int
rate_f64 = refl

pub block_length : of_bits binary64 0x4060_0000_0000_0000 ≡ whole 128
unfolding of_bits of_int
block_length = refl
