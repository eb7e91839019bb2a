-- The limits of a rate in code are the f32 of the definition's whole numbers. Assumes nothing.
use Rattle.std.proofs.Common.{◌≡◌, true, false}
use lib.Ieee.{Float, binary32, le, of_bits, of_int}
use Rattle.buffer.specs.Limits.{valid_rate}

-- at 3,000 or above, 768,000 decides
pub rate_above : (rate : Float) → le (of_bits binary32 0x453b_8000) rate ≡ true → valid_rate rate ≡ le rate (of_bits binary32 0x493b_8000)
unfolding valid_rate of_bits of_int
rate_above rate h = rw h

pub rate_below : (rate : Float) → le (of_bits binary32 0x453b_8000) rate ≡ false → valid_rate rate ≡ false
unfolding valid_rate of_bits of_int
rate_below rate h = rw h
