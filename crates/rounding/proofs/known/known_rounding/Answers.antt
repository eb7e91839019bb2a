-- `rounding::known::known_rounding`: antt computes each of the frames. Assumes nothing.
-- By hand: without it `returns` is not proved.
use Rattle.std.proofs.Common.{refl}
use lib.Ieee.{round, of_bits, to_bits}
use Rattle.rounding.specs.Known.{KnownRounding}
use Rattle.rounding.specs.Rounding.{floor, round_away, convert, narrow}
use Rattle.rounding.proofs.known.known_rounding.Goals as goal

pub returns : goal.returns
unfolding KnownRounding floor round_away convert narrow round of_bits to_bits
returns c = (refl, refl, refl, refl, refl, refl, refl, refl, refl)
