-- `rounding::known::known_wholes`: antt computes each of them. Assumes nothing.
-- By hand: without it `returns` is not proved.
use Rattle.std.proofs.Common.{refl}
use lib.Ieee.{round, of_bits, to_unsigned, rem, add, lt}
use Rattle.rounding.specs.Rounding.{floor, ceil, round_away, rem_euclid, magnitude}
use Rattle.rounding.specs.Wholes.{KnownWholes}
use Rattle.rounding.proofs.known.known_wholes.Goals as goal

pub returns : goal.returns
unfolding KnownWholes floor ceil round_away rem_euclid magnitude to_unsigned round of_bits rem add lt
returns c =
    (refl, refl, refl, refl, refl, refl, refl, refl, refl, refl, refl, refl, refl, refl, refl, refl, refl, refl, refl, refl, refl, refl, refl, refl, refl, refl, refl, refl, refl, refl)
