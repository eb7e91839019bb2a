-- `fused::known::known_fused`: antt computes the frame. Assumes nothing.
-- By hand: without it `returns` is not proved.
use Rattle.std.proofs.Common.{refl}
use lib.Ieee.{round, sum}
use Rattle.fused.specs.Fused.{fma, plus}
use Rattle.fused.specs.Known.{KnownFused}
use Rattle.fused.proofs.known.known_fused.Goals as goal

pub returns : goal.returns
unfolding KnownFused fma plus round sum
returns c = refl
