-- `rounding::known::f64_wholes`: the laws at f64. Assumes nothing.
-- By hand: without it its 3 goals are not proved.
use lib.Ieee.{binary64}
use Rattle.rounding.proofs.Euclid.{euclid, truncation, wholes}
use Rattle.rounding.proofs.known.f64_wholes.Goals as goal

pub returns-clause-wholes : goal.returns-clause-wholes
returns-clause-wholes c = wholes binary64

pub returns-clause-truncation : goal.returns-clause-truncation
returns-clause-truncation c = truncation

pub returns-clause-euclid : goal.returns-clause-euclid
returns-clause-euclid c = euclid binary64
