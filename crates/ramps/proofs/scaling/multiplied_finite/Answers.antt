-- `ramps::scaling::multiplied_finite`: neither the sample nor the product is a NaN. Assumes nothing.
-- By hand: with laws named on the function neither is proved.
use Rattle.ramps.proofs.Finite.{pattern, product}
use Rattle.ramps.proofs.scaling.multiplied_finite.Goals as goal

pub float_from_bits-result : goal.float_from_bits-result
float_from_bits-result c = pattern c.args.bits c.requires.sample

pub float_to_bits-result : goal.float_to_bits-result
float_to_bits-result c = product c.args.bits c.args.factor c.requires.sample c.requires.number
