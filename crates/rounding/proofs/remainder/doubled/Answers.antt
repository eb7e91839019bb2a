-- `rounding::remainder::doubled` meets its contract. Assumes nothing.
-- By hand: with laws named on the function some of its 4 goals are not proved.
use Rattle.rounding.proofs.Doubled.{once, up, nearer, enough}
use Rattle.rounding.proofs.remainder.doubled.Goals as goal

pub loop-divisor-init : goal.loop-divisor-init
loop-divisor-init c = once c.args.a c.args.b c.well_formed.0.1 c.well_formed.1.0.1 c.requires.dividend c.requires.divisor c.requires.order

pub loop-divisor-smaller : goal.loop-divisor-smaller
loop-divisor-smaller c = nearer c.args.a c.args.b c.well_formed.0.1 c.well_formed.1.0.1 c.requires.dividend c.requires.divisor c.loop-divisor.divisor c.loop-divisor.invariant c.loop-divisor-test.true

pub loop-divisor-preserved : goal.loop-divisor-preserved
loop-divisor-preserved c = up c.args.a c.args.b c.well_formed.0.1 c.well_formed.1.0.1 c.requires.dividend c.requires.divisor c.loop-divisor.divisor c.loop-divisor.invariant c.loop-divisor-test.true

pub returns-clause-enough : goal.returns-clause-enough
returns-clause-enough c = enough c.args.a c.args.b c.well_formed.0.1 c.well_formed.1.0.1 c.requires.dividend c.requires.divisor c.loop-divisor.divisor c.loop-divisor.invariant c.loop-divisor-test.false
