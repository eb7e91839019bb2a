-- `rounding::remainder::reduced` meets its contract. Assumes nothing.
-- By hand: with laws named on the function some of its 6 goals are not proved.
use Rattle.rounding.proofs.Doubled.{start, smaller, kept, taken_off, done}
use Rattle.rounding.proofs.remainder.reduced.Goals as goal

pub loop-divisor-init : goal.loop-divisor-init
loop-divisor-init c =
    let d = c.doubled-divisor.ensures in
    start c.args.a c.args.b c.well_formed.0.1 c.well_formed.1.0.1 c.requires.dividend c.requires.divisor c.doubled-divisor.result d.doubled d.at_most d.enough

pub loop-divisor-smaller-then-divisor-rest : goal.loop-divisor-smaller-then-divisor-rest
loop-divisor-smaller-then-divisor-rest c = smaller c.args.a c.args.b c.well_formed.0.1 c.well_formed.1.0.1 c.requires.dividend c.requires.divisor c.loop-divisor.divisor c.loop-divisor.rest c.loop-divisor.invariant c.loop-divisor-test.true

pub loop-divisor-preserved-then-divisor-rest : goal.loop-divisor-preserved-then-divisor-rest
loop-divisor-preserved-then-divisor-rest c = taken_off c.args.a c.args.b c.well_formed.0.1 c.well_formed.1.0.1 c.requires.dividend c.requires.divisor c.loop-divisor.divisor c.loop-divisor.rest c.loop-divisor.invariant c.loop-divisor-test.true c.if-divisor-rest.true

pub loop-divisor-smaller : goal.loop-divisor-smaller
loop-divisor-smaller c = smaller c.args.a c.args.b c.well_formed.0.1 c.well_formed.1.0.1 c.requires.dividend c.requires.divisor c.loop-divisor.divisor c.loop-divisor.rest c.loop-divisor.invariant c.loop-divisor-test.true

pub loop-divisor-preserved : goal.loop-divisor-preserved
loop-divisor-preserved c = kept c.args.a c.args.b c.well_formed.0.1 c.well_formed.1.0.1 c.requires.dividend c.requires.divisor c.loop-divisor.divisor c.loop-divisor.rest c.loop-divisor.invariant c.loop-divisor-test.true c.if-divisor-rest.false

pub returns : goal.returns
returns c = done c.args.a c.args.b c.well_formed.0.1 c.well_formed.1.0.1 c.requires.dividend c.requires.divisor c.loop-divisor.divisor c.loop-divisor.rest c.loop-divisor.invariant c.loop-divisor-test.false
