-- `ramps::Ramp::factors`: the array is filled to its end, with finite numbers. Assumes nothing.
-- By hand: with laws named on the function neither is proved.
use Rattle.std.proofs.Common.{◌≡◌, ◌-◌, arith, refl, subst, sym, T, get_or, List}
use lib.Ieee.{Float, nan, binary32, div}
use lib.Ieee.Scale.{finite}
use Rattle.lists.specs.Table.{filled_end, filled_more, table, get_or_table}
use Rattle.ramps.specs.Factors.{quotient}
use Rattle.ramps.proofs.Block.{level_quotient}
use Rattle.ramps.proofs.Finite.{quotient_finite}
use Rattle.ramps.proofs.Ramp.factors.Goals as goal

pub loop-i-preserved : goal.loop-i-preserved
loop-i-preserved c =
    let s = c.slopes-slopes in
    let at : c.from.result ≡ c.loop-i.i = cc in
    let since : c.saturating_sub.result ≡ c.loop-i.i - c.args.uncounted = omega arith in
    let quotient_is : div binary32 c.whole.result c.from-frames.result ≡ quotient c.args.self c.args.uncounted c.loop-i.i =
    level_quotient c.args.self c.args.uncounted c.loop-i.i c.saturating_sub.result s.result.length s.result.up s.result.down c.level-level.result _
    (omega arith) since s.ensures.0 s.ensures.1 s.ensures.2 c.level-level.ensures (cc) in
    rw at (filled_more _ _ _ _ _ c.loop-i.invariant quotient_is)

pub returns : goal.returns
returns c =
    let at = c.loop-i in
    let all : at.i ≡ 128 = omega arith in
    (filled_end _ _ _ _ at.invariant all, refl, c.rising_end.ensures, c.falling_start.ensures)

pub invariant_of-result : goal.invariant_of-result
invariant_of-result c =
    let at = c.loop-i in
    let all : at.i ≡ 128 = omega arith in
    let full : at.quotients ≡ table 128 (quotient c.args.self c.args.uncounted) = filled_end _ _ _ _ at.invariant all in
    record {
      finite = λ i low.
          subst (λ (l : List Float). T (finite (get_or l i nan))) (sym full)
          (subst (λ (x : Float). T (finite x)) (sym (get_or_table 128 (quotient c.args.self c.args.uncounted) i nan low)) (quotient_finite c.args.self c.args.uncounted i));
    }
