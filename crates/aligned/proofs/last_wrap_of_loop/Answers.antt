-- `aligned::last_wrap_of_loop`: the last wrap of the whole block. Assumes nothing.
-- By hand: with laws named on the function `returns` is not proved.
use Rattle.std.proofs.Common.{◌≡◌, ◌∙◌, true, ap, arith}
use Rattle.aligned.specs.Aligned.{last_wrap}
use Rattle.aligned.proofs.last_wrap_of_loop.Goals as goal

pub returns : goal.returns
returns c =
    let all : c.loop-i.i ≡ 128 = omega arith in
    c.loop-i.invariant.1 ∙ ap (last_wrap true _ _) all
