-- `sub_sample::filling::fill_infos`: the arrays are filled to their ends. Assumes nothing.
-- By hand: with laws named on the function `returns` is not proved.
use Rattle.std.proofs.Common.{◌≡◌, ◌∙◌, ap, arith}
use Rattle.lists.specs.Table.{filled_end}
use Rattle.sub_sample.specs.SubSample.{head_at, before_start}
use Rattle.sub_sample.proofs.filling.fill_infos.Goals as goal

pub returns : goal.returns
returns c =
    let at = c.loop-i in
    let all : at.i ≡ 128 = omega arith in
    let frames = filled_end _ _ _ _ at.invariant.1 all in
    let fractions = filled_end _ _ _ _ at.invariant.2 all in
    let presents = filled_end _ _ _ _ at.invariant.3 all in
    (cc, at.invariant.0 ∙ ap (head_at _ _) all, at.invariant.4 ∙ ap (before_start _ _) all)
