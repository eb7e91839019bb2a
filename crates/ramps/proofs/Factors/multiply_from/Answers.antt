-- `ramps::Factors::multiply_from`: the part that was lent is back. Assumes nothing.
use Rattle.std.proofs.Common.{◌∙◌, get_or}
use Rattle.std.specs.Float.{nan}
use Rattle.lists.specs.Parts.{put}
use Rattle.ramps.specs.Ramps.{multiplied}
use Rattle.ramps.proofs.Block.{part_lem, lent_part}
use Rattle.ramps.proofs.Factors.multiply_from.Goals as goal

pub returns : goal.returns
unfolding put
returns c =
    let a = c.args in
    let ordered = c.requires.within.0 in
    let within = c.requires.within.1 in
    part_lem a.from a.to (λ i. multiplied (get_or a.self.now.quotients i nan) (get_or a.part.now i 0)) a.part.now ordered within c.multiply_all.new.samples
    (c.multiply_all.ensures ∙ lent_part multiplied a.from a.to a.self.now.quotients a.part.now ordered within)
