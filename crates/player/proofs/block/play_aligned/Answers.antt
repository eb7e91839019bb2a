-- `player::block::play_aligned`: no sample of the block has a factor.
-- By hand: with the law named on the function `returns-else-touches` is not proved.
use Rattle.std.proofs.Common.{◌∙◌, sym}
use Rattle.aligned.specs.Aligned.{aligned_sample}
use Rattle.player.proofs.Ramped.{untouched_written}
use Rattle.player.proofs.block.play_aligned.Goals as goal

pub returns-else-touches : goal.returns-else-touches
returns-else-touches c =
    let a = c.args in
    let it = a.channels in
    c.write_aligned.ensures
    ∙ untouched_written a.ramp 0 (aligned_sample a.turns it.frames a.first) it.frames it.samples.now a.out.now it.count
    (sym c.touches.ensures ∙ c.if-touches.false)
