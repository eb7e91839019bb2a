-- `player::block::write_aligned_part`: the part is written, then multiplied.
-- By hand: with the law named on the function `returns` is not proved.
use Rattle.std.proofs.Common.{length}
use Rattle.aligned.specs.Aligned.{aligned_sample}
use Rattle.player.proofs.Ramped.{part}
use Rattle.player.proofs.block.write_aligned_part.Goals as goal

pub returns : goal.returns
returns c full =
    let a = c.args in
    part a.factors.now (aligned_sample a.turns (length a.channel.now) a.first a.channel.now) a.part.now c.write_channel.new.part c.multiply.new.part full
    c.write_channel.ensures c.multiply.ensures
