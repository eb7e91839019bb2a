-- `player::block::write_sub_sample_part`: the part is written, then multiplied.
-- By hand: with the law named on the function `returns` is not proved.
use Rattle.interpolated.specs.Interpolated.{sample_by}
use Rattle.player.proofs.Ramped.{part_by_infos}
use Rattle.player.proofs.block.write_sub_sample_part.Goals as goal

pub returns : goal.returns
returns c full =
    let a = c.args in
    part_by_infos a.factors.now (sample_by a.s a.infos.now a.channel.now) a.part.now c.write_channel.new.part c.multiply.new.part full
    c.write_channel.ensures c.multiply.ensures
