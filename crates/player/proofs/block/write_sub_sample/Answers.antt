-- `player::block::write_sub_sample`: the channels are written by its infos.
-- By hand: what `write_channels` promises is asked for a sample that the caller names.
use Rattle.std.proofs.Common.{rules, arith, sym, ◌≡◌, length, min}
use Rattle.lists.specs.Table.{filled_end}
use Rattle.interpolated.specs.Interpolated.{sample_by}
use Rattle.player.proofs.block.write_sub_sample.Goals as goal

pub returns : goal.returns
returns c =
    let a = c.args in
    c.write_channels.ensures (sample_by a.s a.infos.now) (λ part channel after full even post.
    let all : min (length part.now) 128 ≡ length part.now = omega (arith, full) in
    rw (sym full) (filled_end (min (length part.now) 128) (sample_by a.s a.infos.now channel.now) part.now after.now (search rules) all))
