-- `player::block::write_aligned_ramped`: the channels are written, each by its factors.
-- By hand: what `write_channels` promises is asked for a sample that the caller names.
use Rattle.std.proofs.Common.{◌≡◌, ◌∙◌, rules, sym, length}
use Rattle.lists.specs.Table.{table}
use Rattle.aligned.specs.Aligned.{aligned_sample}
use Rattle.ramps.specs.Factors.{multiplied_by}
use Rattle.player.proofs.Ramped.{ramped_written}
use Rattle.player.proofs.block.write_aligned_ramped.Goals as goal

pub returns : goal.returns
returns c =
    let a = c.args in
    let it = a.channels in
    let f = c.factors-factors.result in
    c.write_channels.ensures (λ l i. multiplied_by f i (aligned_sample a.turns it.frames a.first l i))
    (λ part channel after full even post.
    let gives : length part.now ≡ 128 → after.now ≡ table 128 (λ i. multiplied_by f i (aligned_sample a.turns (length channel.now) a.first channel.now i)) = search rules in
    rw (sym even) (gives full))
    ∙ ramped_written a.ramp 0 (aligned_sample a.turns it.frames a.first) it.frames it.samples.now a.out.now it.count f c.factors-factors.ensures
