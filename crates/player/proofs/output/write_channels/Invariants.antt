-- `player::output::write_channels` meets its contract. The invariant: the first c channels are written (`written`). Assumes nothing.
use Rattle.std.proofs.Common.{◌≡◌, ℕ, List, length}
use Rattle.lists.specs.Table.{table}
use Rattle.player.specs.Block.{written}
use Rattle.player.proofs.output.write_channels.Given as goal

abbrev pub invariant-loop-c : goal.invariant-loop-c
invariant-loop-c g l =
    let it = l.channels in
    (sample : List ℕ → ℕ → ℕ) → ((part : _) (channel : _) (after : _) → length part.now ≡ 128 → length channel.now ≡ it.frames → goal.F-post g l.write part channel tt after → after.now ≡ table 128 (sample channel.now))
    → l.out ≡ written 128 sample it.frames it.samples.now l.initial.out l.c
