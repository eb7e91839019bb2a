-- `reshape::resampling::resample_channels` meets its contract. The invariant: in each channel's part the frames of the blocks before this one are written. Assumes nothing.
use Rattle.std.proofs.Common.{◌≡◌, ◌*◌, min}
use Rattle.lists.specs.Rows.{rows}
use Rattle.lists.specs.Table.{filled}
use Rattle.buffer.specs.Channels.{channel}
use Rattle.reshape.specs.Converting.{resampled}
use Rattle.reshape.proofs.resampling.resample_channels.Given as goal

abbrev pub invariant-loop-block : goal.invariant-loop-block
invariant-loop-block l =
    l.out ≡ rows l.channels.count (λ c. filled (min (64 * l.block) l.size) (resampled l.rates.source l.rates.target (channel l.channels.samples.now l.channels.frames c))
    (channel l.initial.out l.size c))
