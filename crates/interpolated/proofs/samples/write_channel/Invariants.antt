-- `interpolated::samples::write_channel` meets its contract. The invariant: the first i samples are written. Assumes nothing.
use Rattle.std.proofs.Common.{◌≡◌}
use Rattle.lists.specs.Table.{filled}
use Rattle.interpolated.specs.Interpolated.{sample_by}
use Rattle.interpolated.proofs.samples.write_channel.Given as goal

abbrev pub invariant-loop-i : goal.invariant-loop-i
invariant-loop-i l = l.sample-items ≡ filled l.i (sample_by l.fn.s l.infos l.channel) l.initial.sample-items
