-- `reshape::resampling::Places::fill` meets its contract. The invariant: the first i frames are stored (`filled`), the others are as they were. Assumes nothing.
use Rattle.std.proofs.Common.{◌≡◌}
use Rattle.lists.specs.Table.{filled}
use Rattle.reshape.specs.Places.{at_places}
use Rattle.reshape.proofs.resampling.Places.fill.Given as goal

abbrev pub invariant-loop-i : goal.invariant-loop-i
invariant-loop-i l = l.block ≡ filled l.i (at_places l.self.frame l.self.fraction l.channel) l.initial.block
