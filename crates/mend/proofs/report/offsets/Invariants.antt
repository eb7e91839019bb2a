-- `mend::report::offsets` meets its contract. The invariant: the first c places are stored (`filled`). Assumes nothing.
use Rattle.std.proofs.Common.{◌≡◌}
use Rattle.lists.specs.Table.{filled}
use Rattle.clip.specs.Reading.{offset_field}
use Rattle.mend.proofs.report.offsets.Given as goal

abbrev pub invariant-loop-c : goal.invariant-loop-c
invariant-loop-c l = l.offset-items ≡ filled l.c (offset_field l.form l.file) l.initial.offset-items
