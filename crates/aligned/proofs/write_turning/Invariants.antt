-- `aligned::write_turning` meets its contract. The invariant: the samples so far are written, and `next` comes next. Assumes nothing.
use Rattle.std.proofs.Common.{◌≡◌, true, length}
use Rattle.lists.specs.Table.{filled}
use Rattle.aligned.specs.Aligned.{next_frame, aligned_sample}
use Rattle.aligned.proofs.write_turning.Given as goal

abbrev pub invariant-loop-sample : goal.invariant-loop-sample
invariant-loop-sample l =
    (l.part ≡ filled l.sample-index (aligned_sample true (length l.channel) l.first l.channel) l.initial.part)
    × (l.next ≡ next_frame true (length l.channel) l.first l.sample-index)
