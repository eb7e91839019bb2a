-- `clip::writing::starts` meets its contract. The invariant: the first c places are stored (`filled`). Assumes nothing.
use Rattle.std.proofs.Common.{◌≡◌, ◌+◌, ◌*◌}
use Rattle.lists.specs.Table.{filled}
use Rattle.clip.proofs.writing.starts.Given as goal

abbrev pub invariant-loop-c : goal.invariant-loop-c
invariant-loop-c l = l.start-items ≡ filled l.c (λ k. l.first + l.size * k) l.initial.start-items
