-- `aligned::write_within` meets its contract. The invariant: the first i samples are written. Assumes nothing.
use Rattle.std.proofs.Common.{◌≡◌, ◌+◌, get_or}
use Rattle.lists.specs.Table.{filled}
use Rattle.aligned.proofs.write_within.Given as goal

abbrev pub invariant-loop-i : goal.invariant-loop-i
invariant-loop-i l = l.part ≡ filled l.i (λ k. get_or l.channel (l.first + k) 0) l.initial.part
