-- `clip::bytes::bytes_at` meets its contract. The invariant: the first i bytes are read (`filled`). Assumes nothing.
use Rattle.std.proofs.Common.{◌≡◌, ◌+◌, get_or}
use Rattle.lists.specs.Table.{filled}
use Rattle.clip.proofs.bytes.bytes_at.Given as goal

abbrev pub invariant-loop-i : goal.invariant-loop-i
invariant-loop-i g l = l.byte-items ≡ filled l.i (λ k. get_or l.file (l.at + k) 0) l.initial.byte-items
