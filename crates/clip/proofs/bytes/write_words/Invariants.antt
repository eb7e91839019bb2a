-- `clip::bytes::write_words` meets its contract. The invariant: the first i bytes are stored (`filled`). Assumes nothing.
use Rattle.std.proofs.Common.{◌≡◌, get_or}
use Rattle.lists.specs.Table.{filled}
use Rattle.clip.specs.Layout.{words}
use Rattle.clip.proofs.bytes.write_words.Given as goal

abbrev pub invariant-loop-i : goal.invariant-loop-i
invariant-loop-i l = l.out ≡ filled l.i (λ k. get_or (words l.numbers) k 0) l.initial.out
