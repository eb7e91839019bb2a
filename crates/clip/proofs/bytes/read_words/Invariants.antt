-- `clip::bytes::read_words` meets its contract. The invariant: the first i words are stored (`filled`). Assumes nothing.
use Rattle.std.proofs.Common.{◌≡◌, ◌+◌, ◌*◌}
use Rattle.lists.specs.Table.{filled}
use Rattle.clip.specs.Reading.{number_at}
use Rattle.clip.proofs.bytes.read_words.Given as goal

abbrev pub invariant-loop-i : goal.invariant-loop-i
invariant-loop-i l = l.out ≡ filled l.i (λ k. number_at 4 l.file (l.start + 4 * k)) l.initial.out
