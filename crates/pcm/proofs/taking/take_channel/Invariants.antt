-- `pcm::taking::take_channel` meets its contract. The invariant: the first i samples are stored (`filled`). Assumes nothing.
use Rattle.std.proofs.Common.{◌≡◌, ◌+◌, ◌*◌}
use Rattle.lists.specs.Table.{filled}
use Rattle.pcm.specs.WholeNumbers.{size, sample_at}
use Rattle.pcm.specs.Taking.{frame_size}
use Rattle.pcm.proofs.taking.take_channel.Given as goal

abbrev pub invariant-loop-i : goal.invariant-loop-i
invariant-loop-i l =
    l.out ≡ filled l.i (λ k. sample_at l.bits l.bytes (frame_size l.bits l.channels * k + size l.bits * l.number)) l.initial.out
