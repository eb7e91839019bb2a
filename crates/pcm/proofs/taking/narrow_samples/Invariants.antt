-- `pcm::taking::narrow_samples` meets its contract. The invariant: the first i samples are stored (`filled`). Assumes nothing.
use Rattle.std.proofs.Common.{◌≡◌, get_or}
use Rattle.std.specs.Float.{nan}
use Rattle.lists.specs.Table.{filled}
use Rattle.rounding.specs.Rounding.{narrow}
use Rattle.pcm.proofs.taking.narrow_samples.Given as goal

abbrev pub invariant-loop-i : goal.invariant-loop-i
invariant-loop-i l = l.out ≡ filled l.i (λ k. narrow (get_or l.values k nan)) l.initial.out
