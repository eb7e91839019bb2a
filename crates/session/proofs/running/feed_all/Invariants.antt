-- `session::running::feed_all` meets its contract. The invariant: what is gone from `rest` was taken. Assumes nothing.
use Rattle.std.proofs.Common.{◌≡◌, ◌≤◌, ℕ, List, ◌++◌, length}
use Rattle.text.specs.Lines.{block_room}
use Rattle.session.specs.Feeding.{run_of}
use Rattle.session.specs.Running.{Ran}
use Rattle.session.proofs.running.feed_all.Given as goal

abbrev pub invariant-loop-rest : goal.invariant-loop-rest
invariant-loop-rest g l =
    (block_room ≤ length l.out) × ((done : List ℕ) × (l.bytes ≡ done ++ l.rest)
    × Ran l.samples (run_of l.initial.state l.initial.line l.initial.words) done (g.W.Write.contents l.initial.output) (g.W.Write.contents l.output)
    (run_of l.state l.line l.words))

abbrev pub decreases-loop-rest : goal.decreases-loop-rest
decreases-loop-rest g l = length l.rest
