-- `aligned::last_wrap_of_loop` meets its contract. The invariant: `next` comes next at sample i, and `wrap` is the last wrap before it. Assumes nothing.
use Rattle.std.proofs.Common.{◌≡◌, true}
use Rattle.aligned.specs.Aligned.{next_frame, last_wrap}
use Rattle.aligned.proofs.last_wrap_of_loop.Given as goal

abbrev pub invariant-loop-i : goal.invariant-loop-i
invariant-loop-i l = (l.next ≡ next_frame true l.frames l.first l.i) × (l.wrap ≡ last_wrap true l.frames l.first l.i)
