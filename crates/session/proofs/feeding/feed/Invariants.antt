-- `session::feeding::feed` meets its contract. The invariant: to take the bytes that are left is to take all of them. Assumes nothing.
use Rattle.std.proofs.Common.{◌≡◌, ◌^◌, ◌≤◌, ◌<◌, length}
use Rattle.session.specs.Feeding.{run_of}
use Rattle.session.proofs.Bytes.{Reached}
use Rattle.session.proofs.feeding.feed.Given as goal

abbrev pub invariant-loop-taken : goal.invariant-loop-taken
invariant-loop-taken l =
    (length l.initial.out < 2 ^ 64) × (l.printed ≤ length l.initial.out) × (length l.line ≡ length l.initial.line) × (length l.words ≡ length l.initial.words)
    × Reached l.samples l.input l.initial.out (run_of l.initial.state l.initial.line l.initial.words) l.line l.words l.out l.state l.taken l.printed
