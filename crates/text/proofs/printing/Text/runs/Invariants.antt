-- The runs of the other words are still to come.
use Rattle.std.proofs.Common.{◌≡◌, ◌+◌, length}
use Rattle.text.specs.Lines.{runs}
use Rattle.text.proofs.Texts.{Printing}
use Rattle.text.proofs.printing.Text.runs.Given as goal

abbrev pub invariant-loop-run : goal.invariant-loop-run
invariant-loop-run l =
    Printing l.initial.self l.self (runs l.channel l.first l.run-iterator.rest.now) (runs l.channel 0 l.words)
    × (l.first + length l.run-iterator.rest.now ≡ length l.words)
