-- The last digits are still to come.
use Rattle.commands.specs.Digits.{hex}
use Rattle.text.proofs.Texts.{Printing}
use Rattle.text.proofs.printing.Text.hex.Given as goal

abbrev pub invariant-loop-i : goal.invariant-loop-i
invariant-loop-i l = Printing l.initial.self l.self (hex l.i l.v) (hex 8 l.v)
