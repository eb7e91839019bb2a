use Rattle.text.proofs.printing.Text.+decimal.Given as goal

abbrev pub decreases-decimal : goal.decreases-decimal
decreases-decimal l = l.v
