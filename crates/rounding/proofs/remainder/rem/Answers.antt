-- `rounding::remainder::rem` meets its contract. Assumes nothing.
-- By hand: with laws named on the function `returns-then-not-is_regular` is not proved.
use Rattle.std.proofs.Common.{◌≡◌, false, sym, ap₂, ◌∙◌}
use Rattle.std.specs.Float.{binary64}
use lib.Ieee.{div, lt, of_bits}
use Rattle.rounding.specs.Rounding.{magnitude}
use Rattle.rounding.proofs.Sizes.{none_by_dividend, none_by_divisor}
use Rattle.rounding.proofs.remainder.rem.Goals as goal
use Rattle.rounding.proofs.remainder.rem.Goals.{then-not-is_regular-via-then-not-is_regular, then-not-is_regular-via-else-not-is_regular+then-not-is_regular-2}

pub returns-then-not-is_regular : goal.returns-then-not-is_regular
unfolding div of_bits
returns-then-not-is_regular c =
    let apart : lt (magnitude c.args.a) (magnitude c.args.b) ≡ false = ap₂ lt (sym c.magnitude-dividend.ensures) (sym c.magnitude-divisor.ensures) ∙ c.if-dividend-divisor.false in
    elim c.then-not-is_regular.branch [
      | then-not-is_regular-via-then-not-is_regular w ↦ none_by_dividend binary64 c.args.a c.args.b (sym w.if-not-is_regular.ensures) apart
      | then-not-is_regular-via-else-not-is_regular+then-not-is_regular-2 w ↦ none_by_divisor binary64 c.args.a c.args.b (sym w.if-not-is_regular-2.ensures) apart
    ]
