-- By hand: with these laws named on the function the two sums are not proved to fit, and `search` gave up at one of its limits at the invariant.
use Rattle.std.proofs.Common.{rules, arith, sym, ◌∙◌, ◌<◌, length}
use Rattle.commands.proofs.Hex.{room, grows, digit_small, hex_more}
use Rattle.commands.proofs.read_hex.Goals as goal

pub overflow_mul-number : goal.overflow_mul-number
overflow_mul-number c = omega (arith, room _ _ c.loop-b.invariant.0 (omega arith))

pub overflow_add-number : goal.overflow_add-number
overflow_add-number c = omega (arith, room _ _ c.loop-b.invariant.0 (omega arith), digit_small _ _ (sym c.in_ok-hex_digit.ensures), c.from.ensures)

pub loop-b-preserved : goal.loop-b-preserved
loop-b-preserved c =
    let d = sym c.in_ok-hex_digit.ensures in
    let within : c.loop-b.b-index < length c.args.digits.now = search rules in
    rw c.from.ensures (
      grows _ _ _ c.loop-b.invariant.0 (digit_small _ _ d),
      sym (hex_more _ _ _ _ within d) ∙ c.loop-b.invariant.1,
    )
