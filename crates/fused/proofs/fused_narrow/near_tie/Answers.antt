-- `fused::fused_narrow::near_tie` meets its contract. Assumes nothing.
-- By hand: with laws named on the function `returns` is not proved.
use Rattle.std.proofs.Common.{refl, arith}
use Rattle.fused.proofs.Side.{tied}
use Rattle.fused.proofs.fused_narrow.near_tie.Goals as goal

pub returns : goal.returns
returns c =
    let a = c.args in
    tied a.a a.b a.c a.size a.p a.q c.field_of.result c.field_of-e.result c.field_of-2.result _ _ _ c.full_digits.result c.full_digits-2.result c.full_digits-3.result _ c.beside.result
    (c.is_beside.ensures c.if-not-is_beside.false) (c.in_reach.ensures c.if-not-in_reach.false) c.field_of.ensures c.field_of-e.ensures c.field_of-2.ensures refl (omega arith) (omega arith)
    c.full_digits.ensures c.full_digits-2.ensures c.full_digits-3.ensures refl c.beside.ensures
