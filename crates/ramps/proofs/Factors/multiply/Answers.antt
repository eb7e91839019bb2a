-- `ramps::Factors::multiply`: the two ranges are the samples that have a factor. Assumes nothing.
-- By hand: with the law named on the function `returns` is not proved.
use Rattle.std.proofs.Common.{◌≡◌, sym, min, length}
use Rattle.ramps.proofs.Block.{whole_part}
use Rattle.ramps.proofs.Factors.multiply.Goals as goal

pub returns : goal.returns
returns c =
    let a = c.args in
    let p = c.multiply_from in
    let q = c.multiply_from-2 in
    let first : c.min-n.result ≡ min (length a.part.now) 128 = c.min-n.ensures in
    rw (sym first)
    (whole_part a.self.now a.part.now c.min-n.result c.min-rising.result c.max-risen.result c.max-falling.result (cc) (cc) (cc) p.new.part q.new.part p.ensures q.ensures)
