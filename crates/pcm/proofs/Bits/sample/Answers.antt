-- By hand: the whole number as the code's cast reads it.
use Rattle.std.proofs.Math.Facts.{to_z-of_z}
use Rattle.std.proofs.Common.{◌≡◌, w64, to_z, of_z}
use Rattle.pcm.proofs.Quotients.{counted, kept}
use Rattle.pcm.proofs.Bits.sample.Goals as goal

pub int_to_float-whole : goal.int_to_float-whole
int_to_float-whole c =
    let same : to_z w64 (of_z w64 c.whole.result) ≡ c.whole.result = to_z-of_z {w = w64} {z = c.whole.result} (record { sfits = c.whole.type_inv }) in
    rw (same, c.whole.ensures) (counted c.args.self c.args.word c.ranges.word.fits)

pub returns : goal.returns
returns c =
    let same : to_z w64 (of_z w64 c.whole.result) ≡ c.whole.result = to_z-of_z {w = w64} {z = c.whole.result} (record { sfits = c.whole.type_inv }) in
    rw (c.narrow.ensures, c.from.ensures, same, c.whole.ensures, c.full.ensures) (kept c.args.self c.args.word c.ranges.word.fits)
