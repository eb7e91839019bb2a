-- `aligned::write_tail` meets its contract: the frames that are left are copied, and zeros follow. Assumes nothing.
-- By hand: with laws named on the function `returns` is not proved.
use Rattle.std.proofs.Common.{refl}
use Rattle.aligned.proofs.Turning.{tail}
use Rattle.aligned.proofs.write_tail.Goals as goal

pub returns : goal.returns
returns c =
    rw (c.copy_from_slice.ensures.after, c.fill.ensures.after (λ y e. e))
    (tail _ _ _ _ _ refl c.split_at_mut-played.ensures.back_len)
