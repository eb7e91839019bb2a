-- `aligned::write_straight` meets its contract: the first frame may be cut to the clip's length. Assumes nothing.
-- By hand: with laws named on the function `returns-then-part-channel`, `returns-else-part-channel` are not proved.
use Rattle.std.proofs.Common.{◌∙◌}
use Rattle.aligned.proofs.Turning.{straight}
use Rattle.aligned.proofs.write_straight.Goals as goal

pub returns-then-part-channel : goal.returns-then-part-channel
returns-then-part-channel c = c.write_within.ensures ∙ straight _ _ _ _ _ c.min-from.ensures

pub returns-else-part-channel : goal.returns-else-part-channel
returns-else-part-channel c = c.write_tail.ensures ∙ straight _ _ _ _ _ c.min-from.ensures
