-- `obeying::play` meets its contract: an accepted block's text has room, since it has at most 32 channels. Assumes nothing.
-- By hand: `search` gave up at one of its limits.
use Rattle.std.proofs.Common.{◌∙◌, arith}
use Rattle.obeying.proofs.Replies.{called, block_printed}
use Rattle.obeying.proofs.play.Goals as goal

pub returns : goal.returns
returns c =
    let e = called c.args.samples.now c.args.session c.args.words.now _ _ _
    c.block_time-time.ensures c.process.ensures.0 c.process.ensures.1 in
    block_printed _ _ _ _ _ _ _ _ _ _ (omega arith) (e.0 ∙ c.in-Ok.is) e.1 c.process.auto.out
    c.counted.ensures c.unwrap_or-printed.ensures c.block_text-text.ensures.0 c.block_text-text.ensures.1
