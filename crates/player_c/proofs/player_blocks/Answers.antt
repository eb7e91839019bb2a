-- `player_c::player_blocks` meets its contract: after all blocks.
-- By hand: `search` gave up at one of its limits.
use Rattle.player_c.proofs.Turns.{all_answer, all_output}
use Rattle.player_c.proofs.player_blocks.Goals as goal

pub returns : goal.returns
returns c =
    let all = c.loop-n-test.false in
    let at = c.loop-n.invariant in (
      all_answer _ _ _ _ _ _ _ _ c.begun.ensures c.in-Ok.is c.loop-n.auto.n-end all _ at.is,
      all_output _ _ _ _ _ _ _ _ c.begun.ensures c.in-Ok.is c.loop-n.auto.n-end all _ at.holds,
    )
