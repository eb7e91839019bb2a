-- `player::Player::process_by` meets its contract.
-- By hand: what the checks promise is asked for the factor, or the refusal, that the caller names.
use Rattle.std.proofs.Common.{rules}
use Rattle.player.specs.Block.{rendered, output, checked, without_factor}
use Rattle.player.proofs.Player.process_by.Goals as goal

pub returns-in_err-factor-clause-accepted : goal.returns-in_err-factor-clause-accepted
unfolding rendered output
returns-in_err-factor-clause-accepted g c it e =
    let checks = c.check_block.ensures.accepted it e in
    search rules

pub returns-in_err-factor-clause-refused : goal.returns-in_err-factor-clause-refused
returns-in_err-factor-clause-refused g c refusal e =
    let checks = c.check_block.ensures.refused refusal e in
    search rules

pub returns-clause-accepted : goal.returns-clause-accepted
unfolding rendered output
returns-clause-accepted g c it e =
    let checks = c.check_block.ensures.accepted it e in
    let block = c.render.ensures in
    search rules

pub returns-clause-refused : goal.returns-clause-refused
returns-clause-refused g c refusal e =
    let checks = c.check_block.ensures.refused refusal e in
    search rules

pub returns-in_err-out-clause-accepted : goal.returns-in_err-out-clause-accepted
unfolding rendered output checked
returns-in_err-out-clause-accepted g c it e = search rules

pub returns-in_err-out-clause-refused : goal.returns-in_err-out-clause-refused
unfolding without_factor
returns-in_err-out-clause-refused g c refusal e = search rules
