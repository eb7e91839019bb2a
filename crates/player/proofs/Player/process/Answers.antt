-- `player::Player::process` meets its contract.
-- By hand: what `process_by` promises is asked for the factor, or for its refusal.
use Rattle.player.proofs.Refused.{by_factor}
use Rattle.player.proofs.Player.process.Goals as goal

pub returns : goal.returns
returns c =
    let a = c.args in
    by_factor (λ it. it.value) a.self c.new.result c.process_by.result a.out.now c.process_by.new.out a.samples.now a.time a.rate a.factor
    c.process_by.ensures.accepted c.process_by.ensures.refused c.new.ensures.checked c.new.ensures.made
