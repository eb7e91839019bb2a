-- By hand: `search` gave up at one of its limits.
use Rattle.std.proofs.Common.{◌∙◌}
use Rattle.text.proofs.Texts.{goes_on}
use Rattle.text.proofs.Runs.{channels_turn}
use Rattle.text.proofs.printing.Text.channels.Goals as goal

pub loop-channel-preserved : goal.loop-channel-preserved
loop-channel-preserved c =
    let s = c.in-Some.ensures.steps in
    let part = s.0.0 in
    let turn = channels_turn _ _ _ _ _ part.1.0 part.1.1 c.loop-channel.invariant.1 in
    (goes_on c.args.self.now c.loop-channel.self c.runs.new.self _ _ _ _ c.loop-channel.invariant.0 (rw (← s.0.1, s.1, s.2) turn) c.runs.ensures, part.0 ∙ c.loop-channel.invariant.1)
