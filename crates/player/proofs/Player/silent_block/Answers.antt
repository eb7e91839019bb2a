-- `player::Player::silent_block`: zeros, and the ramp stays.
-- By hand: with the laws named on the function `returns` is not proved.
use Rattle.std.proofs.Common.{◌∙◌, ap, List, ℕ}
use Rattle.lists.specs.Parts.{put}
use Rattle.player.specs.declared.Player.{Player}
use Rattle.player.specs.Reports.{report_from}
use Rattle.player.proofs.Written.{silence}
use Rattle.player.proofs.Ramped.{silent_report, silent_samples}
use Rattle.player.proofs.Player.silent_block.Goals as goal

pub returns : goal.returns
returns c =
    let a = c.args in (
      c.report.ensures ∙ ap (λ (q : Player). report_from q a.keep_alive 1) c.idle.ensures ∙ silent_report a.self a.time a.ended a.keep_alive,
      silence a.out.now c.fill.new.self c.told-out c.fill.ensures.after
          ∙ ap (λ (zeros : List ℕ). put 0 128 zeros a.out.now) (silent_samples a.self a.time a.ended a.keep_alive),
    )
