-- `staircase_text::printing::staircase_text`: a staircase that is answered has at most 1,000 trials.
use Rattle.std.proofs.Common.{◌∙◌, sym}
use Rattle.staircase.proofs.Tracks.{answered}
use Rattle.staircase_text.proofs.printing.staircase_text.Goals as goal

pub push_trials-requires : goal.push_trials-requires
push_trials-requires c =
    let a = c.args in
    (answered a.start a.threshold a.step a.trials a.lapses.now c.in-Ok.track (sym c.staircase.ensures ∙ c.in-Ok.is)).few
