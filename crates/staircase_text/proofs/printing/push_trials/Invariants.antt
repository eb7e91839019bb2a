-- `staircase_text::printing::push_trials` meets its contract. The invariant: the lines of the trials before this one are pushed. Assumes nothing.
use Rattle.std.proofs.Common.{◌≡◌, ◌++◌, string_bytes}
use Rattle.staircase_text.specs.Text.{trial_lines}
use Rattle.staircase_text.proofs.printing.push_trials.Given as goal

abbrev pub invariant-loop-trial : goal.invariant-loop-trial
invariant-loop-trial l = string_bytes l.text ≡ string_bytes l.fn.text ++ trial_lines l.trial l.track
