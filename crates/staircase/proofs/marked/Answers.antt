-- `staircase::marked`: an entry is marked where it is below 1,000, and one past that marks nothing.
use Rattle.std.proofs.Common.{◌∙◌, true, ap, set, get_or, take_all, arith}
use Rattle.lists.specs.Table.{table}
use Rattle.staircase.specs.Staircase.{is_lapse}
use Rattle.staircase.proofs.Marks.{marks_none, marks_more, marks_past}
use Rattle.staircase.proofs.marked.Goals as goal
use Rattle.staircase.proofs.marked.Goals.{then-trial-lt-PLACES, else-trial-lt-PLACES}

pub loop-trial-init : goal.loop-trial-init
loop-trial-init c = marks_none c.args.lapses.now

pub loop-trial-preserved : goal.loop-trial-preserved
loop-trial-preserved c =
    let at = c.loop-trial in
    let lapses = c.args.lapses.now in
    elim c.if-trial-lt-PLACES.branch [
      | then-trial-lt-PLACES w ↦
          w.marks-is ∙ ap (λ ms. set ms (get_or lapses at.trial-index 0) true) at.invariant ∙ marks_more lapses at.trial-index (omega arith)
      | else-trial-lt-PLACES w ↦ w.marks-is ∙ at.invariant ∙ marks_past lapses at.trial-index (omega arith) (omega arith)
    ]

pub returns : goal.returns
returns c =
    c.loop-trial.invariant ∙ ap (λ ls. table 1000 (is_lapse ls)) (take_all c.loop-trial.trial-index c.args.lapses.now (omega arith))
