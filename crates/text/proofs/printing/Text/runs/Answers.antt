-- By hand: `search` gave up at one of its limits.
use Rattle.std.proofs.Common.{rules, arith, eqb, length-append}
use Rattle.std.proofs.lemmas.List.Sorted.{answers_always}
use Rattle.text.proofs.Texts.{goes_on}
use Rattle.text.proofs.Runs.{runs_turn}
use Rattle.text.proofs.printing.Text.runs.Goals as goal

pub loop-run-preserved : goal.loop-run-preserved
loop-run-preserved c =
    let s = c.in-Some.ensures.steps in (
      goes_on c.args.self.now c.loop-run.self c.run.new.self _ _ _ _ c.loop-run.invariant.0 (runs_turn _ _ _ _ _ s.0 s.1 (s.2 eqb (answers_always _ _ _ (λ f a r g k. search rules))).1) c.run.ensures,
      grind (arith, length-append),
    )
