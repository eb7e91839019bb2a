-- `cents::process_cents` meets its contract.
-- By hand: what `process_by` promises is asked for the cents, or for their refusal.
use Rattle.std.proofs.Common.{rules}
use Rattle.std.specs.Prelude.{◌≡◌, not, IfOk}
use Rattle.buffer.specs.Answers.{check, passed}
use Rattle.buffer.specs.declared.refusals.Refusal.TheVariants as rows
use Rattle.detune.specs.Detune.{bad_cents}
use Rattle.cents.proofs.Answered.{by_cents}
use Rattle.cents.proofs.process_cents.Goals as goal

pub returns : goal.returns
returns c =
    let a = c.args in
    let found : passed c.new.result ≡ check (not (bad_cents a.cents)) rows.Cents = search rules in
    let made : IfOk c.new.result (λ it. it.whole ≡ a.cents) = search rules in
    by_cents (λ it. it.whole) a.p c.new.result c.process_by.result a.out.now c.process_by.new.out a.samples.now a.time a.rate a.cents
    c.process_by.ensures.accepted c.process_by.ensures.refused found made
