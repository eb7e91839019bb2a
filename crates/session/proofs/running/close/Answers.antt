-- By hand: what was printed is the front of the lent output.
use Rattle.std.proofs.Common.{subst, OnOk, OnErr}
use Rattle.std.specs.Io.KnownBytes.{Appends}
use Rattle.session.specs.Running.{AppendsFront}
use Rattle.session.proofs.Written.{last_written, never_none}
use Rattle.session.proofs.running.close.Goals as goal

pub returns-in-Some-clause-ok : goal.returns-in-Some-clause-ok
returns-in-Some-clause-ok g c =
    let text = last_written _ _ _ _ c.requires c.in-Some.ensures.fact.0 c.in-Some.ensures.fact.2 c.in-Some.ensures.result_in_bounds in
    subst (λ t. OnOk c.write_front.result (Appends (g.W.Write.contents c.args.output.now) (g.W.Write.contents c.write_front.new.output) t)) text c.write_front.ensures.ok

pub returns-in-Some-clause-err : goal.returns-in-Some-clause-err
returns-in-Some-clause-err g c =
    let text = last_written _ _ _ _ c.requires c.in-Some.ensures.fact.0 c.in-Some.ensures.fact.2 c.in-Some.ensures.result_in_bounds in
    subst (λ t. OnErr c.write_front.result (AppendsFront (g.W.Write.contents c.args.output.now) (g.W.Write.contents c.write_front.new.output) t)) text c.write_front.ensures.err

pub returns-in-None-clause-ok : goal.returns-in-None-clause-ok
returns-in-None-clause-ok g c = never_none _ _ _ c.requires c.in-None.ensures.fact.0
