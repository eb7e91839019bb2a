-- By hand: any refusal's text fits the lent bytes.
use Rattle.std.proofs.Common.{rules, subst, sym, ap, ◌∙◌, OnOk, OnErr, replicate, length-take-le}
use Rattle.std.specs.Io.KnownBytes.{Appends}
use Rattle.session.specs.Running.{AppendsFront}
use Rattle.text.specs.Lines.{refusal_text}
use Rattle.text.proofs.Lengths.{length_refusal}
use Rattle.loading.proofs.Telling.{text_stored, text_there}
use Rattle.loading.proofs.playing.refuse.Goals as goal

pub slice_bounds-out-end : goal.slice_bounds-out-end
slice_bounds-out-end g c =
    let t = text_stored (refusal_text c.number.result) (replicate 23 0) c.refusal_text.new.out c.in-Some.printed c.in-Some.ensures.0 c.in-Some.ensures.1 (length_refusal c.number.result) in
    search (rules, t.0)

pub slice_bounds-write_front-end : goal.slice_bounds-write_front-end
slice_bounds-write_front-end g c =
    let t = text_stored (refusal_text c.number.result) (replicate 23 0) c.refusal_text.new.out c.in-Some.printed c.in-Some.ensures.0 c.in-Some.ensures.1 (length_refusal c.number.result) in
    sym (length-take-le c.in-Some.printed c.refusal_text.new.out (search (rules, t.0)))

pub returns-in-Some-clause-ok : goal.returns-in-Some-clause-ok
returns-in-Some-clause-ok g c =
    let t = text_stored (refusal_text c.number.result) (replicate 23 0) c.refusal_text.new.out c.in-Some.printed c.in-Some.ensures.0 c.in-Some.ensures.1 (length_refusal c.number.result) in
    subst (λ l. OnOk c.write_front.result (Appends (g.W.Write.contents c.args.output.now) (g.W.Write.contents c.write_front.new.output) l)) (t.1 ∙ ap refusal_text c.number.ensures) c.write_front.ensures.ok

pub returns-in-Some-clause-err : goal.returns-in-Some-clause-err
returns-in-Some-clause-err g c =
    let t = text_stored (refusal_text c.number.result) (replicate 23 0) c.refusal_text.new.out c.in-Some.printed c.in-Some.ensures.0 c.in-Some.ensures.1 (length_refusal c.number.result) in
    subst (λ l. OnErr c.write_front.result (AppendsFront (g.W.Write.contents c.args.output.now) (g.W.Write.contents c.write_front.new.output) l)) (t.1 ∙ ap refusal_text c.number.ensures) c.write_front.ensures.err

pub returns-in-None-clause-ok : goal.returns-in-None-clause-ok
returns-in-None-clause-ok g c = text_there _ (refusal_text c.number.result) c.in-None.ensures.0
