-- By hand: what was taken so far, and then the front of the rest.
use Rattle.std.proofs.Common.{◌≡◌, ℕ, ◌-◌, List, [], ◌++◌, rules, refl, length, take, drop, sym, ap, ◌∙◌, subst, append_assoc, take-append-drop}
use Rattle.std.proofs.lemmas.List.{take_rest}
use Rattle.std.specs.Io.KnownBytes.{Appends}
use Rattle.session.specs.Feeding.{run_of, after, spoken}
use Rattle.session.specs.Running.{AppendsFront}
use Rattle.session.proofs.KnownBytes.{appends_none}
use Rattle.session.proofs.Written.{call_written, ran_more, cut_of, on_err}
use Rattle.session.proofs.running.feed_all.Goals as goal

moves_front : (all done rest : List ℕ) (n : ℕ) → all ≡ done ++ rest → all ≡ (done ++ take n rest) ++ take (length rest - n) (drop n rest)
moves_front all done rest n e =
    e ∙ ap (λ l. done ++ l) (sym (take-append-drop n rest)) ∙ sym (append_assoc done (take n rest) (drop n rest)) ∙ ap (λ l. (done ++ take n rest) ++ l) (sym (take_rest rest n))

pub loop-rest-init : goal.loop-rest-init
unfolding after spoken
loop-rest-init g c = (c.requires, ([], refl, record { grown = appends_none _; carried = refl }))

pub returns-in_err-write_front-clause-err : goal.returns-in_err-write_front-clause-err
returns-in_err-write_front-clause-err g c =
    let (room, (done, split, ran)) = c.loop-rest.invariant in
    let fact = c.feed-fed.ensures.fact in
    let step = call_written c.args.samples.now (run_of c.loop-rest.state c.loop-rest.line c.loop-rest.words) c.loop-rest.rest.now c.feed-fed.new.line c.feed-fed.new.words c.loop-rest.out c.feed-fed.new.out c.feed-fed.result fact.0 fact.1 fact.2 fact.3 c.feed-fed.ensures.moves.printed in
    let cut = subst (AppendsFront (g.W.Write.contents c.loop-rest.output) (g.W.Write.contents c.write_front.new.output)) step.text c.in_err-write_front.ensures.err in
    on_err _ _ (cut_of c.args.samples.now _ _ c.args.bytes.now done c.loop-rest.rest.now c.feed-fed.result.taken _ _ _ split ran cut)

pub loop-rest-preserved : goal.loop-rest-preserved
loop-rest-preserved g c =
    let (room, (done, split, ran)) = c.loop-rest.invariant in
    let fact = c.feed-fed.ensures.fact in
    let rest = c.loop-rest.rest.now in
    let step = call_written c.args.samples.now (run_of c.loop-rest.state c.loop-rest.line c.loop-rest.words) rest c.feed-fed.new.line c.feed-fed.new.words c.loop-rest.out c.feed-fed.new.out c.feed-fed.result fact.0 fact.1 fact.2 fact.3 c.feed-fed.ensures.moves.printed in
    let grown = subst (Appends (g.W.Write.contents c.loop-rest.output) (g.W.Write.contents c.write_front.new.output)) step.text c.in_ok-write_front.ensures.ok in
    (search rules, (done ++ take c.feed-fed.result.taken rest, moves_front _ done rest c.feed-fed.result.taken split, ran_more c.args.samples.now _ _ _ done (take c.feed-fed.result.taken rest) _ _ _ ran grown step.reached))
