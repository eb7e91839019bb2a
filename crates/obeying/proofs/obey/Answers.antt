-- `obeying::obey` meets its contract: where there is room, what is written in front is written.
-- By hand: `search` gave up at one of its limits.
use Rattle.std.proofs.Common.{ap, ◌∙◌, ◌++◌, List, ℕ, Some, drop}
use Rattle.std.proofs.lemmas.Bool.{le-leb}
use Rattle.std.proofs.lemmas.List.Edits.{sets}
use Rattle.text.specs.Lines.{block_room}
use Rattle.obeying.specs.Obeying.{obeyed, answered, words_after, out_after}
use Rattle.obeying.proofs.Front.{stored_in_front}
use Rattle.obeying.proofs.Lengths.{obeyed_fits}
use Rattle.obeying.proofs.obey.Goals as goal

pub returns-clause-fact : goal.returns-clause-fact
unfolding answered words_after out_after
returns-clause-fact c =
    let room = c.in_ok-out.ensures.cases.enough in
    let front = c.in_ok-out.ensures.cases.same in
    let out = c.args.out.now in
    let text = (obeyed c.args.samples.now c.args.session c.args.words.now c.args.line.now).reply.text in
    let fits = obeyed_fits c.args.samples.now c.args.session c.args.words.now c.args.line.now in
    simp (le-leb block_room _ room) (
      ap Some c.obey_line.ensures.0,
      c.obey_line.ensures.1,
      ap (λ (l : List ℕ). l ++ drop block_room out) (c.obey_line.ensures.2 ∙ ap (λ (l : List ℕ). sets l 0 text) front) ∙ stored_in_front block_room out text fits room,
    )
