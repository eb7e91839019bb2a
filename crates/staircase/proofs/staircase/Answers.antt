-- `staircase::staircase`: a trial stores its level and its reply, and the trials' levels have the reversals.
use Rattle.std.proofs.Common.{◌≡◌, ◌∙◌, ◌≤◌, ℕ, false, sym, ap, get_or, add-one, take, arith}
use Rattle.std.proofs.lemmas.List.{length-replicate}
use Rattle.lists.specs.Table.{table, get_or_table, filled, filled_more}
use Rattle.staircase.specs.Reversals.{reversals}
use Rattle.staircase.specs.Staircase.{blank, is_lapse, reply_to, after_reply, stair_at, level, reply, staircase}
use Rattle.staircase.proofs.Tracks.{take_filled}
use Rattle.staircase.proofs.staircase.Goals as goal

pub loop-k-preserved : goal.loop-k-preserved
unfolding stair_at
loop-k-preserved c =
    let at = c.loop-k in
    let lapses = c.args.lapses.now in
    let stair = stair_at c.args.start c.args.threshold c.args.step lapses in
    let mark : get_or c.marked-marks.result at.k false ≡ is_lapse lapses at.k =
    ap (λ ms. get_or ms at.k false) c.marked-marks.ensures ∙ get_or_table 1000 (is_lapse lapses) at.k false (omega (arith, c.in_ok-check.ensures.small.3)) in
    let here : c.loop-k.stair.level ≡ (stair at.k).level = ap (λ s. s.level) at.invariant.0 in
    let replied : c.reply_to-reply.result ≡ reply c.args.start c.args.threshold c.args.step lapses at.k =
    c.reply_to-reply.ensures ∙ ap (reply_to c.args.threshold at.stair.level) mark
    ∙ ap (λ l. reply_to c.args.threshold l (is_lapse lapses at.k)) here in (
      c.after_reply-stair.ensures ∙ ap (λ s. after_reply c.args.step s c.reply_to-reply.result) at.invariant.0
          ∙ ap (after_reply c.args.step (stair at.k)) replied ∙ ap stair (sym (add-one at.k)),
      filled_more _ _ _ _ _ at.invariant.1 here,
      filled_more _ _ _ _ _ at.invariant.2 replied,
    )

pub returns : goal.returns
unfolding staircase
returns c =
    let at = c.loop-k in
    let trials = c.args.trials in
    let levels = level c.args.start c.args.threshold c.args.step c.args.lapses.now in
    let replies = reply c.args.start c.args.threshold c.args.step c.args.lapses.now in
    let all : at.k ≡ trials = omega arith in
    let few : trials ≤ 1000 = c.in_ok-check.ensures.small.3 in
    let filled_levels : at.track.levels ≡ filled trials levels blank.levels = at.invariant.1 ∙ ap (λ n. filled n levels blank.levels) all in
    let filled_replies : at.track.heard ≡ filled trials replies blank.heard =
    at.invariant.2 ∙ ap (λ n. filled n replies blank.heard) all in
    let turned : c.reversals.result ≡ reversals (table trials levels) =
    c.reversals.ensures ∙ ap (λ ls. reversals (take trials ls)) filled_levels
    ∙ ap reversals (take_filled trials trials levels blank.levels (omega arith) (rw (length-replicate {A = ℕ} 1000 0) few)) in
    let told = c.in_ok-check.ensures.answer in
    rw (← told) cc
