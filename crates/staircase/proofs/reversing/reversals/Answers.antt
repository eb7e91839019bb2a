-- `staircase::reversing::reversals`: what was found and what is ahead, level after level.
use Rattle.std.proofs.Common.{◌≡◌, ◌∙◌, sym, ap, drop, get_or, arith, rules}
use Rattle.std.proofs.Math.ListN.{drop_of_length-le}
use Rattle.staircase.proofs.Turning.{ahead, turned, loop_none, loop_some, loop_begins, loop_ends, turned_yes, turned_no}
use Rattle.staircase.proofs.reversing.reversals.Goals as goal
use Rattle.staircase.proofs.reversing.reversals.Goals.{in-Some+then-eq, in-Some+else-eq, in_default}

pub loop-next-init : goal.loop-next-init
loop-next-init c =
    let levels = c.args.levels.now in
    let first : c.unwrap_or-level.result ≡ get_or levels 0 0 = search rules in
    (omega arith, rw first (omega (arith, loop_begins levels)))

pub loop-next-preserved : goal.loop-next-preserved
loop-next-preserved c =
    let at = c.loop-next in
    let levels = c.args.levels.now in
    let before = at.invariant.1 in
    elim c.match-direction.branch [
      | in-Some+then-eq w ↦
          let up = w.in-Some.is_up in
          let moved = loop_some at.last at.level levels at.next-index (omega arith) up w.in-Some.ensures in
          let one : turned at.last up ≡ 1 = turned_yes at.last up (sym w.eq.ensures ∙ w.if-eq.true) in
          (omega arith, rw (w.found-is, w.last-is, w.level-is) (omega (arith, moved, one, before)))
      | in-Some+else-eq w ↦
          let up = w.in-Some.is_up in
          let moved = loop_some at.last at.level levels at.next-index (omega arith) up w.in-Some.ensures in
          let none : turned at.last up ≡ 0 = turned_no at.last up (sym w.eq.ensures ∙ w.if-eq.false) in
          (omega arith, rw (w.found-is, w.last-is, w.level-is) (omega (arith, moved, none, before)))
      | in_default w ↦
          let stays = loop_none at.last at.level levels at.next-index (omega arith) (sym w.in_default.is ∙ c.direction.ensures) in
          (omega arith, rw (w.found-is, w.last-is, w.level-is) (omega (arith, stays, before)))
    ]

pub returns : goal.returns
returns c =
    let at = c.loop-next in
    let end : ahead at.last at.level (drop at.next-index c.args.levels.now) ≡ 0 =
    ap (ahead at.last at.level) (drop_of_length-le c.args.levels.now {i = at.next-index} (omega arith)) ∙ loop_ends at.last at.level in
    omega (arith, end, at.invariant.1)
