-- By hand, where the loop ends: `search` gave up at one of its limits.
use Rattle.std.proofs.Common.{refl, arith}
use Rattle.session.proofs.Bytes.{no_room, reached_length, reached_end, reached_all}
use Rattle.session.proofs.Chunks.{fed_moves}
use Rattle.session.proofs.feeding.feed.Goals as goal

pub returns-then-out-printed-lt-BLOCK_ROOM : goal.returns-then-out-printed-lt-BLOCK_ROOM
returns-then-out-printed-lt-BLOCK_ROOM c =
    let at = c.loop-taken.invariant.4 in
    let whole = reached_length _ _ _ _ _ _ _ _ _ _ at in
    let full = no_room c.loop-taken.taken _ c.loop-taken.printed _ (omega (arith, whole)) c.if-out-printed-lt-BLOCK_ROOM.true in
    let e = reached_end _ _ _ _ _ _ _ _ _ _ _ at refl full in
    record { fact = e; moves = fed_moves _ _ _ _ _ e.0 }

pub returns-clause-fact : goal.returns-clause-fact
returns-clause-fact c = reached_all _ _ _ _ _ _ _ _ _ _ c.loop-taken.invariant.4 (omega arith)
