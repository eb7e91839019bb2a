-- By hand: the length of the fresh array, without which `returns` is not proved, and the numbers as they were handed in.
use Rattle.std.proofs.Common.{◌≡◌, ◌+◌, ◌*◌, arith}
use Rattle.std.proofs.lemmas.List.{length-replicate}
use Rattle.lists.specs.Table.{table, filled_end}
use Rattle.clip.proofs.writing.starts.Goals as goal

pub returns : goal.returns
returns c =
    let made = rw length-replicate at (filled_end _ _ _ _ c.loop-c.invariant (simp length-replicate (omega arith))) in
    let own : c.loop-c.start-items ≡ table 32 (λ k. 12 + c.onset_bytes.result + 4 * c.from.result + 4 * c.from-size.result * k) = made in
    rw (c.onset_bytes.ensures, c.from.ensures, c.from-size.ensures) at own
