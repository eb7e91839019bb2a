-- By hand: `search` gave up at one of its limits.
use Rattle.std.proofs.Common.{sym, ◌∙◌}
use borrow.Author.Tests.{ne_eqb}
use Rattle.clip.specs.Reading.{offsets_match}
use Rattle.clip.proofs.Each.{each_fails}
use Rattle.clip.proofs.reading.offsets_match.Goals as goal

pub returns-then-u32_at-fields : goal.returns-then-u32_at-fields
unfolding offsets_match
returns-then-u32_at-fields c =
    rw (← c.onset_bytes-fields.ensures, ← c.from-channels.ensures)
    (sym (each_fails _ _ _ c.loop-c-test.true (ne_eqb _ _ (λ e. c.if-u32_at-fields.true (c.u32_at.ensures ∙ e)))))
