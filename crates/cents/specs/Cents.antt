-- docs/REFERENCE.md, 'Detune in cents': the block call that takes whole cents in place of the factor. Definitions only.
-- It is the block call with the factor of the cents, and its checks are the block's with 16 in its place (`checks`).
use Rattle.std.specs.Prelude.{List, ℕ, ℤ, length, Float, Result}
use Rattle.buffer.specs.Answers.{answer_of, stored, after_checks}
use Rattle.player.specs.declared.BlockReport.{BlockReport}
use Rattle.detune.specs.Detune.{bad_cents, factor_of}
use Rattle.buffer.specs.declared.refusals.Refusal.{Refusal}
use Rattle.player.specs.Block.{checks, plan, report_of, written}
use Rattle.player.specs.declared.Player.{Player}

-- its checks
unfoldable pub checked_cents : ℕ → Player → ℕ → ℕ → Float → Float → ℤ → Result Unit Refusal
checked_cents n p outLength samplesLength time rate cents = checks n p outLength samplesLength time (bad_cents cents) rate (factor_of cents)

-- its answer
unfoldable pub rendered_cents : ℕ → Player → ℕ → ℕ → Float → Float → ℤ → Result BlockReport Refusal
rendered_cents n p outLength samplesLength time rate cents =
    after_checks (checked_cents n p outLength samplesLength time rate cents) (report_of (plan n p time rate (factor_of cents)))

-- what the output then holds
unfoldable pub output_cents : ℕ → Player → List ℕ → List ℕ → Float → Float → ℤ → List ℕ
output_cents n p out samples time rate cents =
    let q = plan n p time rate (factor_of cents) in
    stored (answer_of (checked_cents n p (length out) (length samples) time rate cents))
    (written n q.sample p.shape.frames samples out q.channels) out
