-- docs/REFERENCE.md, 'Preview': what the block call would give on a copy of the player. Definitions only.
-- What it writes to the second output is the block's own `output`.
use Rattle.std.specs.Prelude.{ℕ, ℤ, Float, Result, Ok, Err}
use Rattle.cents.specs.Cents.{rendered_cents}
use Rattle.player.specs.Block.{rendered}
use Rattle.player.specs.declared.Player.{Player}
use Rattle.player.specs.declared.BlockReport.{BlockReport}
use Rattle.buffer.specs.declared.refusals.Refusal.{Refusal}
use Rattle.preview.specs.declared.Coming.{Coming}

-- of what a block answers, all but the player
abbrev pub coming_of : BlockReport → Coming
coming_of r = record { keep_alive = r.keep_alive; ended = r.ended; channels = r.channels; position = r.position }

-- a preview shows the block's answer without the player, or the block's own refusal
abbrev pub shown : Result BlockReport Refusal → Result Coming Refusal
shown (Ok r) = Ok (coming_of r)
shown (Err refused) = Err refused

-- of the block call
abbrev pub previewed : ℕ → Player → ℕ → ℕ → Float → Float → Float → Result Coming Refusal
previewed n p outLength samplesLength time rate factor = shown (rendered n p outLength samplesLength time rate factor)

-- of the block in cents the same
abbrev pub previewed_cents : ℕ → Player → ℕ → ℕ → Float → Float → ℤ → Result Coming Refusal
previewed_cents n p outLength samplesLength time rate cents = shown (rendered_cents n p outLength samplesLength time rate cents)
