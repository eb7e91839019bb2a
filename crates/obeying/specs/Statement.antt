-- The last number of a block that is counted is late enough (docs/REFERENCE.md, 'trial').
use Rattle.std.specs.Prelude.{◌≡◌, ℕ, ◌≤◌, true, List, length}
use Rattle.buffer.specs.Limits.{valid_rate}
use Rattle.buffer.specs.Refusals.{number}
use Rattle.buffer.specs.declared.refusals.Refusal.TheVariants as refusal
use Rattle.obeying.specs.Obeying.{session_of, refused, most_blocks, next_number, played}
use Rattle.obeying.specs.declared.Session.{Session}

-- `B` lines past the last number that is counted: refused with 13 at every allowed rate
abbrev pub LateBlocks : Type 0
LateBlocks = (samples : List ℕ) (s : Session) (words : List ℕ) → valid_rate s.player.sample_rate ≡ true → length words ≡ 4096
    → most_blocks ≤ s.number
    → played samples s words ≡ refused (session_of s.player (next_number s.number)) (number refusal.Time)
