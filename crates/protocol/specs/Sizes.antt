-- The words of a buffer (oracle/PROTOCOL.md, 'Calls with words'). Definitions only.
use Rattle.std.specs.Prelude.{ℕ, ◌*◌, ◌≤◌}
use Rattle.buffer.specs.declared.Shape.{Shape}

-- outside the limits is a shape 'with channels not 1..32 or frames over 16,777,216'
abbrev pub IsWithinLimits : Shape → Type 0
IsWithinLimits s = (1 ≤ s.channels) × (s.channels ≤ 32) × (s.frames ≤ 16777216)

abbrev pub size_of : Shape → ℕ
size_of s = s.channels * s.frames
