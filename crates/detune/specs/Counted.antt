-- Cents counted from the lowest that is accepted, as the code counts them: −12,000 is 0 and 12,000 is 24,000
-- (docs/REFERENCE.md, 'Detune in cents').
use Rattle.std.specs.Prelude.{cond, ℕ, ◌+◌, ◌-◌, ℤ, pos, negsuc, Option, Some, None}
use Rattle.detune.specs.Detune.{bad_cents}

abbrev pub from_lowest : ℤ → ℕ
from_lowest (pos n) = 12000 + n
from_lowest (negsuc n) = 11999 - n

-- none for cents that are refused
unfoldable pub counted : ℤ → Option ℕ
counted cents = cond (bad_cents cents) None (Some (from_lowest cents))
