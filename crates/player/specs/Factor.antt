-- docs/REFERENCE.md, 'Refusals': the factors that a block may have. Definitions only.
use Rattle.std.specs.Prelude.{Bool, false, ◌&&◌, pos, negsuc, Float}
use Rattle.std.specs.Float.{fin}
use Rattle.std.specs.Float.Ieee.{le}

-- from 2 ^ -64 to 2 ^ 64; a NaN is at most nothing
abbrev pub is_factor : Float → Bool
is_factor factor = le (fin false 1 (negsuc 63)) factor && le factor (fin false 1 (pos 64))
