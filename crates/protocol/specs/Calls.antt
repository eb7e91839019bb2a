-- The calls that wait for words (oracle/PROTOCOL.md, 'Calls with words'). Definitions only.
use Rattle.std.specs.Prelude.{ℕ, ◌+◌}
use Rattle.protocol.specs.Sizes.{IsWithinLimits, size_of}
use Rattle.protocol.specs.declared.calls.Call.{Call}
use Rattle.protocol.specs.declared.calls.Call.TheVariants.{Clip, CopyFrom, CopyTo, Extend, Split, Convert}

-- 'for J either one'
abbrev pub HasShapesWithinLimits : Call → Type 0
HasShapesWithinLimits (Clip s) = IsWithinLimits s
HasShapesWithinLimits (CopyFrom c) = IsWithinLimits c.shape
HasShapesWithinLimits (CopyTo c) = IsWithinLimits c.shape
HasShapesWithinLimits (Extend s t) = IsWithinLimits s × IsWithinLimits t
HasShapesWithinLimits (Split s point) = IsWithinLimits s
HasShapesWithinLimits (Convert s rate t) = IsWithinLimits s

-- the column 'words'
abbrev pub words_of : Call → ℕ
words_of (Clip s) = size_of s
words_of (CopyFrom c) = size_of c.shape
words_of (CopyTo c) = size_of c.shape + c.len
words_of (Extend s t) = size_of s + size_of t
words_of (Split s point) = size_of s
words_of (Convert s rate t) = size_of s
