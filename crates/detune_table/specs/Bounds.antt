-- 2^(c/1200) × 2^62 between two bounds, each found from the one before it: how the table is found from its rule
-- (docs/REFERENCE.md, 'Detune in cents'). That the bounds hold, and what they decide, is said in Statement.antt.
use Rattle.std.specs.Prelude.{ℕ, zero, suc, ◌+◌, ◌*◌, ◌/◌, ◌^◌}

-- 2^(1/1200) × 2^62 rounded down
abbrev pub LOW : ℕ
LOW = 4614350602216361008

-- at most 2^(c/1200) × 2^62
unfoldable pub lower : ℕ → ℕ
lower zero = 2 ^ 62
lower (suc c) = lower c * LOW / 2 ^ 62

-- at least 2^(c/1200) × 2^62
unfoldable pub upper : ℕ → ℕ
upper zero = 2 ^ 62
upper (suc c) = upper c * (LOW + 1) / 2 ^ 62 + 1

-- the entry that is printed for c
unfoldable pub found : ℕ → ℕ
found c = lower c / 2 ^ 32
