-- A number shifted right, with one digit more that says whether anything was lost (docs/REFERENCE.md, 'Rounding'). Definitions only.
use Rattle.std.specs.Prelude.{◌≡◌, ℕ, ◌+◌, ◌-◌, ◌*◌, ◌/◌, ◌%◌, ◌^◌, ◌<◌, ◌≤◌, ◌⊎◌}
use Rattle.rounding.specs.Sticky.{some}

-- twice n / t, cut to a whole number, and one more where a remainder is cut off
unfoldable pub jam : ℕ → ℕ → ℕ
jam n t = n / t * 2 + some (n % t)

-- digits v at the place e, twice as many at the place j: they go down, or they fit 128 digits
abbrev pub Room : ℕ → ℕ → ℕ → Type 0
Room v e j = (e < j) ⊎ ((e - j + 1 < 128) × (v * 2 ^ (e - j + 1) < 2 ^ 128))

-- the place r to which digits at the places x and y are brought: one of the two is at or above it, and has room below 2 ^ 126
abbrev pub Window : ℕ → ℕ → ℕ → Type 0
Window x y r = ((y ≤ x + 53) × (r + 18 ≡ x)) ⊎ ((x + 53 < y) × (r + 71 ≡ y))
