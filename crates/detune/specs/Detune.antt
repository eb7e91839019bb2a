-- The rule of the table of cents, and the factor of whole cents (docs/REFERENCE.md, 'Detune in cents').
use Rattle.std.specs.Prelude.{Bool, false, cond, ℕ, ◌+◌, ◌-◌, ◌*◌, ◌/◌, ◌%◌, ◌^◌, ◌≤◌, ◌<◌, leb, ltb, ℤ, pos, negsuc, get_or, Float}
use Rattle.std.specs.Float.{binary64}
use Rattle.std.specs.Float.Ieee.{round, up, down}
use Rattle.buffer.specs.declared.refusals.Refusal.TheVariants as refused
use Rattle.detune.specs.Table.{entries}
use Rattle.buffer.specs.declared.refusals.Refusal.{Refusal}
use Rattle.std.specs.Prelude.{Result, Ok, Err}

-- the rule for the entry f of c cents, f being 2^(c/1200) × 2^30 rounded down: both sides to the power of 1,200
abbrev pub Rule : ℕ → ℕ → Type 0
Rule c f = (f ^ 1200 ≤ 2 ^ (c + 36000)) × (2 ^ (c + 36000) < (f + 1) ^ 1200)

-- entry c of the table, for c below 1,200
abbrev pub entry : ℕ → ℕ
entry c = get_or entries c 0

-- the whole octaves, rounded downwards for negative cents too; `negsuc n` is −(n + 1)
unfoldable pub octaves : ℤ → ℤ
octaves (pos n) = pos (n / 1200)
octaves (negsuc n) = negsuc (n / 1200)

-- the cents above the whole octaves, 0 to 1,199
unfoldable pub above : ℤ → ℕ
above (pos n) = n % 1200
above (negsuc n) = 1199 - n % 1200

-- outside −12,000 to 12,000
unfoldable pub bad_cents : ℤ → Bool
bad_cents (pos n) = ltb 12000 n
bad_cents (negsuc n) = leb 12000 n

-- the entry over 2 ^ 30, times 2 to the whole octaves: 2 ^ e is up e / down e. Nothing is rounded (`Exact` in Statement.antt)
unfoldable pub factor_of : ℤ → Float
factor_of cents = round binary64 false (entry (above cents) * up (octaves cents)) (2 ^ 30 * down (octaves cents))

-- the answer: 16 where the cents are refused, else the factor
unfoldable pub factored : ℤ → Result Float Refusal
factored cents = cond (bad_cents cents) (Err refused.Cents) (Ok (factor_of cents))
