-- docs/REFERENCE.md, 'Rounding': the last digits of a number are dropped, and 0 or 1, the raise, is added to what is kept.
use Rattle.std.specs.Prelude.{◌≡◌, ℕ, zero, suc, ◌+◌, ◌*◌, ◌/◌, ◌%◌, ◌^◌, Bool, true, false, cond, not, ◌&&◌, ◌||◌, ◌⊎◌, ◌==◌}
use Rattle.std.specs.Float.Ieee.Nearest.{closest}
use Rattle.rounding.specs.Laws.{Within}

-- 1 exactly where the guard bit is set and the sticky or the last bit is too, and 0 otherwise
unfoldable pub raise : Bool → Bool → Bool → ℕ
raise guard sticky last = cond (guard && (sticky || last)) 1 0

-- ---- n without its last e digits: what is kept, and whether the last bit of it is set
abbrev pub kept : ℕ → ℕ → ℕ
kept n e = n / 2 ^ e

abbrev pub last : ℕ → ℕ → Bool
last n e = kept n e % 2 == 1

-- whether the highest of the dropped digits is set: the guard bit
unfoldable pub guard : ℕ → ℕ → Bool
guard n zero = false
guard n (suc e) = n / 2 ^ e % 2 == 1

-- whether a digit below the guard is set: the sticky bit
unfoldable pub sticky : ℕ → ℕ → Bool
sticky n zero = false
sticky n (suc e) = not (n % 2 ^ e == 0)

-- what is kept, and the raise
unfoldable pub raised : ℕ → ℕ → ℕ
raised n e = kept n e + raise (guard n e) (sticky n e) (last n e)

-- ---- the claims
pub record Raises : Type 0 where
  -- the raise is 1 where the guard bit is set and the sticky or the last bit is too, only there, and 0 elsewhere
  pub where_set : (g s l : Bool) → g ≡ true → (s ≡ true) ⊎ (l ≡ true) → raise g s l ≡ 1
  pub only_there : (g s l : Bool) → raise g s l ≡ 1 → (g ≡ true) × ((s ≡ true) ⊎ (l ≡ true))
  pub elsewhere : (g s l : Bool) → (raise g s l ≡ 0) ⊎ (raise g s l ≡ 1)
  -- with it n / 2 ^ e is rounded to the nearest whole number, a tie to the even one: as `round` of `lib.Ieee` does it,
  pub rounds : (n e : ℕ) → raised n e ≡ closest n (2 ^ e)
  -- and in plain numbers: n / 2 ^ e is at most a half away, and where it is a half away the number is even
  pub nearest : (n e : ℕ) → Within (2 ^ e) (2 * (raised n e * 2 ^ e)) (2 * n)
  pub even : (n e : ℕ) → (2 * (raised n e * 2 ^ e) ≡ 2 * n + 2 ^ e) ⊎ (2 * (raised n e * 2 ^ e) + 2 ^ e ≡ 2 * n) → raised n e % 2 ≡ 0
  -- 9/4, 10/4, 11/4 and 14/4: below a half, the tie between 2 and 3, above a half, the tie between 3 and 4
  pub quarters : (raised 9 2 ≡ 2) × (raised 10 2 ≡ 2) × (raised 11 2 ≡ 3) × (raised 14 2 ≡ 4)
