-- The table obeys its rule, and the factor is exact (docs/REFERENCE.md, 'Detune in cents').
use Rattle.std.specs.Prelude.{◌≡◌, false, List, ℕ, ◌*◌, ◌^◌, ◌<◌, T, ℤ, pos, negsuc, ◌+ℤ◌, ◌*ℤ◌, length, get_or}
use Rattle.std.specs.Float.{binary64, fin}
use Rattle.std.specs.Float.Ieee.{fits, up, down}
use Rattle.std.specs.Float.Ieee.Exact.{HasValue}
use Rattle.detune.specs.Table.{entries}
use Rattle.detune.specs.Detune.{Rule, entry, octaves, above, bad_cents, factor_of}

-- l has 1,200 entries, and each obeys the rule
abbrev pub IsTable : List ℕ → Type 0
IsTable l = (length l ≡ 1200) × ((c : ℕ) → c < 1200 → Rule c (get_or l c 0))

-- every entry obeys the rule, which has one solution for each c, so that no other table obeys it
pub record TheTable : Type 0 where
  pub obeys : IsTable entries
  pub single : (c f g : ℕ) → Rule c f → Rule c g → f ≡ g
  pub only : (l : List ℕ) → IsTable l → l ≡ entries

-- octaves and the cents above them are quotient and remainder by 1,200, rounded downwards; the factor of accepted cents is not rounded
pub record Exact : Type 0 where
  pub parts : (cents : ℤ) → cents ≡ pos 1200 *ℤ octaves cents +ℤ pos (above cents)
  pub rest : (cents : ℤ) → above cents < 1200
  pub value : (cents : ℤ) → bad_cents cents ≡ false
      → HasValue (factor_of cents) false (entry (above cents) * up (octaves cents)) (2 ^ 30 * down (octaves cents))
  pub held : (cents : ℤ) → T (fits binary64 (factor_of cents))
  -- 0 cents is exactly 1, −1,200 one half, −1 half of entry 1,199 over 2^30, 1,200 is 2
  pub none : factor_of (pos 0) ≡ fin false 1 (pos 0)
  pub octave_down : factor_of (negsuc 1199) ≡ fin false 1 (negsuc 0)
  pub octave_up : factor_of (pos 1200) ≡ fin false 1 (pos 1)
  pub cent_down : HasValue (factor_of (negsuc 0)) false (entry 1199) (2 ^ 31)
