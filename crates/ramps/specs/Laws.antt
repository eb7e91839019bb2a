-- What follows of the factors (docs/REFERENCE.md, 'Ramps'), for every length, stop and number. Definitions only.
use Rattle.std.specs.Prelude.{◌≡◌, false, ℕ, ◌+◌, ◌-◌, ◌≤◌, ◌<◌, min, pos, Option, None, Some}
use Rattle.std.specs.Float.{binary32}
use Rattle.std.specs.Float.Ieee.{of_int}
use Rattle.std.specs.Float.Ieee.Exact.{HasValue}
use Rattle.ramps.specs.Ramps.{longest, numerator, level, ramped, counted}
use Rattle.ramps.specs.declared.Ramp.{Ramp}

pub record RampLaws : Type 0 where
  -- with length 0 no sample is touched, and none before the starting one
  pub none : (r : Ramp) (uncounted i bits : ℕ) → r.length ≡ 0 → ramped r uncounted i bits ≡ bits
  pub before : (r : Ramp) (uncounted i bits : ℕ) → i < uncounted → ramped r uncounted i bits ≡ bits
  -- a block in which nothing starts counts nothing
  pub idle : (n : ℕ) (r : Ramp) → counted n r n ≡ r
  -- the level is the smallest of the length, the number, and how far the stop is; above the stop this is 0
  pub onset : (length j : ℕ) → level length None j ≡ min length j
  pub stop : (length w j : ℕ) → level length (Some w) j ≡ min length (min j (w - j))
  -- a numerator is below the length: no factor is 1 or more
  pub below : (length : ℕ) (stop : Option ℕ) (j k : ℕ) → numerator length stop j ≡ Some k → k < length
  -- the factor is 0 at the starting sample, and from the stop's sample on
  pub first : (length : ℕ) (stop : Option ℕ) → 0 < length → numerator length stop 0 ≡ Some 0
  pub last : (length w j : ℕ) → 0 < length → w ≤ j → numerator length (Some w) j ≡ Some 0
  -- from a sample to the next it goes up or down by 1 part of the length at most
  pub up : (length : ℕ) (stop : Option ℕ) (j : ℕ) → level length stop (j + 1) ≤ level length stop j + 1
  pub down : (length : ℕ) (stop : Option ℕ) (j : ℕ) → level length stop j ≤ level length stop (j + 1) + 1
  -- past the rise, and a length or more before the stop's sample, there is no factor
  pub risen : (length j : ℕ) → length ≤ j → numerator length None j ≡ None
  pub between : (length w j : ℕ) → length ≤ j → j + length ≤ w → numerator length (Some w) j ≡ None
  -- numerator and length are exact in f32
  pub exact : (k : ℕ) → k ≤ longest → HasValue (of_int binary32 (pos k)) false k 1
