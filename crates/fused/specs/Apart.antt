-- Where the f32 nearest to an f64 stays the same for the f64 values around it (docs/REFERENCE.md, 'Rounding'). Definitions only.
use Rattle.std.specs.Prelude.{ℕ, ◌+◌, ◌*◌, ◌^◌, ◌<◌, ◌≤◌}

-- b is the pattern of an f64 in the f32's normal range, and not negative; r is the f32 pattern nearest to it,
-- and to every pattern that is at most 512 from b: no tie of two f32 values is as near.
-- An f32 pattern is the f64's without 29 digits, and without the difference of the two formats' exponents.
pub record Apart (b r : ℕ) : Type 0 where
  pub least : 898 * 2 ^ 52 ≤ b
  pub most : b < 1150 * 2 ^ 52
  pub above : 2 * ((r + 896 * 2 ^ 23) * 2 ^ 29) + 1024 < 2 * b + 2 ^ 29
  pub under : 2 * b + 1024 < 2 * ((r + 896 * 2 ^ 23) * 2 ^ 29) + 2 ^ 29
