-- The factor of accepted cents is one that a block may have (docs/REFERENCE.md, 'Detune in cents'). Assumes nothing.
use mathlib.Core.Path.{◌≡◌, refl}
use mathlib.Core.Bool.{true, false}
use lib.IntN.{ℤ, pos, negsuc}
use lib.Ieee.{fin, le}
use lib.Ieee.Bits.{is_true}
use Rattle.detune.specs.Detune.{bad_cents, factor_of}
use Rattle.detune.proofs.Range.{not_slow, not_fast}
use Rattle.player.specs.Factor.{is_factor}

pub allowed : (cents : ℤ) → bad_cents cents ≡ false → is_factor (factor_of cents) ≡ true
allowed cents good =
    rw (
      is_true (le (fin false 1 (negsuc 63)) (factor_of cents)) (not_slow cents good),
      is_true (le (factor_of cents) (fin false 1 (pos 64))) (not_fast cents good),
    ) refl
