-- The factor is exact. Assumes nothing.
use mathlib.Core.Path.{◌≡◌, refl, ap}
use mathlib.Core.Bool.{false}
use Prim.Native.Nat.{suc, ◌+◌, ◌-◌, ◌*◌, ◌/◌, ◌%◌, ◌^◌}
use native.Mathlib.Omega.{arith}
use lib.Dec.{T}
use lib.IntN.{ℤ, pos, negsuc, ◌+ℤ◌, ◌*ℤ◌}
use borrow.Author.Tests.{lt-ltb}
use lib.Ieee.{round, fin, fits, up, down, binary64}
use lib.Ieee.Exact.{HasValue}
use lib.Ieee.Fits.{round-fits}
use Rattle.detune.specs.Table.{entries}
use Rattle.detune.specs.Detune.{entry, octaves, above, bad_cents, factor_of}
use Rattle.detune.proofs.Quotient.{under, exact}
use Rattle.detune.proofs.Rule.{entry_below}
use Rattle.detune.specs.Statement.{Exact}

parts : (z : ℤ) → z ≡ pos 1200 *ℤ octaves z +ℤ pos (above z)
unfolding octaves above
parts (pos n) = ap pos (omega arith)
parts (negsuc n) =
    let q = n / 1200 in
    let w : 1200 * suc q ≡ suc (1199 + 1200 * q) = omega arith in
    rw (w, lt-ltb (1199 - n % 1200) (suc (1199 + 1200 * q)) (omega arith)) (ap negsuc (omega arith))

value : (z : ℤ) → bad_cents z ≡ false → HasValue (factor_of z) false (entry (above z) * up (octaves z)) (2 ^ 30 * down (octaves z))
unfolding factor_of
value z good = exact z (entry (above z)) good (entry_below (above z) (under z))

held : (z : ℤ) → T (fits binary64 (factor_of z))
unfolding factor_of
held z = round-fits binary64 false (entry (above z) * up (octaves z)) (2 ^ 30 * down (octaves z))

none : factor_of (pos 0) ≡ fin false 1 (pos 0)
unfolding factor_of octaves above entries round
none = refl

octave_down : factor_of (negsuc 1199) ≡ fin false 1 (negsuc 0)
unfolding factor_of octaves above entries round
octave_down = refl

octave_up : factor_of (pos 1200) ≡ fin false 1 (pos 1)
unfolding factor_of octaves above entries round
octave_up = refl

cent_down : HasValue (factor_of (negsuc 0)) false (entry 1199) (2 ^ 31)
unfolding octaves above bad_cents entries
cent_down = value (negsuc 0) refl

pub is_exact : Exact
is_exact = record {
  parts = parts;
  rest = under;
  value = value;
  held = held;
  none = none;
  octave_down = octave_down;
  octave_up = octave_up;
  cent_down = cent_down;
}
