-- Cents below, above and inside −12,000 to 12,000, as the code's tests on an i32 tell them. Assumes nothing.
use mathlib.Core.Path.{◌≡◌, ap, subst⁻¹}
use mathlib.Core.Bool.{true, false}
use Prim.Native.Nat.{suc, ◌≤◌}
use native.Mathlib.Nat.{add_comm}
use native.Mathlib.Omega.{arith}
use borrow.Author.Tests.{ltb-true, ltb-false, le-leb, lt-leb, le-ltb}
use lib.Dec.{T}
use lib.IntN.{ℤ, pos, negsuc, ◌+ℤ◌}
use lib.Signed.{lt_z}
use Rattle.detune.specs.Counted.{from_lowest}
use Rattle.detune.specs.Detune.{bad_cents}

differ : false ≡ true → ⊥
differ h = subst⁻¹ T h tt

pub low : (z : ℤ) → lt_z z (negsuc 11999) ≡ true → bad_cents z ≡ true
unfolding bad_cents
low (pos n) h = absurd (differ h)
low (negsuc n) h = le-leb 12000 n (let t = ltb-true 11999 n h in omega (arith, t))

pub high : (z : ℤ) → lt_z (pos 12000) z ≡ true → bad_cents z ≡ true
unfolding bad_cents
high (pos n) h = h
high (negsuc n) h = absurd (differ h)

pub inside : (z : ℤ) → lt_z z (negsuc 11999) ≡ false → lt_z (pos 12000) z ≡ false
    → (bad_cents z ≡ false) × (z +ℤ pos 12000 ≡ pos (from_lowest z)) × (from_lowest z ≤ 24000)
unfolding bad_cents
inside (pos n) l h =
    let t : n ≤ 12000 = ltb-false 12000 n h in
    (h, ap pos (add_comm n 12000), omega (arith, t))
inside (negsuc n) l h =
    let t : n ≤ 11999 = ltb-false 11999 n l in
    (lt-leb 12000 n (omega (arith, t)), rw (le-ltb 12000 (suc n) (omega (arith, t))) (ap pos (omega (arith, t))), omega (arith, t))
