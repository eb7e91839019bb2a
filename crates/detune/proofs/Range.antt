-- The factor of accepted cents lies between 2^-64 and 2^64, as a block asks. Assumes nothing.
use mathlib.Core.Path.{◌≡◌, refl, subst}
use mathlib.Core.Bool.{false}
use Prim.Native.Nat.{ℕ, zero, suc, ◌+◌, ◌*◌, ◌/◌, ◌^◌, ◌≤◌, ◌<◌}
use native.Mathlib.Nat.{mul-pos, mul-le-mul, le_of_lt}
use native.Mathlib.Omega.{arith}
use borrow.Author.Tests.{ltb-false, leb-false}
use lib.Dec.{T, lit<, lit≤}
use lib.IntN.{ℤ, pos, negsuc}
use lib.Pow.{pow_pos, pow_mono}
use lib.Ieee.{Float, fin, binary64, round, up, down, le}
use lib.Ieee.Fits.{down_pos}
use lib.Ieee.Order.{round_mono}
use Rattle.detune.specs.Detune.{entry, octaves, above, bad_cents, factor_of}
use Rattle.detune.proofs.Quotient.{under}
use Rattle.detune.proofs.Rule.{obeys, entry_below}

-- an entry is not 0: 1 to any power is 1
some : (c f : ℕ) → 2 ^ c < (f + 1) ^ 1200 → 1 ≤ f
some c zero h = absurd (let t = pow_pos c in omega (arith, t, h))
some c (suc f) h = omega arith

-- ---- at most ten octaves either way
up_few : (z : ℤ) → bad_cents z ≡ false → up (octaves z) ≤ 2 ^ 10
unfolding bad_cents octaves
up_few (pos n) good = let t = ltb-false 12000 n good in pow_mono {i = n / 1200} {j = 10} (omega (arith, t))
up_few (negsuc n) good = lit≤ tt

down_few : (z : ℤ) → bad_cents z ≡ false → down (octaves z) ≤ 2 ^ 10
unfolding bad_cents octaves
down_few (pos n) good = lit≤ tt
down_few (negsuc n) good = let t = leb-false 12000 n good in pow_mono {i = suc (n / 1200)} {j = 10} (omega (arith, t))

up_pos : (z : ℤ) → 0 < up z
up_pos (pos n) = pow_pos n
up_pos (negsuc n) = lit< tt

-- ---- the two bounds
slowest : round binary64 false 1 (2 ^ 64) ≡ fin false 1 (negsuc 63)
unfolding round
slowest = refl

fastest : round binary64 false (2 ^ 64) 1 ≡ fin false 1 (pos 64)
unfolding round
fastest = refl

module _ (z : ℤ) (good : bad_cents z ≡ false) where
  abbrev e : ℕ
  e = entry (above z)

  abbrev u : ℕ
  u = up (octaves z)

  abbrev d : ℕ
  d = down (octaves z)

  pub not_slow : T (le (fin false 1 (negsuc 63)) (factor_of z))
  unfolding factor_of
  not_slow =
      let t : 0 < e * u = mul-pos (some (above z + 36000) e (obeys (above z) (under z)).1) (up_pos (octaves z)) in
      let h = down_few z good in
      subst (λ (x : Float). T (le x (round binary64 false (e * u) (2 ^ 30 * d)))) slowest
      (round_mono binary64 1 (2 ^ 64) (e * u) (2 ^ 30 * d) (pow_pos 64) (mul-pos (pow_pos 30) (down_pos (octaves z))) (omega (arith, t, h)))

  pub not_fast : T (le (factor_of z) (fin false 1 (pos 64)))
  unfolding factor_of
  not_fast =
      let t : e * u ≤ 2 ^ 31 * 2 ^ 10 = mul-le-mul (le_of_lt (entry_below (above z) (under z))) (up_few z good) in
      let h = down_pos (octaves z) in
      subst (λ (x : Float). T (le (round binary64 false (e * u) (2 ^ 30 * d)) x)) fastest
      (round_mono binary64 (e * u) (2 ^ 30 * d) (2 ^ 64) 1 (mul-pos (pow_pos 30) (down_pos (octaves z))) (lit< tt) (omega (arith, t, h)))
