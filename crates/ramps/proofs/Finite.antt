-- Finite samples and quotients, and that their product is no NaN. Assumes nothing.
use mathlib.Core.Path.{◌≡◌, subst, sym}
use mathlib.Core.Bool.{Bool, true, false, not, cond}
use Prim.Native.Nat.{ℕ, zero, suc, ◌+◌, ◌-◌, ◌*◌, ◌/◌, ◌%◌, ◌^◌, ◌≤◌, ◌<◌, max, compare}
use native.Mathlib.Nat.{le_trans}
use native.Mathlib.Omega.{arith}
use borrow.Author.Tests.{ltb-true}
use lib.Dec.{T, ltb, lit<, lit≤}
use lib.IntN.{pos}
use lib.Ieee.{Float, nan, inf, fin, Format, binary32, prec, emax, low, size, nearest, round, units, odd, unlike, up, down, mul, div, of_int, of_bits, nan_bits, is_nan}
use lib.Ieee.Exact.{HasValue}
use lib.Ieee.Scale.{finite, round_val}
use Rattle.std.proofs.lemmas.Float.{not_nan_f32_bits}
use Rattle.rounding.specs.Fields.{field}
use Rattle.rounding.proofs.Read.{read}
use Rattle.rounding.proofs.Exact.{whole_exact}
use Rattle.rounding.proofs.Error.{grid_under}
use Rattle.rounding.proofs.Operations.{div_at}
use Rattle.ramps.specs.declared.Ramp.{Ramp}
use Rattle.ramps.specs.Ramps.{factor, length_of, stop_of, level, number}
use Rattle.ramps.specs.Factors.{quotient, is_finite_bits}
use Rattle.ramps.proofs.Block.{level_le}

value_finite : (x : Float) (s : Bool) (a c : ℕ) → HasValue x s a c → T (finite x)
value_finite nan s a c h = absurd h
value_finite (inf t) s a c h = absurd h
value_finite (fin t m e) s a c h = tt

-- a finite pattern
below : (b : ℕ) → is_finite_bits b ≡ true → b % 2147483648 < 2139095040
below b h = ltb-true (b % 2147483648) 2139095040 h

pub pattern : (b : ℕ) → is_finite_bits b ≡ true → T (not (nan_bits binary32 b))
pattern b h = let l = below b h in not_nan_f32_bits b (omega (arith, l))

field_below : (b : ℕ) → b % 2147483648 < 2139095040 → field binary32 b < 255
field_below b l = omega (arith, l)

sample : (b : ℕ) → is_finite_bits b ≡ true → T (finite (of_bits binary32 b))
sample b h = value_finite (of_bits binary32 b) _ _ _ (read binary32 b (field_below b (below b h)))

-- a rounded number is none
odd_number : (d : ℕ) (s : Bool) (q k l : ℕ) → T (not (is_nan (odd d s q k l)))
unfolding odd is_nan
odd_number d s zero k l = tt
odd_number d s (suc q) k l = tt

chosen : (b : Bool) (x y : Float) → T (not (is_nan x)) → T (not (is_nan y)) → T (not (is_nan (cond b x y)))
chosen true x y h k = h
chosen false x y h k = k

units_number : (f : Format) (s : Bool) (q k : ℕ) → T (not (is_nan (units f s q k)))
unfolding units is_nan
units_number f s q k =
    chosen (ltb (q * 2 ^ k) (2 ^ (low f + suc (emax f)))) (odd (suc (prec f)) s q k (low f)) (inf s) (odd_number (suc (prec f)) s q k (low f)) tt

round_number : (f : Format) (s : Bool) (a c : ℕ) → T (not (is_nan (round f s a c)))
unfolding round
round_number f s a c =
    let n = a * 2 ^ low f in
    let k = size (n / c) - prec f in
    let u = c * 2 ^ k in
    units_number f s (nearest (n / u) (compare (n % u * 2) u)) k

product_number : (x y : Float) → T (finite x) → T (finite y) → T (not (is_nan (mul binary32 x y)))
unfolding mul
product_number nan y h k = absurd h
product_number (inf s) y h k = absurd h
product_number (fin s m e) nan h k = absurd k
product_number (fin s m e) (inf t) h k = absurd k
product_number (fin s m e) (fin t n d) h k = round_number binary32 (unlike s t) (m * up e * (n * up d)) (down e * down d)

pub product : (b : ℕ) (x : Float) → is_finite_bits b ≡ true → T (finite x) → T (not (is_nan (mul binary32 (of_bits binary32 b) x)))
product b x h k = product_number (of_bits binary32 b) x (sample b h) k

-- a quotient of whole numbers
quotient_number : (length k : ℕ) → 1 ≤ length → length ≤ 48000 → k ≤ 48000 → T (finite (factor length k))
quotient_number length k some few small =
    let x = of_int binary32 (pos k) in
    let y = of_int binary32 (pos length) in
    let is : div binary32 x y ≡ round binary32 false (k * 1) (length * 1) =
    div_at binary32 x y k 1 length 1 (lit< tt) (lit< tt) (whole_exact binary32 k (le_trans small (lit≤ tt))) (whole_exact binary32 length (le_trans few (lit≤ tt))) some in
    subst (λ (z : Float). T (finite z)) (sym is)
    (value_finite _ false _ _ (round_val binary32 (k * 1) (length * 1) (grid_under binary32 (k * 1) (length * 1) (omega arith) (omega arith))))

pub quotient_finite : (r : Ramp) (uncounted i : ℕ) → T (finite (quotient r uncounted i))
unfolding quotient
quotient_finite r uncounted i =
    let low = level_le (length_of r) (stop_of r) (number r uncounted i) in
    quotient_number (max 1 (length_of r)) (level (length_of r) (stop_of r) (number r uncounted i)) (omega arith) (omega arith) (omega arith)
