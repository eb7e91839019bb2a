-- A whole number below 2 ^ 16 in the last bits of the pattern of 2 ^ 23, less 2 ^ 23. Assumes nothing.
use mathlib.Core.Path.{◌≡◌, ap, subst₃, ◌∙◌}
use mathlib.Core.Bool.{Bool, false, not}
use Prim.Native.Nat.{ℕ, ◌+◌, ◌-◌, ◌*◌, ◌%◌, ◌^◌, ◌<◌}
use native.Mathlib.Omega.{arith}
use lib.Dec.{T, lit<}
use lib.IntN.{pos}
use lib.Ieee.{binary32, sub, of_int, of_bits, nan_bits}
use lib.Ieee.Exact.{HasValue}
use lib.Ieee.Scale.{round_same}
use Rattle.std.proofs.lemmas.Bool.Decides.{nat_tests}
use Rattle.std.proofs.lemmas.Float.{not_nan_f32_bits}
use Rattle.rounding.specs.Fields.{field, digits, place, negative}
use Rattle.rounding.proofs.Read.{read}
use Rattle.rounding.proofs.Operations.{sub_at}

pub pattern : (n : ℕ) → n < 2 ^ 16 → T (not (nan_bits binary32 (1258291200 + n)))
pattern n low = not_nan_f32_bits (1258291200 + n) (omega arith)

-- its value
abbrev bits : ℕ → ℕ
bits n = 1258291200 + n

field_is : (n : ℕ) → n < 2 ^ 16 → field binary32 (bits n) ≡ 150
field_is n low = omega arith

digits_are : (n : ℕ) → n < 2 ^ 16 → digits binary32 (bits n) ≡ 8388608 + n
unfolding digits
digits_are n low =
    let rest : bits n % 8388608 ≡ n = omega arith in
    rw (field_is n low) (ap (λ (x : ℕ). 8388608 + x) rest)

place_is : (n : ℕ) → n < 2 ^ 16 → place binary32 (bits n) ≡ 149
unfolding place
place_is n low = ap (λ (x : ℕ). x - 1) (field_is n low)

positive : (n : ℕ) → n < 2 ^ 16 → negative binary32 (bits n) ≡ false
positive n low = grind (arith, nat_tests)

value : (n : ℕ) → n < 2 ^ 16 → HasValue (of_bits binary32 (bits n)) false ((8388608 + n) * 2 ^ 149) (2 ^ 149)
value n low =
    let under : field binary32 (bits n) < 255 = omega arith in
    subst₃ (λ (s : Bool) (d k : ℕ). HasValue (of_bits binary32 (bits n)) s (d * 2 ^ k) (2 ^ 149)) (positive n low) (digits_are n low) (place_is n low)
    (read binary32 (bits n) under)

pub counted : (n : ℕ) → n < 2 ^ 16 → sub binary32 (of_bits binary32 (1258291200 + n)) (of_bits binary32 1258291200) ≡ of_int binary32 (pos n)
unfolding of_int
counted n low =
    sub_at binary32 (of_bits binary32 (bits n)) (of_bits binary32 1258291200) ((8388608 + n) * 2 ^ 149) (2 ^ 149) (8388608 * 2 ^ 149) (2 ^ 149) (lit< tt) (lit< tt)
    (value n low) (value 0 (lit< tt)) (omega arith)
    ∙ round_same binary32 false ((8388608 + n) * 2 ^ 149 * 2 ^ 149 - 8388608 * 2 ^ 149 * 2 ^ 149) (2 ^ 149 * 2 ^ 149) n 1 (lit< tt) (lit< tt) (omega arith)
