-- The whole number that a value is cut to, as a float and as a number. Assumes nothing.
use Rattle.std.proofs.Common.{◌≡◌, ℕ, ◌-◌, ◌^◌, ◌<◌, ◌≤◌, T, pos, sym, ap, ◌∙◌, le_trans, le_of_eq, le_of_lt, div-le_self}
use lib.Ieee.{Float, binary64, fits, of_int, to_bits, to_unsigned}
use Rattle.rounding.specs.Fields.{digits, place}
use Rattle.rounding.specs.Rounding.{cut, floor}
use Rattle.rounding.proofs.Counted.{whole_count}
use Rattle.rounding.proofs.Read.{digits_lt}
use Rattle.rounding.proofs.Wholes.{floor_above}

floored_count : (x : Float) (n : ℕ) → n ≤ 2 ^ 53 → of_int binary64 (pos n) ≡ floor binary64 x → n ≡ to_unsigned 64 (floor binary64 x)
unfolding of_int
floored_count x n h e = sym (whole_count binary64 n h) ∙ ap (to_unsigned 64) e

-- of a value that is not negative, by the digits of its pattern
pub counted_above : (x : Float) (held : T (fits binary64 x)) (small : place binary64 (to_bits binary64 x) < 1074) (n : ℕ) → to_bits binary64 x < 2 ^ 63
    → n ≡ cut (digits binary64 (to_bits binary64 x)) (2 ^ (1074 - place binary64 (to_bits binary64 x)))
    → n ≡ to_unsigned 64 (floor binary64 x)
counted_above x held small n s e =
    let f = floor_above x held small n s e in
    let d : digits binary64 (to_bits binary64 x) < 2 ^ 53 = digits_lt binary64 (to_bits binary64 x) in
    let l : n ≤ digits binary64 (to_bits binary64 x) = le_trans (le_of_eq e) (div-le_self (digits binary64 (to_bits binary64 x)) (2 ^ (1074 - place binary64 (to_bits binary64 x)))) in
    floored_count x n (le_trans l (le_of_lt d)) f
