-- docs/REFERENCE.md, 'Known frames': those about rounding, but for that of a * b + c rounded once (the crate `fused`), and the tolerances,
-- as one claim about the definitions.
use Rattle.std.specs.Prelude.{◌≡◌, ℕ, ◌+◌, ◌-◌, ◌^◌, true, false, pos, negsuc, Float}
use Rattle.std.specs.Float.{nan, fin, binary32, binary64}
use Rattle.rounding.specs.Near.{near_tolerance, rate_tolerance}
use Rattle.rounding.specs.Rounding.{floor, round_away, convert, narrow}

-- m / 2 ^ k, for a k of at least 1, and n, each with either sign
abbrev pub over : ℕ → ℕ → Float
over m k = fin false m (negsuc (k - 1))

abbrev pub minus_over : ℕ → ℕ → Float
minus_over m k = fin true m (negsuc (k - 1))

abbrev pub whole : ℕ → Float
whole n = fin false n (pos 0)

abbrev pub minus_whole : ℕ → Float
minus_whole n = fin true n (pos 0)

unfoldable pub KnownRounding : Type 0
KnownRounding =
    -- floor(-0.5) = -1; round(2.5) = 3, round(-2.5) = -3; 0.49999999999999994, the value below a half, rounds to 0
    (floor binary64 (minus_over 1 1) ≡ minus_whole 1)
    × (round_away binary64 (over 5 1) ≡ whole 3)
    × (round_away binary64 (minus_over 5 1) ≡ minus_whole 3)
    × (round_away binary64 (over (2 ^ 53 - 1) 54) ≡ whole 0)
    -- f32 of 1 + 2 ^ -24 is 1; of 1 + 3 * 2 ^ -24 is 1 + 2 ^ -22
    × (convert binary32 (over (2 ^ 24 + 1) 24) ≡ whole 1)
    × (convert binary32 (over (2 ^ 24 + 3) 24) ≡ over (2 ^ 22 + 1) 22)
    -- a calculated NaN is 7FC00000
    × (narrow nan ≡ 0x7fc0_0000)
    -- the tolerances: 2 ^ -26, and 0.1 as f32
    × (near_tolerance ≡ over 1 26)
    × (rate_tolerance ≡ over 13421773 27)
