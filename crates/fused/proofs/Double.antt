-- The f64 pattern of digits whose top one is the 64th, at a place in units of 2 ^ -2148: the laws of `Pattern.antt` of `rounding` at binary64, by where the place lies. Assumes nothing.
use Rattle.std.proofs.Common.{◌≡◌, ℕ, ◌+◌, ◌-◌, ◌*◌, ◌^◌, ◌<◌, ◌≤◌, min, Bool, cond, ap, ◌∙◌, subst, inr, lt_of_lt_of_le, arith, pow_mono}
use lib.Ieee.{binary64, round, to_bits}
use lib.Ieee.Nearest.{closest}
use Rattle.rounding.proofs.Pattern.{at_high, at_low}

abbrev pub pat : Bool → ℕ → ℕ → ℕ
pat s h t = to_bits binary64 (round binary64 s (h * 2 ^ t) (2 ^ 2148))

-- a normal result, or an overflow: 11 digits are dropped
pub high : (s : Bool) (h t : ℕ) → 2 ^ 63 ≤ h → h < 2 ^ 64 → 1063 ≤ t → pat s h t ≡ cond s (2 ^ 63) 0 + min ((t - 1063) * 0x10_0000_0000_0000 + closest h (2 ^ 11)) 0x7ff0_0000_0000_0000
high s h t lo hi p =
    let j = t - 1063 in
    let e : t ≡ j + 1063 = omega arith in
    ap (λ (x : ℕ). pat s h x) e ∙ at_high binary64 s h j 1063 11 hi (inr lo)

-- a subnormal result, or 0
pub middle : (s : Bool) (h t : ℕ) → h < 2 ^ 64 → t < 1063 → pat s h t ≡ cond s (2 ^ 63) 0 + closest h (2 ^ (1074 - t))
middle s h t hi p =
    let e = 1074 - t in
    let q : 1074 + e + t ≡ 2148 = omega arith in
    subst (λ (x : ℕ). to_bits binary64 (round binary64 s (h * 2 ^ t) (2 ^ x)) ≡ cond s (2 ^ 63) 0 + closest h (2 ^ e)) q
    (at_low binary64 s h t e (lt_of_lt_of_le hi (pow_mono {i = 64} {j = 53 + e} (omega arith))))
