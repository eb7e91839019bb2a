-- The factors of a block of n samples as the code keeps them: a quotient for each sample, and which samples have one. Definitions only.
use Rattle.std.specs.Prelude.{◌≡◌, Bool, ◌&&◌, ◌||◌, cond, ℕ, ◌+◌, ◌-◌, ◌%◌, min, max, leb, ltb, eqb, get_or, Float, Option, None, Some}
use Rattle.std.specs.Float.{nan}
use Rattle.lists.specs.Table.{table}
use Rattle.ramps.specs.Ramps.{length_of, stop_of, level, number, factor, multiplied}
use Rattle.ramps.specs.declared.Ramp.{Ramp}
use Rattle.ramps.specs.declared.Factors.{Factors}

-- the samples before it, from `uncounted` on, rise
unfoldable pub rising_end : ℕ → Ramp → ℕ → ℕ
rising_end n r uncounted = min n (uncounted + (length_of r - r.count))

-- those from it on fall
abbrev pub falling_from : ℕ → ℕ → Option ℕ → ℕ → ℕ → ℕ
falling_from n length None count uncounted = n
falling_from n length (Some w) count uncounted = cond (eqb length 0) n (min n (uncounted + (w - (length - 1) - count)))

unfoldable pub falling_start : ℕ → Ramp → ℕ → ℕ
falling_start n r uncounted = falling_from n (length_of r) (stop_of r) r.count uncounted

-- a sample of the block has a factor
unfoldable pub touches : ℕ → Ramp → ℕ → Bool
touches n r uncounted = ltb uncounted (rising_end n r uncounted) || ltb (falling_start n r uncounted) n

-- the levels of the rise and of the fall at the first sample that counts, as far as a block's levels go by them
abbrev pub up_of : Ramp → ℕ
up_of r = min r.count (length_of r)

abbrev pub down_from : ℕ → ℕ → Option ℕ → ℕ → ℕ
down_from n length None count = length + n
down_from n length (Some w) count = min (w - count) (length + n)

abbrev pub down_of : ℕ → Ramp → ℕ
down_of n r = down_from n (length_of r) (stop_of r) r.count

-- the quotient of sample i: 1 where it has no factor, and 0 of a ramp of no length
unfoldable pub quotient : Ramp → ℕ → ℕ → Float
quotient r uncounted i = factor (max 1 (length_of r)) (level (length_of r) (stop_of r) (number r uncounted i))

-- the factors of such a block
abbrev pub AreFactors : ℕ → Ramp → ℕ → Factors → Type 0
AreFactors n r uncounted f =
    (f.quotients ≡ table n (quotient r uncounted)) × (f.uncounted ≡ uncounted)
    × (f.rising_end ≡ rising_end n r uncounted) × (f.falling_start ≡ falling_start n r uncounted)

-- sample i has one of them
abbrev pub has_factor : Factors → ℕ → Bool
has_factor f i = leb f.uncounted i && (ltb i f.rising_end || leb f.falling_start i)

unfoldable pub multiplied_by : Factors → ℕ → ℕ → ℕ
multiplied_by f i bits = cond (has_factor f i) (multiplied (get_or f.quotients i nan) bits) bits

-- a sample that is neither a NaN nor an infinity
abbrev pub is_finite_bits : ℕ → Bool
is_finite_bits bits = ltb (bits % 0x8000_0000) 0x7f80_0000
