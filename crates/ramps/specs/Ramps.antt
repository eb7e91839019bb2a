-- docs/REFERENCE.md, 'Ramps': the factor of a sample by its number, the samples of a block, and the record after it. A factor is told by
-- its numerator, a whole number; its denominator is the length. Definitions only.
use Rattle.std.specs.Prelude.{Bool, true, false, cond, ℕ, ◌+◌, ◌-◌, ◌^◌, min, ltb, eqb, pos, Float, from_bits, to_bits, Option, None, Some}
use Rattle.std.specs.Float.{binary32, binary64}
use Rattle.std.specs.Float.Ieee.{of_int, sub, mul, div, ne}
use Rattle.rounding.specs.Rounding.{truncate}
use Rattle.seconds.specs.Seconds.{never}
use Rattle.ramps.specs.declared.Ramp.{Ramp}

-- ---- the limits, within which a record is read that no call made: of the length, of the count, and of the number of the stop's sample
abbrev pub longest : ℕ
longest = 48000

abbrev pub last_count : ℕ
last_count = 2 ^ 53

abbrev pub last_stop : ℕ
last_stop = 2 ^ 52

abbrev pub length_of : Ramp → ℕ
length_of r = min r.length longest

abbrev pub stop_of : Ramp → Option ℕ
stop_of r = cond r.has_stop_sample (Some (min r.stop_sample last_stop)) None

-- ---- the factor of sample number j
-- rising from the starting sample, number 0
abbrev pub rising : ℕ → ℕ → Option ℕ
rising length j = cond (ltb j length) (Some j) None

-- falling to the stop's sample, number w, where it is known; above it zero
abbrev pub falling : ℕ → Option ℕ → ℕ → Option ℕ
falling length None j = None
falling length (Some w) j = cond (ltb w j) (Some 0) (cond (ltb (w - j) length) (Some (w - j)) None)

-- of two the smaller
abbrev pub smaller : Option ℕ → Option ℕ → Option ℕ
smaller None b = b
smaller (Some a) None = Some a
smaller (Some a) (Some b) = Some (min a b)

-- a ramp of no length has no factor
unfoldable pub numerator : ℕ → Option ℕ → ℕ → Option ℕ
numerator length stop j = cond (eqb length 0) None (smaller (rising length j) (falling length stop j))

-- the numerator of sample j; the length, which is a factor of 1, where it has none
abbrev pub level_by : ℕ → Option ℕ → ℕ
level_by length None = length
level_by length (Some k) = k

abbrev pub level : ℕ → Option ℕ → ℕ → ℕ
level length stop j = level_by length (numerator length stop j)

-- both numbers are exact in f32, and their quotient is rounded once
abbrev pub factor : ℕ → ℕ → Float
factor length k = div binary32 (of_int binary32 (pos k)) (of_int binary32 (pos length))

-- the bits of a sample multiplied once, in f32
unfoldable pub multiplied : Float → ℕ → ℕ
multiplied factor bits = to_bits binary32 (mul binary32 (from_bits binary32 bits) factor)

-- without a factor they stay
abbrev pub scaled : ℕ → Option ℕ → ℕ → ℕ
scaled length None bits = bits
scaled length (Some k) bits = multiplied (factor length k) bits

-- ---- a block whose first `uncounted` samples come before the starting one, and don't count
-- the number of sample i, one that counts
abbrev pub number : Ramp → ℕ → ℕ → ℕ
number r uncounted i = min last_count (r.count + (i - uncounted))

-- the bits of sample i
unfoldable pub ramped : Ramp → ℕ → ℕ → ℕ → ℕ
ramped r uncounted i bits =
    cond (ltb i uncounted) bits (scaled (length_of r) (numerator (length_of r) (stop_of r) (number r uncounted i)) bits)

abbrev pub ramp_of : ℕ → ℕ → Bool → ℕ → Ramp
ramp_of length count has_stop_sample stop_sample =
    record { length = length; count = count; has_stop_sample = has_stop_sample; stop_sample = stop_sample }

-- a ramp before any sample counts
abbrev pub fresh : ℕ → Ramp
fresh length = ramp_of length 0 false 0

-- the ramp after a block of n samples
unfoldable pub counted : ℕ → Ramp → ℕ → Ramp
counted n r uncounted =
    cond (ltb uncounted n) (ramp_of r.length (min last_count (r.count + (n - uncounted))) r.has_stop_sample r.stop_sample) r

-- ---- the number of the stop's sample: (stop − start) × the output's rate, each step rounded to f64, then cut to a whole number
unfoldable pub stop_number : Float → Float → Float → ℕ
stop_number start stop rate = min last_stop (truncate (mul binary64 (sub binary64 stop start) rate))

-- the ramp by a start and a stop, in seconds; with no stop none is known
unfoldable pub stopping : Ramp → Float → Float → Float → Ramp
stopping r start stop rate =
    cond (ne stop never) (ramp_of r.length r.count true (stop_number start stop rate)) (ramp_of r.length r.count false 0)
