-- Ramps that can be followed by hand (docs/REFERENCE.md, 'Ramps'). Definitions only.
use Rattle.std.specs.Prelude.{◌≡◌, true, false, ℕ, ◌-◌, ◌^◌, pos, negsuc, Float, None, Some, from_bits}
use Rattle.std.specs.Float.{fin, binary32, binary64}
use Rattle.std.specs.Float.Ieee.{add}
use Rattle.seconds.specs.Seconds.{never, float_zero, one}
use Rattle.ramps.specs.Ramps.{ramp_of, fresh, numerator, scaled, ramped, counted, stop_number, stopping}

-- 1, −1 and infinity as f32 patterns; a NaN with a payload, and the one that is calculated
abbrev one_bits : ℕ
one_bits = 0x3f80_0000

abbrev minus_one : ℕ
minus_one = 0xbf80_0000

abbrev infinite : ℕ
infinite = 0x7f80_0000

abbrev odd_nan : ℕ
odd_nan = 0x7f80_0001

abbrev the_nan : ℕ
the_nan = 0x7fc0_0000

-- 48,000; 2 ^ 20 s, 0.0005 s and 0.002 s after it, each rounded
abbrev rate : Float
rate = from_bits binary32 0x473b_8000

abbrev early : Float
early = fin false 1 (pos 20)

abbrev starting : Float
starting = add binary64 early (from_bits binary64 0x3f40_624d_d2f1_a9fc)

abbrev ending : Float
ending = add binary64 early (from_bits binary64 0x3f60_624d_d2f1_a9fc)

-- 128 / 48,000 s
abbrev block_after : Float
block_after = from_bits binary64 0x3f65_d867_c3ec_e2a5

pub record KnownRamps : Type 0 where
  -- length 4, without a stop: the rise, and its end
  pub start : numerator 4 None 0 ≡ Some 0
  pub rise : numerator 4 None 3 ≡ Some 3
  pub level : numerator 4 None 4 ≡ None
  -- length 4, the stop's sample 100: the fall, the stop, and what is above
  pub not_yet : numerator 4 (Some 100) 96 ≡ None
  pub fall : numerator 4 (Some 100) 97 ≡ Some 3
  pub stop : numerator 4 (Some 100) 100 ≡ Some 0
  pub above : numerator 4 (Some 100) 101 ≡ Some 0
  -- length 4, the stop's sample 6: where both apply, the smaller is taken, once; 1 by 3/4 is 0.75
  pub peak : numerator 4 (Some 6) 3 ≡ Some 3
  pub smaller_rises : numerator 4 (Some 4) 1 ≡ Some 1
  pub smaller_falls : numerator 4 (Some 4) 3 ≡ Some 1
  pub once : scaled 4 (numerator 4 (Some 6) 3) one_bits ≡ 0x3f40_0000
  -- 1 by 1/3, rounded
  pub third : scaled 3 (Some 1) one_bits ≡ 0x3eaa_aaab
  -- a zero factor multiplies: −1 gives −0, infinity the NaN
  pub minus : scaled 4 (Some 0) minus_one ≡ 0x8000_0000
  pub infinity : scaled 4 (Some 0) infinite ≡ the_nan
  -- length 4, the stop's sample 128, a clip of NaNs: sample 124 keeps its bits, 125 has those of a calculated NaN
  pub kept : ramped (ramp_of 4 0 true 128) 0 124 odd_nan ≡ odd_nan
  pub calculated : ramped (ramp_of 4 0 true 128) 0 125 odd_nan ≡ the_nan
  -- length 0 touches nothing, above the stop's sample neither
  pub none : ramped (ramp_of 0 200 true 100) 0 5 odd_nan ≡ odd_nan
  -- the first that counts is number 0, and the ones before it stay
  pub uncounted : ramped (fresh 300) 100 99 one_bits ≡ one_bits
  pub number_0 : ramped (fresh 300) 100 100 one_bits ≡ 0
  pub number_27 : ramped (fresh 300) 100 127 one_bits ≡ scaled 300 (Some 27) one_bits
  -- the count after it, after a whole block, after a block in which nothing starts, and where it stays
  pub after : counted 128 (fresh 300) 100 ≡ ramp_of 300 28 false 0
  pub number_128 : ramped (ramp_of 300 28 false 0) 0 100 one_bits ≡ scaled 300 (Some 128) one_bits
  pub whole : counted 128 (ramp_of 300 28 true 7) 0 ≡ ramp_of 300 156 true 7
  pub silent : counted 128 (ramp_of 300 28 true 7) 128 ≡ ramp_of 300 28 true 7
  pub stays : counted 128 (ramp_of 300 (2 ^ 53 - 1) false 0) 0 ≡ ramp_of 300 (2 ^ 53) false 0
  -- a stop that is told: cut to a whole number, from the start that stands; 0 of an earlier one; 2 ^ 52 at most; none
  pub at_block : stop_number float_zero block_after rate ≡ 128
  pub moved : stop_number early ending rate ≡ 96
  pub told : stop_number starting ending rate ≡ 72
  pub cut : stop_number float_zero (fin false 3 (negsuc 0)) one ≡ 1
  pub earlier : stop_number one float_zero rate ≡ 0
  pub late : stop_number float_zero (fin false 1 (pos 60)) rate ≡ 2 ^ 52
  pub known : stopping (ramp_of 4 9 false 0) float_zero block_after rate ≡ ramp_of 4 9 true 128
  pub unknown : stopping (ramp_of 4 9 true 128) float_zero never rate ≡ ramp_of 4 9 false 0
