-- The making of tolerances, and the tests that receive them, on known numbers (docs/REFERENCE.md, 'Near tests and tolerances').
use Rattle.std.specs.Prelude.{◌≡◌, true, false, Float, Ok, Err, from_bits}
use Rattle.std.specs.Float.{nan, binary32, binary64}
use Rattle.seconds.specs.Seconds.{float_zero, one}
use Rattle.rounding.specs.Near.{near_tolerance, rate_tolerance}
use Rattle.buffer.specs.declared.refusals.Refusal.TheVariants as refused
use Rattle.tolerances.specs.Tolerances.{tolerances_of, defaults, zeros, made, is_near, is_near_zero, is_same_rate}

-- −0; the least number above 1, and the greatest below 0, as f64 and as f32
abbrev minus_zero : Float
minus_zero = from_bits binary64 0x8000_0000_0000_0000

abbrev above_one : Float
above_one = from_bits binary64 0x3ff0_0000_0000_0001

abbrev above_one_single : Float
above_one_single = from_bits binary32 0x3f80_0001

abbrev below_zero : Float
below_zero = from_bits binary64 0x8000_0000_0000_0001

abbrev below_zero_single : Float
below_zero_single = from_bits binary32 0x8000_0001

abbrev infinite : Float
infinite = from_bits binary64 0x7ff0_0000_0000_0000

-- 1/2, the least number above it, and 2
abbrev half : Float
half = from_bits binary64 0x3fe0_0000_0000_0000

abbrev above_half : Float
above_half = from_bits binary64 0x3fe0_0000_0000_0001

abbrev two : Float
two = from_bits binary64 0x4000_0000_0000_0000

-- 48,000 and 48,000.5 as f32, and the greatest f32 below 1/2
abbrev rate : Float
rate = from_bits binary32 0x473b_8000

abbrev rate_and_half : Float
rate_and_half = from_bits binary32 0x473b_8080

abbrev below_half : Float
below_half = from_bits binary32 0x3eff_ffff

pub record KnownTolerances : Type 0 where
  -- the defaults are made
  pub by_default : made near_tolerance near_tolerance rate_tolerance ≡ Ok defaults
  -- so are three zeros
  pub by_zeros : made float_zero float_zero float_zero ≡ Ok zeros
  -- 0, −0 and 1 are inside
  pub some_zeros : made float_zero minus_zero float_zero ≡ Ok (tolerances_of float_zero minus_zero float_zero)
  pub ones : made one one one ≡ Ok (tolerances_of one one one)
  -- each of the three is checked
  pub near_above : made above_one float_zero float_zero ≡ Err refused.Tolerance
  pub near_below : made below_zero float_zero float_zero ≡ Err refused.Tolerance
  pub near_nan : made nan float_zero float_zero ≡ Err refused.Tolerance
  pub near_infinite : made infinite float_zero float_zero ≡ Err refused.Tolerance
  pub zero_above : made float_zero above_one float_zero ≡ Err refused.Tolerance
  pub zero_below : made float_zero below_zero float_zero ≡ Err refused.Tolerance
  pub zero_nan : made float_zero nan float_zero ≡ Err refused.Tolerance
  pub zero_infinite : made float_zero infinite float_zero ≡ Err refused.Tolerance
  pub relabel_above : made float_zero float_zero above_one_single ≡ Err refused.Tolerance
  pub relabel_below : made float_zero float_zero below_zero_single ≡ Err refused.Tolerance
  pub relabel_nan : made float_zero float_zero nan ≡ Err refused.Tolerance
  pub relabel_infinite : made float_zero float_zero infinite ≡ Err refused.Tolerance
  -- 1 and 2 are 1 apart, which is half of the larger: less than the tolerance times the larger is near
  pub not_at : is_near (tolerances_of half one one) one two ≡ false
  pub just_above : is_near (tolerances_of above_half float_zero float_zero) one two ≡ true
  pub equal : is_near (tolerances_of float_zero one one) two two ≡ true
  -- less than the near-zero tolerance is near zero
  pub not_zero_at : is_near_zero (tolerances_of one half one) half ≡ false
  pub zero_just_above : is_near_zero (tolerances_of float_zero above_half float_zero) half ≡ true
  pub never_zero : is_near_zero (tolerances_of one float_zero one) float_zero ≡ false
  -- at most the relabel distance apart is the same rate
  pub same_at : is_same_rate (tolerances_of float_zero float_zero half) rate rate_and_half ≡ true
  pub other_below : is_same_rate (tolerances_of one one below_half) rate rate_and_half ≡ false
  pub same_rate : is_same_rate (tolerances_of one one float_zero) rate rate ≡ true
