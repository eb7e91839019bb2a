-- The ramps of `specs/Known.antt`: antt computes each. Assumes nothing.
use mathlib.Core.Path.{refl}
use lib.Ieee.{lt, le, eq, ne, add, sub, mul, div, neg, sum, round, of_bits, to_bits, of_int, to_unsigned}
use Rattle.ramps.specs.Ramps.{numerator, multiplied, ramped, counted, stop_number, stopping}
use Rattle.ramps.specs.Known.{KnownRamps}

pub known : KnownRamps
unfolding numerator multiplied ramped counted stop_number stopping lt le eq ne add sub mul div neg sum round of_bits to_bits of_int to_unsigned
known = record {
  start = refl;
  rise = refl;
  level = refl;
  not_yet = refl;
  fall = refl;
  stop = refl;
  above = refl;
  peak = refl;
  smaller_rises = refl;
  smaller_falls = refl;
  once = refl;
  third = refl;
  minus = refl;
  infinity = refl;
  kept = refl;
  calculated = refl;
  none = refl;
  uncounted = refl;
  number_0 = refl;
  number_27 = refl;
  after = refl;
  number_128 = refl;
  whole = refl;
  silent = refl;
  stays = refl;
  at_block = refl;
  moved = refl;
  told = refl;
  cut = refl;
  earlier = refl;
  late = refl;
  known = refl;
  unknown = refl;
}
