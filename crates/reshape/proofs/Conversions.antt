-- What antt computes of a conversion. Assumes nothing.
use Rattle.std.proofs.Common.{◌≡◌, pos, refl}
use lib.Ieee.{binary32, round, sum, add, sub, mul, div, neg, lt, eq, le, of_int, of_bits, to_bits, to_unsigned}
use Rattle.rounding.specs.Rounding.{floor, ceil, convert, magnitude}
use Rattle.rounding.specs.Near.{float_eq}
use Rattle.lists.specs.Rows.{rows}
use Rattle.lists.specs.Table.{table}
use Rattle.buffer.specs.Limits.{valid_shape, valid_rate}
use Rattle.reshape.specs.Known.{KnownReshape}
use Rattle.reshape.specs.Converting.{relabels_with, converted_length, converted_shape_with, converted_shape, playhead, fraction, mixed, previous, resampled, converted_samples_with, converted_samples}

-- 1, by its bits and as a whole number
pub one : of_bits binary32 0x3f80_0000 ≡ of_int binary32 (pos 1)
unfolding of_bits of_int
one = refl

pub known_frames : KnownReshape
unfolding KnownReshape valid_shape valid_rate relabels_with converted_length converted_shape_with converted_shape playhead fraction mixed previous resampled converted_samples_with converted_samples
    floor ceil convert magnitude float_eq rows table round sum add sub mul div neg lt eq le of_int of_bits to_bits to_unsigned
known_frames = (refl, refl)
