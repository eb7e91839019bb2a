-- The known samples, by computation. Assumes nothing.
use mathlib.Core.Path.{refl}
use lib.Ieee.{round, to_bits}
use Rattle.lists.specs.Table.{table}
use Rattle.buffer.specs.Limits.{valid_shape}
use Rattle.clip.specs.Reading.{number}
use Rattle.pcm.specs.WholeNumbers.{signed, whole, level, sample}
use Rattle.pcm.specs.Taking.{taken}
use Rattle.pcm.specs.Statement.{KnownSamples}

pub known_samples : KnownSamples
unfolding KnownSamples number table valid_shape signed whole level sample taken round to_bits
known_samples =
    (refl, refl, refl, refl, refl, refl, refl, refl, refl, refl, refl, refl, refl, refl, refl, refl, refl, refl, refl, refl, refl, refl, refl, refl, refl, refl)
