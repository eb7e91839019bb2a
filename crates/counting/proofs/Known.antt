-- The counters of `specs/Known.antt`: antt computes each. Assumes nothing.
use mathlib.Core.Path.{refl}
use Rattle.lists.specs.Table.{table}
use Rattle.buffer.specs.Limits.{valid_shape}
use Rattle.counting.specs.Counting.{made, has_ended, frame_at, sample, counted_on, report, checked, rendered}
use Rattle.counting.specs.Statement.{after_blocks}
use Rattle.counting.specs.Known.{KnownCounters}

pub known_counters : KnownCounters
unfolding table valid_shape made has_ended frame_at sample counted_on report checked rendered after_blocks
known_counters = record {
  looped = refl;
  looped_on = refl;
  never_ends = refl;
  plain = refl;
  silent = refl;
  plays = refl;
  fit = refl;
  longer = refl;
  around = refl;
  shape_first = refl;
  no_frames = refl;
  largest = refl;
  too_long = refl;
  length_first = refl;
  samples = refl;
}
