-- The known frames: four parts are what the crates below claim, the others are computed. Assumes nothing.
use mathlib.Core.Path.{refl}
use lib.Ieee.{of_bits, of_int, round, sum, add, mul, div, rem, lt, le, eq, ne, neg, sub, to_unsigned}
use Rattle.lists.specs.Table.{table}
use Rattle.rounding.specs.Rounding.{round_away}
use Rattle.buffer.specs.Limits.{valid_rate, valid_shape, duration}
use Rattle.seconds.specs.Seconds.{dt, block_seconds, block_end}
use Rattle.player.specs.Record.{fresh, fresh_with}
use Rattle.player.specs.Messages.{clamped_start, clamped_end, clamped, bad_time, on_start, on_loop, handled, buffered}
use Rattle.aligned.specs.Aligned.{first_frame, ends_within, played, next_frame, aligned_sample, last_wrap, aligned_position}
use Rattle.player.specs.Block.{start_at, is_aligned, has_ended, turns_over, aligned_plan, bare_plan, ramp_in, ramped_plan}
use Rattle.ramps.specs.Ramps.{numerator, ramped, counted, stop_number, stopping}
use Rattle.claims.specs.Calls.{next}
use Rattle.rounding.specs.Known.{KnownRounding}
use Rattle.fused.specs.Known.{KnownFused}
use Rattle.buffer.specs.Known.{KnownBuffer}
use Rattle.reshape.specs.Known.{KnownReshape}
use Rattle.claims.specs.Known.{KnownLoopPoints, KnownPlayback, KnownFrames}

loop-points : KnownLoopPoints
unfolding KnownLoopPoints clamped_start clamped_end of_bits lt le eq
loop-points = (refl, refl, refl, refl, refl)

playback : KnownPlayback
unfolding KnownPlayback ramp_in numerator ramped counted stop_number stopping next handled buffered on_start on_loop bad_time clamped clamped_start clamped_end fresh fresh_with valid_rate valid_shape duration bare_plan ramped_plan is_aligned start_at aligned_plan has_ended turns_over first_frame ends_within aligned_sample played next_frame last_wrap aligned_position dt block_seconds block_end table round_away of_bits of_int round sum add mul div rem lt le eq ne neg sub to_unsigned
playback = (refl, refl, refl)

pub known_frames : KnownRounding → KnownFused → KnownBuffer → KnownReshape → KnownFrames
known_frames rounding fused buffers reshaped =
    record {
      rounding = rounding;
      fused = fused;
      buffers = buffers;
      reshaped = reshaped;
      loop_points = loop-points;
      playback = playback;
    }
