-- The ramps of `specs/RampInstances.antt`: antt computes each. Assumes nothing.
use mathlib.Core.Path.{refl}
use lib.Ieee.{of_bits, to_bits, of_int, round, sum, add, mul, div, rem, lt, le, eq, ne, neg, sub, to_unsigned}
use Rattle.rounding.specs.Rounding.{convert, narrow, widen, floor, round_away, magnitude, rem_euclid}
use Rattle.rounding.specs.Near.{larger, near, near_zero}
use Rattle.fused.specs.Fused.{plus, fma}
use Rattle.buffer.specs.Limits.{valid_rate, valid_shape, duration}
use Rattle.seconds.specs.Seconds.{dt, block_seconds, instant, block_end}
use Rattle.ramps.specs.Ramps.{numerator, multiplied, ramped, counted, stop_number, stopping}
use Rattle.player.specs.Record.{fresh_with}
use Rattle.player.specs.Messages.{made_with, clamped_start, clamped_end, clamped, bad_time, on_start, ramp_at_stop, on_stop, on_loop, handled, buffered}
use Rattle.aligned.specs.Aligned.{first_frame, ends_within, aligned_sample, played, next_frame, last_wrap, aligned_position}
use Rattle.sub_sample.specs.SubSample.{snapped, is_idle, start_offset, begun, snapped_to_loop, enters, wrapped, turned, settled, playhead, info_at, advanced, placed, stepped, info_of_sample, head_at, before_start}
use Rattle.interpolated.specs.Interpolated.{loop_frame, extrapolated, following, between, sample_of}
use Rattle.player.specs.Block.{idle, start_at, is_aligned, has_ended, turns_over, aligned_plan, sub_sample_plan, settings, first_head, bare_plan, ramp_in, ramped_plan, own_loop, bad_block_time, bad_rate, bad_samples, checked, rendered}
use Rattle.claims.specs.Calls.{next}
use Rattle.claims.specs.RampInstances.{RampInstances}

pub ramp_instances : RampInstances
unfolding made_with next handled buffered on_start ramp_at_stop on_stop on_loop bad_time clamped clamped_start clamped_end fresh_with valid_rate valid_shape duration
    rendered checked bad_block_time bad_rate bad_samples bare_plan ramp_in ramped_plan is_aligned start_at aligned_plan sub_sample_plan settings own_loop first_head has_ended
    turns_over first_frame ends_within aligned_sample played next_frame last_wrap aligned_position dt block_seconds block_end instant idle
    head_at before_start stepped info_of_sample snapped is_idle start_offset begun snapped_to_loop enters wrapped turned settled playhead info_at advanced placed
    loop_frame extrapolated following between sample_of larger near near_zero magnitude floor rem_euclid widen narrow convert fma plus
    numerator multiplied ramped counted stop_number stopping
    round_away of_bits of_int round sum add mul div rem lt le eq ne neg sub to_unsigned to_bits
ramp_instances = record {
  late_start = refl;
  uncounted = refl;
  number_128 = refl;
  kept = refl;
  calculated = refl;
  both = refl;
  far_start = refl;
  ends = refl;
  early_stop = refl;
  later_stop = refl;
  second_stop = refl;
  no_stop = refl;
  waits = refl;
  longest = refl;
  too_long = refl;
  no_rate = refl;
}
