-- The lists that meet the premises: antt computes each. Assumes nothing.
use mathlib.Core.Path.{◌≡◌, refl}
use mathlib.Core.List.{List, [], ◌∷◌, ◌++◌}
use Prim.Native.Nat.{ℕ, ◌≤◌}
use lib.Dec.{T, lit≤}
use lib.ListN.{length}
use lib.Ieee.{of_bits, to_bits, of_int, round, sum, add, mul, div, rem, lt, le, eq, ne, fits, neg, sub, to_unsigned}
use Rattle.std.specs.Prelude.{true, take, replicate}
use Rattle.lists.specs.Table.{table}
use Rattle.lists.specs.Parts.{put}
use Rattle.rounding.specs.Rounding.{convert, narrow, widen, floor, round_away, magnitude, rem_euclid}
use Rattle.rounding.specs.Near.{larger, near, near_zero}
use Rattle.fused.specs.Fused.{plus, fma}
use Rattle.buffer.specs.Limits.{valid_rate, valid_shape, duration}
use Rattle.seconds.specs.Seconds.{float_zero, never, dt, block_seconds, instant, block_end}
use Rattle.tolerances.specs.declared.Tolerances.{Tolerances}
use Rattle.player.specs.declared.PlayerOptions.{PlayerOptions}
use Rattle.ramps.specs.Ramps.{numerator, ramped, counted, stop_number, stopping}
use Rattle.player.specs.Record.{fresh_with, default_options}
use Rattle.player.specs.Messages.{clamped_start, clamped_end, clamped, bad_time, on_start, ramp_at_stop, on_stop, on_loop, handled, buffered}
use Rattle.aligned.specs.Aligned.{first_frame, ends_within, aligned_sample, played, next_frame, last_wrap, aligned_position}
use Rattle.sub_sample.specs.SubSample.{snapped, is_idle, start_offset, begun, snapped_to_loop, enters, wrapped, turned, settled, playhead, info_at, advanced, placed, stepped, info_of_sample, head_at, before_start}
use Rattle.interpolated.specs.Interpolated.{loop_frame, extrapolated, following, between, sample_of}
use Rattle.player.specs.Block.{idle, start_at, is_aligned, has_ended, turns_over, aligned_plan, sub_sample_plan, settings, first_head, bare_plan, ramp_in, ramped_plan, own_loop, bad_block_time, bad_rate, bad_samples, checked, rendered, written, output}
use Rattle.claims.specs.Calls.{Call, all_typed, accepts, next, accepted, opening, playing, Clip, Started, clip_in, start_in, stop_in, switch_in, point_in, gathered}
use Rattle.claims.specs.LongRun.{starts_in_time, OnlyBlocks, frame_bits}
use Rattle.detune.specs.Table.{entries}
use Rattle.detune.specs.Detune.{octaves, above, bad_cents, factor_of}
use Rattle.cents.specs.Cents.{checked_cents, rendered_cents}
use Rattle.claims.specs.Longer.{replaced, unlooked}
use Rattle.claims.specs.Instances.{rate, frames, looped_calls, plain_calls, stopped_calls, stop_calls, first_end, within, all_heard, said, unramped, longer_calls, previewed_calls, Met, MetAtStop, MetWithin, Instances}

abbrev ownClip : Clip
ownClip = record { channels = 1; frames = 3; rate = rate; samples = frames }

abbrev ownStart : Started
ownStart = record { when = float_zero; offset = float_zero; duration = never }

-- a list is met by what its accepted calls hold
met : (options : PlayerOptions) (calls : List Call) (blocks : ℕ) → T (all_typed calls) → gathered clip_in (opening (accepted (fresh_with rate options) calls)) ≡ ownClip ∷ [] → gathered start_in (opening (accepted (fresh_with rate options) calls)) ≡ ownStart ∷ []
    → T (starts_in_time float_zero (playing (accepted (fresh_with rate options) calls))) → length (gathered switch_in (opening (accepted (fresh_with rate options) calls))) ≤ 1 → length (gathered stop_in (opening (accepted (fresh_with rate options) calls))) ≤ 1
    → gathered point_in (opening (accepted (fresh_with rate options) calls)) ≡ [] → OnlyBlocks frames (playing (accepted (fresh_with rate options) calls)) → length (playing (accepted (fresh_with rate options) calls)) ≡ blocks → Met options calls blocks
unfolding valid_rate of_bits of_int round lt le eq fits
met options calls blocks typed clips starts time switches stops points plain played = record {
  single = tt;
  valid = tt;
  typed = typed;
  premises = record {
    clip = ownClip;
    start = ownStart;
    one_clip = clips;
    own_rate = refl;
    one_start = starts;
    in_time = time;
    no_offset = tt;
    no_duration = refl;
    few_switches = switches;
    few_stops = stops;
    no_points = points;
    only_blocks = plain;
  };
  played = played;
}

at_stop : (t : Tolerances) → MetAtStop (unramped t)
unfolding ramp_in ramp_at_stop numerator ramped counted stop_number stopping accepted accepts next opening playing handled buffered on_start on_stop on_loop bad_time clamped clamped_start clamped_end fresh_with valid_rate valid_shape duration
    rendered checked bad_block_time bad_rate bad_samples bare_plan ramped_plan is_aligned start_at aligned_plan sub_sample_plan settings first_head head_at has_ended turns_over output written put table
    first_frame ends_within aligned_sample played next_frame last_wrap aligned_position dt block_seconds block_end instant idle frame_bits
    round_away of_bits of_int round sum add mul div rem lt le eq ne neg sub to_unsigned fits
at_stop t = record {
  met = met (unramped t) (stop_calls first_end) 2 tt refl refl tt (lit≤ tt) (lit≤ tt) refl ((refl, refl, refl), ((refl, refl, refl), tt)) refl;
  at = refl;
  plays = refl;
  ended = refl;
}

within_stop : (options : PlayerOptions) → MetWithin options
unfolding accepted accepts next opening playing handled buffered on_start on_stop on_loop bad_time clamped clamped_start clamped_end fresh_with valid_rate valid_shape duration
    rendered checked bad_block_time bad_rate bad_samples bare_plan ramped_plan is_aligned start_at aligned_plan sub_sample_plan settings first_head head_at has_ended turns_over output written put table
    first_frame ends_within aligned_sample played next_frame last_wrap aligned_position dt block_seconds block_end instant idle frame_bits
    round_away of_bits of_int round sum add mul div rem lt le eq ne neg sub to_unsigned fits
within_stop options = record {
  met = met options (stop_calls within) 2 tt refl refl tt (lit≤ tt) (lit≤ tt) refl ((refl, refl, refl), ((refl, refl, refl), tt)) refl;
  at = refl;
  reach = refl;
  instants = refl;
  ended = refl;
}

zero_from_stop : all_heard (playing (accepted (fresh_with rate default_options) (stop_calls within))) ≡ (take 94 (said true 0) ++ replicate 34 0) ∷ replicate 128 0 ∷ []
unfolding ramp_in ramp_at_stop numerator ramped counted stop_number stopping accepted accepts next opening playing handled buffered on_start on_stop on_loop bad_time clamped clamped_start clamped_end fresh_with valid_rate valid_shape duration
    rendered checked bad_block_time bad_rate bad_samples bare_plan ramped_plan is_aligned start_at aligned_plan sub_sample_plan settings own_loop first_head has_ended turns_over output written put table
    first_frame ends_within aligned_sample played next_frame last_wrap aligned_position dt block_seconds block_end instant idle frame_bits
    head_at before_start stepped info_of_sample snapped is_idle start_offset begun snapped_to_loop enters wrapped turned settled playhead info_at advanced placed
    loop_frame extrapolated following between sample_of larger near near_zero magnitude floor rem_euclid widen narrow convert fma plus
    round_away of_bits of_int round sum add mul div rem lt le eq ne neg sub to_unsigned to_bits fits
zero_from_stop = refl

pub instances : Instances
unfolding replaced unlooked checked_cents rendered_cents bad_cents factor_of octaves above entries accepted accepts next opening playing handled buffered on_start on_stop
    on_loop bad_time clamped clamped_start clamped_end fresh_with valid_rate valid_shape duration rendered checked bad_block_time bad_rate bad_samples bare_plan ramped_plan is_aligned start_at
    aligned_plan sub_sample_plan settings first_head head_at has_ended turns_over first_frame ends_within played next_frame last_wrap aligned_position dt block_seconds
    block_end idle round_away of_bits of_int round sum add mul div rem lt le eq ne neg sub to_unsigned fits
instances = record {
  looped = λ options. met options looped_calls 2 tt refl refl tt (lit≤ tt) (lit≤ tt) refl ((refl, refl, refl), ((refl, refl, refl), tt)) refl;
  plain = λ options. met options plain_calls 2 tt refl refl tt (lit≤ tt) (lit≤ tt) refl ((refl, refl, refl), ((refl, refl, refl), tt)) refl;
  stopped = λ options.
      met options stopped_calls 3 tt refl refl tt (lit≤ tt) (lit≤ tt) refl ((refl, refl, refl), ((refl, refl, refl), ((refl, refl, refl), tt))) refl;
  at_stop = at_stop;
  within_stop = within_stop;
  zero_from_stop = zero_from_stop;
  longer = λ options. record {
    typed = tt;
    left_out = refl;
    met = met options (replaced (fresh_with rate options) longer_calls) 2 tt refl refl tt (lit≤ tt) (lit≤ tt) refl ((refl, refl, refl), ((refl, refl, refl), tt)) refl;
  };
  previewed = λ options. record {
    typed = tt;
    left_out = refl;
    met = met options (replaced (fresh_with rate options) previewed_calls) 2 tt refl refl tt (lit≤ tt) (lit≤ tt) refl ((refl, refl, refl), ((refl, refl, refl), tt)) refl;
  };
  previews = λ options. record { between = refl; lengths = refl; short = refl; far = refl };
}
