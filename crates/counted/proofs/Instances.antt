-- The lists of `specs/Instances.antt`: antt computes each. Assumes nothing.
use mathlib.Core.Path.{◌≡◌, refl}
use mathlib.Core.List.{List, [], ◌∷◌}
use Prim.Native.Nat.{ℕ, ◌≤◌}
use lib.ListN.{length}
use lib.Dec.{T, lit≤}
use lib.Ieee.{of_bits, of_int, round, sum, add, mul, div, rem, lt, le, eq, ne, neg, sub, to_unsigned, fits}
use Rattle.lists.specs.Table.{table}
use Rattle.lists.specs.Parts.{put}
use Rattle.rounding.specs.Rounding.{round_away}
use Rattle.buffer.specs.Limits.{valid_rate, valid_shape, duration}
use Rattle.seconds.specs.Seconds.{float_zero, never, dt, block_seconds, block_end}
use Rattle.player.specs.declared.PlayerOptions.{PlayerOptions}
use Rattle.player.specs.Record.{fresh_with}
use Rattle.player.specs.Messages.{clamped_start, clamped_end, clamped, bad_time, on_start, on_stop, on_loop, handled, buffered}
use Rattle.aligned.specs.Aligned.{first_frame, ends_within, aligned_sample, played, next_frame, last_wrap, aligned_position}
use Rattle.player.specs.Block.{idle, start_at, is_aligned, has_ended, turns_over, aligned_plan, bare_plan, ramp_in, ramped_plan, bad_block_time, bad_rate, bad_samples, checked, rendered, written, output}
use Rattle.counting.specs.Counting as counting
use Rattle.claims.specs.Calls.{Call, all_typed, accepts, next, accepted, opening, playing, Clip, Started, clip_in, start_in, stop_in, switch_in, point_in, gathered}
use Rattle.claims.specs.LongRun.{starts_in_time, OnlyBlocks}
use Rattle.ramps.specs.Ramps.{numerator, ramped, counted, stop_number, stopping}
use Rattle.claims.specs.Instances as claimed
use Rattle.claims.specs.Instances.{unramped, rate, looped_calls, plain_calls, longer_calls, previewed_calls}
use Rattle.claims.specs.Longer.{replaced}
use Rattle.cents.specs.Cents.{checked_cents, rendered_cents}
use Rattle.detune.specs.Table.{entries}
use Rattle.detune.specs.Detune.{octaves, above, bad_cents, factor_of}
use Rattle.counted.specs.Beside.{taken}
use Rattle.counted.specs.Instances.{frames, calls_at, two_times, seven_times, Met, Instances}

abbrev own_start : Started
own_start = record { when = float_zero; offset = float_zero; duration = never }

-- a list is met by what its accepted calls hold
met : (options : PlayerOptions) (clip : Clip) (calls : List Call) → clip.rate ≡ rate → T (all_typed calls) → gathered clip_in (opening (taken rate options calls)) ≡ clip ∷ []
    → gathered start_in (opening (taken rate options calls)) ≡ own_start ∷ [] → T (starts_in_time float_zero (playing (taken rate options calls)))
    → length (gathered switch_in (opening (taken rate options calls))) ≤ 1 → gathered stop_in (opening (taken rate options calls)) ≡ []
    → length (gathered stop_in (opening (taken rate options calls))) ≤ 1
    → gathered point_in (opening (taken rate options calls)) ≡ [] → OnlyBlocks clip.samples (playing (taken rate options calls)) → Met options calls
unfolding valid_rate of_bits of_int round lt le eq fits
met options clip calls own typed clips starts time switches none stops points blocks = record {
  single = tt;
  valid = tt;
  typed = typed;
  premises = record {
    clip = clip;
    start = own_start;
    one_clip = clips;
    own_rate = own;
    one_start = starts;
    in_time = time;
    no_offset = tt;
    no_duration = refl;
    few_switches = switches;
    few_stops = stops;
    no_points = points;
    only_blocks = blocks;
  };
  no_stop = none;
}

two_channels : ℕ → Clip
two_channels l = record { channels = 2; frames = l; rate = rate; samples = frames l }

pub instances : Instances
unfolding replaced checked_cents rendered_cents bad_cents factor_of octaves above entries accepted accepts next opening playing handled buffered on_start on_stop on_loop bad_time clamped clamped_start clamped_end fresh_with valid_rate valid_shape duration
    rendered checked bad_block_time bad_rate bad_samples bare_plan ramped_plan ramp_in numerator ramped counted stop_number stopping is_aligned start_at aligned_plan has_ended turns_over output written put table
    first_frame ends_within aligned_sample played next_frame last_wrap aligned_position dt block_seconds block_end idle
    counting.has_ended counting.frame_at counting.sample counting.counted_on counting.report counting.checked counting.rendered counting.output two_channels
    round_away of_bits of_int round sum add mul div rem lt le eq ne neg sub to_unsigned fits
instances = record {
  looped = λ t. record {
    met = met (unramped t) claimed.the_clip looped_calls refl tt refl refl tt (lit≤ tt) refl (lit≤ tt) refl ((refl, refl, refl), ((refl, refl, refl), tt));
    first_is = refl;
    counted_is = refl;
  };
  plain = λ t. record {
    met = met (unramped t) claimed.the_clip plain_calls refl tt refl refl tt (lit≤ tt) refl (lit≤ tt) refl ((refl, refl, refl), ((refl, refl, refl), tt));
    first_is = refl;
    counted_is = refl;
  };
  looped_heard = λ t. refl;
  plain_heard = λ t. refl;
  in_cents = λ t. record {
    met = met (unramped t) claimed.the_clip (replaced (fresh_with rate (unramped t)) longer_calls) refl tt refl refl tt (lit≤ tt) refl (lit≤ tt) refl ((refl, refl, refl), ((refl, refl, refl), tt));
    first_is = refl;
    counted_is = refl;
  };
  previewed = λ t. record {
    met = met (unramped t) claimed.the_clip (replaced (fresh_with rate (unramped t)) previewed_calls) refl tt refl refl tt (lit≤ tt) refl (lit≤ tt) refl ((refl, refl, refl), ((refl, refl, refl), tt));
    first_is = refl;
    counted_is = refl;
  };
  fit_later = λ t. record {
    met =
        met (unramped t) (two_channels 640) (calls_at 640 seven_times) refl tt refl refl tt (lit≤ tt) refl (lit≤ tt) refl
        ((refl, refl, refl), ((refl, refl, refl), ((refl, refl, refl), ((refl, refl, refl), ((refl, refl, refl), ((refl, refl, refl), ((refl, refl, refl), tt)))))));
    first_is = refl;
    counted_is = refl;
  };
  fit_at_once = λ t. record {
    met = met (unramped t) (two_channels 128) (calls_at 128 two_times) refl tt refl refl tt (lit≤ tt) refl (lit≤ tt) refl ((refl, refl, refl), ((refl, refl, refl), tt));
    first_is = refl;
    counted_is = refl;
  };
}
