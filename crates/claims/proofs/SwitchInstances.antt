-- The lists of `specs/SwitchInstances.antt` that meet the premises: antt computes each. Assumes nothing.
use mathlib.Core.Path.{◌≡◌, refl}
use mathlib.Core.List.{List, [], ◌∷◌}
use Prim.Native.Nat.{ℕ}
use lib.Dec.{T}
use lib.ListN.{length}
use lib.Ieee.{of_bits, of_int, round, sum, add, mul, div, rem, lt, le, eq, ne, fits, neg, sub, to_unsigned}
use Rattle.rounding.specs.Rounding.{round_away}
use Rattle.buffer.specs.Limits.{valid_rate, valid_shape, duration}
use Rattle.seconds.specs.Seconds.{float_zero, never, dt, block_seconds, block_end}
use Rattle.player.specs.declared.PlayerOptions.{PlayerOptions}
use Rattle.player.specs.Record.{fresh_with}
use Rattle.player.specs.Messages.{clamped_start, clamped_end, clamped, bad_time, on_start, on_stop, on_loop, handled, buffered}
use Rattle.aligned.specs.Aligned.{first_frame, ends_within, played, next_frame, last_wrap, aligned_position}
use Rattle.sub_sample.specs.SubSample.{head_at}
use Rattle.player.specs.Block.{idle, start_at, is_aligned, has_ended, turns_over, aligned_plan, sub_sample_plan, settings, first_head, bare_plan, ramped_plan, bad_block_time, bad_rate, bad_samples, checked, rendered}
use Rattle.tape.specs.Tape as tape
use Rattle.tape.specs.Tape.{Tape, stepped, stepped_all, has_block, stays_off}
use Rattle.claims.specs.Calls.{Call, all_typed, accepts, next, accepted, opening, playing, Clip, Started, clip_in, start_in, stop_in, point_in, gathered}
use Rattle.claims.specs.LongRun.{starts_in_time}
use Rattle.claims.specs.LoopSwitch.{step_in, OnlySteps, tape_after}
use Rattle.claims.specs.Instances.{rate}
use Rattle.claims.specs.SwitchInstances.{frames, within_calls, wrapped_calls, fitting_calls, ended_calls, many_calls, last_calls, MetSwitch, SwitchInstances}

abbrev own_clip : ℕ → Clip
own_clip l = record { channels = 1; frames = l; rate = rate; samples = frames l }

abbrev own_start : Started
own_start = record { when = float_zero; offset = float_zero; duration = never }

-- a list is met by what its accepted calls hold
met : (options : PlayerOptions) (l : ℕ) (calls : List Call) (count : ℕ) (t : Tape) → T (all_typed calls) → gathered clip_in (opening (accepted (fresh_with rate options) calls)) ≡ own_clip l ∷ []
    → gathered start_in (opening (accepted (fresh_with rate options) calls)) ≡ own_start ∷ [] → T (starts_in_time float_zero (playing (accepted (fresh_with rate options) calls)))
    → gathered stop_in (opening (accepted (fresh_with rate options) calls)) ≡ [] → gathered point_in (opening (accepted (fresh_with rate options) calls)) ≡ []
    → OnlySteps (frames l) (playing (accepted (fresh_with rate options) calls)) → T (stays_off 128 l tape.fresh (gathered step_in (accepted (fresh_with rate options) calls)))
    → length (accepted (fresh_with rate options) calls) ≡ count → tape_after l (accepted (fresh_with rate options) calls) ≡ t → MetSwitch options l calls count t
unfolding valid_rate of_bits of_int round lt le eq fits
met options l calls count t typed clips starts time stops points turns off size ends = record {
  single = tt;
  valid = tt;
  typed = typed;
  premises = record {
    clip = own_clip l;
    start = own_start;
    one_clip = clips;
    own_rate = refl;
    one_start = starts;
    in_time = time;
    no_offset = tt;
    no_duration = refl;
    no_stop = stops;
    no_points = points;
    only_steps = turns;
    stays_off = off;
  };
  count_is = size;
  tape_is = ends;
}

pub switch_instances : SwitchInstances
unfolding accepted accepts next opening playing handled buffered on_start on_stop on_loop bad_time clamped clamped_start clamped_end fresh_with valid_rate valid_shape duration
    rendered checked bad_block_time bad_rate bad_samples bare_plan ramped_plan is_aligned start_at aligned_plan sub_sample_plan settings first_head head_at has_ended turns_over first_frame
    ends_within played next_frame last_wrap aligned_position dt block_seconds block_end idle tape.head_at stepped stepped_all has_block stays_off
    round_away of_bits of_int round sum add mul div rem lt le eq ne neg sub to_unsigned fits
switch_instances = record {
  within = λ options.
      met options 600 within_calls 10 _ tt refl refl tt refl refl
      ((refl, refl, refl), (tt, ((refl, refl, refl), (tt, ((refl, refl, refl), (tt, ((refl, refl, refl), tt))))))) tt refl refl;
  wrapped = λ options. met options 192 wrapped_calls 8 _ tt refl refl tt refl refl ((refl, refl, refl), ((refl, refl, refl), (tt, ((refl, refl, refl), ((refl, refl, refl), tt))))) tt refl refl;
  fitting = λ options. met options 128 fitting_calls 5 _ tt refl refl tt refl refl ((refl, refl, refl), (tt, ((refl, refl, refl), tt))) tt refl refl;
  after_end = λ options. met options 100 ended_calls 7 _ tt refl refl tt refl refl ((refl, refl, refl), (tt, ((refl, refl, refl), (tt, ((refl, refl, refl), tt))))) tt refl refl;
  many = λ options. met options 128 many_calls 15 _ tt refl refl tt refl refl ((refl, refl, refl), (tt, (tt, ((refl, refl, refl), (tt, (tt, ((refl, refl, refl), (tt, (tt, ((refl, refl, refl), tt)))))))))) tt refl refl;
  at_last = λ options. met options 128 last_calls 6 _ tt refl refl tt refl refl ((refl, refl, refl), (tt, (tt, (tt, tt)))) tt refl refl;
}
