-- What can be followed by hand: antt computes each. Assumes nothing.
use mathlib.Core.Path.{◌≡◌, refl}
use mathlib.Core.Bool.{true, false, false≢true, true≢false}
use mathlib.Core.List.{[], ◌∷◌, cons≢nil}
use Prim.Native.Nat.{ℕ, ◌*◌, ◌^◌, ◌<◌, ◌≤◌}
use native.Mathlib.Omega.{arith}
use lib.Dec.{T, ltb, ltb→lt, lit≤}
use lib.Ieee.{of_bits, of_int, round, sum, add, mul, div, rem, lt, le, eq, ne, neg, sub, to_unsigned}
use Rattle.std.specs.Prelude.{pos, replicate}
use Rattle.lists.specs.Table.{table}
use Rattle.lists.specs.Parts.{put}
use Rattle.rounding.specs.Rounding.{round_away, magnitude}
use Rattle.rounding.specs.Near.{larger, near, near_zero, float_eq}
use Rattle.buffer.specs.Limits.{valid_rate, valid_shape, duration}
use Rattle.seconds.specs.Seconds.{float_zero, one, dt, block_seconds, block_end}
use Rattle.detune.specs.Table.{entries}
use Rattle.detune.specs.Detune.{octaves, above, factor_of}
use Rattle.player.specs.Record.{fresh_with}
use Rattle.tolerances.specs.declared.Tolerances.{Tolerances}
use Rattle.player.specs.declared.PlayerOptions.{PlayerOptions}
use Rattle.ramps.specs.Ramps.{numerator, ramped, counted, stop_number, stopping}
use Rattle.player.specs.Messages.{clamped_start, clamped_end, clamped, bad_time, on_start, ramp_at_stop, on_stop, on_loop, handled, buffered}
use Rattle.aligned.specs.Aligned.{first_frame, ends_within, aligned_sample, played, next_frame, last_wrap, aligned_position}
use Rattle.player.specs.Block.{idle, start_at, is_aligned, has_ended, turns_over, aligned_plan, bare_plan, ramp_in, ramped_plan, bad_block_time, bad_rate, bad_samples, checked, rendered, written, output}
use Rattle.reshape.specs.Known.{single, mono}
use Rattle.reshape.specs.Converting.{playhead}
use Rattle.claims.specs.GivenNumbers as given
use Rattle.claims.specs.Calls.{accepts, next, accepted, opening, playing, block, is_ended}
use Rattle.claims.specs.LongRun.{frame_bits, exact_frames, Stands}
use Rattle.claims.specs.LoopSwitch.{SwitchPremises}
use Rattle.claims.specs.Longer.{as_call}
use Rattle.claims.specs.Conversions.{SameInstant}
use Rattle.claims.specs.Instances.{rate, frames, tick, looped_calls, plain_calls, stopped_calls, cents_at, all_heard, said, unramped}
use Rattle.claims.specs.ByHand.{ByHand, after_calls, one_looped, five_plain, two, five_quarters, half}

-- ---- the bits of two blocks
looped_bits : (t : Tolerances) → all_heard (playing (accepted (fresh_with rate (unramped t)) looped_calls)) ≡ said true 0 ∷ said true 1 ∷ []
unfolding ramp_in ramp_at_stop numerator ramped counted stop_number stopping accepted accepts next opening playing handled buffered on_start on_stop on_loop bad_time clamped clamped_start clamped_end fresh_with valid_rate valid_shape duration
    rendered checked bad_block_time bad_rate bad_samples bare_plan ramped_plan is_aligned start_at aligned_plan has_ended turns_over output written put table
    first_frame ends_within aligned_sample played next_frame last_wrap aligned_position dt block_seconds block_end idle frame_bits exact_frames
    round_away of_bits of_int round sum add mul div rem lt le eq ne neg sub to_unsigned
looped_bits t = refl

plain_bits : (t : Tolerances) → all_heard (playing (accepted (fresh_with rate (unramped t)) plain_calls)) ≡ said false 0 ∷ said false 1 ∷ []
unfolding ramp_in ramp_at_stop numerator ramped counted stop_number stopping accepted accepts next opening playing handled buffered on_start on_stop on_loop bad_time clamped clamped_start clamped_end fresh_with valid_rate valid_shape duration
    rendered checked bad_block_time bad_rate bad_samples bare_plan ramped_plan is_aligned start_at aligned_plan has_ended turns_over output written put table
    first_frame ends_within aligned_sample played next_frame last_wrap aligned_position dt block_seconds block_end idle frame_bits exact_frames
    round_away of_bits of_int round sum add mul div rem lt le eq ne neg sub to_unsigned
plain_bits t = refl

-- ---- where the player stands
over : {m n : ℕ} → T (ltb n m) → m ≤ n → ⊥
over {m} {n} t h = let less : n < m = ltb→lt n m t in omega arith

looped_stands : (options : PlayerOptions) → Stands rate true 128 1 (after_calls options one_looped)
unfolding accepted accepts next opening playing handled buffered on_start on_stop on_loop bad_time clamped clamped_start clamped_end fresh_with valid_rate valid_shape duration
    rendered checked bad_block_time bad_rate bad_samples bare_plan ramped_plan is_aligned start_at aligned_plan has_ended turns_over output written put table
    first_frame ends_within aligned_sample played next_frame last_wrap aligned_position dt block_seconds block_end idle frame_bits exact_frames
    round_away of_bits of_int round sum add mul div rem lt le eq ne neg sub to_unsigned
looped_stands options = record {
  never_ends = λ on. refl;
  not_before = λ off. absurd (true≢false off);
  has_ended = λ off. absurd (true≢false off);
  position = λ goes. record {
    r = 48000 * 2 ^ 149;
    t = 6148914691236517 * 2 ^ 1013;
    per_second = (refl, refl);
    reported = (refl, refl);
    at_most = lit≤ tt;
    at_least = lit≤ tt;
  };
}

plain_stands : (options : PlayerOptions) → Stands rate false 640 5 (after_calls options five_plain)
unfolding accepted accepts next opening playing handled buffered on_start on_stop on_loop bad_time clamped clamped_start clamped_end fresh_with valid_rate valid_shape duration
    rendered checked bad_block_time bad_rate bad_samples bare_plan ramped_plan is_aligned start_at aligned_plan has_ended turns_over output written put table
    first_frame ends_within aligned_sample played next_frame last_wrap aligned_position dt block_seconds block_end idle frame_bits exact_frames
    round_away of_bits of_int round sum add mul div rem lt le eq ne neg sub to_unsigned
plain_stands options = record {
  never_ends = λ on. absurd (false≢true on);
  not_before = λ off few. refl;
  has_ended = λ off many. absurd (over tt many);
  position = λ goes. record {
    r = 48000 * 2 ^ 149;
    t = 3843071682022823 * 2 ^ 1016;
    per_second = (refl, refl);
    reported = (refl, refl);
    at_most = lit≤ tt;
    at_least = lit≤ tt;
  };
}

plain_goes_on : (options : PlayerOptions) → is_ended (after_calls options five_plain) ≡ false
unfolding accepted accepts next opening playing handled buffered on_start on_stop on_loop bad_time clamped clamped_start clamped_end fresh_with valid_rate valid_shape duration
    rendered checked bad_block_time bad_rate bad_samples bare_plan ramped_plan is_aligned start_at aligned_plan has_ended turns_over output written put table
    first_frame ends_within aligned_sample played next_frame last_wrap aligned_position dt block_seconds block_end idle frame_bits exact_frames
    round_away of_bits of_int round sum add mul div rem lt le eq ne neg sub to_unsigned
plain_goes_on options = refl

-- ---- the loop switch
no_stop : (options : PlayerOptions) → SwitchPremises rate (accepted (fresh_with rate options) stopped_calls) → ⊥
unfolding accepted accepts next opening playing handled buffered on_start on_stop on_loop bad_time clamped clamped_start clamped_end fresh_with valid_rate valid_shape duration
    rendered checked bad_block_time bad_rate bad_samples bare_plan ramped_plan is_aligned start_at aligned_plan has_ended turns_over output written put table
    first_frame ends_within aligned_sample played next_frame last_wrap aligned_position dt block_seconds block_end idle frame_bits exact_frames
    round_away of_bits of_int round sum add mul div rem lt le eq ne neg sub to_unsigned
no_stop options h = cons≢nil h.no_stop

-- ---- a block in cents, and a conversion
octave : as_call (cents_at tick (pos 1200)) ≡ block (replicate 4096 7) frames tick one two
unfolding factor_of octaves above entries of_bits of_int round mul
octave = refl

instant : SameInstant (single 44100) (single 48000) 1
unfolding playhead of_bits of_int round mul div
instant = record {
  p = 4137682157646643 * 2 ^ 1022;
  s = 44100 * 2 ^ 149;
  t = 48000 * 2 ^ 149;
  position = (refl, refl);
  source_rate = (refl, refl);
  target_rate = (refl, refl);
  rounded = (lit≤ tt, lit≤ tt);
  frames = (lit≤ tt, lit≤ tt);
}

-- ---- the given numbers
near_is : given.is_near half float_zero float_zero one five_quarters ≡ true
unfolding near larger magnitude of_bits of_int round sum add mul neg sub lt le eq
near_is = refl

near_not : given.is_near float_zero half half one five_quarters ≡ false
unfolding near larger magnitude of_bits of_int round sum add mul neg sub lt le eq
near_not = refl

zero_is : given.is_near_zero float_zero one float_zero half ≡ true
unfolding near_zero magnitude of_bits round neg lt
zero_is = refl

zero_not : given.is_near_zero one float_zero one half ≡ false
unfolding near_zero magnitude of_bits round neg lt
zero_not = refl

relabels_is : given.relabels float_zero float_zero one (mono 1 48000) (single 48001) ≡ true
unfolding given.relabels float_eq magnitude of_bits of_int round sum add neg sub lt le eq
relabels_is = refl

relabels_not : given.relabels one one float_zero (mono 1 48000) (single 48001) ≡ false
unfolding given.relabels float_eq magnitude of_bits of_int round sum add neg sub lt le eq
relabels_not = refl

pub by_hand : ByHand
by_hand = record {
  looped_bits = looped_bits;
  plain_bits = plain_bits;
  looped_stands = looped_stands;
  plain_stands = plain_stands;
  plain_goes_on = plain_goes_on;
  no_stop = no_stop;
  octave = octave;
  instant = instant;
  near = near_is;
  not_near = near_not;
  near_zero = zero_is;
  not_near_zero = zero_not;
  relabels = relabels_is;
  converts = relabels_not;
}
