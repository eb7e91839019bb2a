-- docs/REFERENCE.md, 'Player and messages' and 'Refusals': the control messages and the buffer call. Definitions only.
-- The checks stand in the order of the refusals.
use Rattle.std.specs.Prelude.{Bool, true, not, ◌||◌, cond, ℕ, ltb, eqb, Float, Result, Ok, Err}
use Rattle.std.specs.Float.Ieee.{lt, le}
use Rattle.std.specs.Float.Ieee.Scale.{finite}
use Rattle.seconds.specs.Seconds.{context, in_clip, float_zero}
use Rattle.player.specs.Record.{shape_of, loop_of, fresh, fresh_with, told, given, with_ramp}
use Rattle.ramps.specs.Ramps.{longest, stopping}
use Rattle.ramps.specs.declared.Ramp.{Ramp}
use Rattle.buffer.specs.Limits.{valid_rate, valid_shape, duration}
use Rattle.buffer.specs.declared.refusals.Refusal.TheVariants as refused
use Rattle.player.specs.declared.LoopState.{LoopState}
use Rattle.player.specs.declared.Player.{Player}
use Rattle.player.specs.declared.PlayerOptions.{PlayerOptions}
use Rattle.player.specs.declared.ControlMessage.{ControlMessage}
use Rattle.player.specs.declared.ControlMessage.TheVariants.{Start, Stop, Loop, LoopStart, LoopEnd}
use Rattle.buffer.specs.declared.refusals.Refusal.{Refusal}

-- a player made for an output rate with these options: 2, then 19 of a ramp that is too long
unfoldable pub made_with : Float → PlayerOptions → Result Player Refusal
made_with rate options =
    cond (not (valid_rate rate)) (Err refused.Rate)
    (cond (ltb longest options.ramp) (Err refused.Ramp)
    (Ok (fresh_with rate options)))

-- a player made for an output rate
unfoldable pub made : Float → Result Player Refusal
made rate = cond (valid_rate rate) (Ok (fresh rate)) (Err refused.Rate)

-- ---- loop points, once a buffer stands

-- loop start is clamped to 0..duration
unfoldable pub clamped_start : Float → Float → Float
clamped_start at duration = cond (lt at float_zero) float_zero (cond (lt duration at) duration at)

-- a loop end at or below 0, or above duration, becomes duration
unfoldable pub clamped_end : Float → Float → Float
clamped_end at duration = cond (le at float_zero || lt duration at) duration at

-- the player with another loop
abbrev pub looped : Player → LoopState → Player
looped p loop = told p p.has_start p.start_time p.stop_time p.offset p.duration loop

-- after each message and after the buffer call, if a buffer stands, the loop points are brought into the clip
unfoldable pub clamped : Player → Player
clamped p =
    let seconds = duration p.shape.frames p.shape.rate in
    let loop = p.loop_state in
    cond p.has_buffer (looped p (loop_of loop.is_looping (clamped_start loop.start.0 seconds) (clamped_end loop.end.0 seconds))) p

-- ---- the control messages

-- not finite, or negative: −0 is neither
unfoldable pub bad_time : Float → Bool
bad_time x = not (finite x) || lt x float_zero

-- a start: 9 of its three values, 10 a second one
unfoldable pub on_start : Player → Float → Float → Float → Result Player Refusal
on_start p when offset duration =
    cond (bad_time when || bad_time offset || bad_time duration) (Err refused.Value)
    (cond p.has_start (Err refused.Second)
    (Ok (clamped (told p true (context when) p.stop_time (in_clip offset) (in_clip duration) p.loop_state))))

-- one that comes when the clip has started works out the number of its sample anew (docs/REFERENCE.md, 'Ramps')
unfoldable pub ramp_at_stop : Player → Float → Ramp
ramp_at_stop p when = cond p.render_state.started (stopping p.ramp p.start_time.0 when p.sample_rate) p.ramp

-- a stop: 9, and 11 before a start
unfoldable pub on_stop : Player → Float → Result Player Refusal
on_stop p when =
    cond (bad_time when) (Err refused.Value)
    (cond (not p.has_start) (Err refused.Early)
    (Ok (clamped
    (with_ramp (told p p.has_start p.start_time (context when) p.offset p.duration p.loop_state) (ramp_at_stop p when)))))

-- the loop on or off: never refused
unfoldable pub on_loop : Player → Bool → Result Player Refusal
on_loop p on = Ok (clamped (looped p (loop_of on p.loop_state.start.0 p.loop_state.end.0)))

-- a loop point may be negative, but not infinite or a NaN: 9
unfoldable pub on_loop_start : Player → Float → Result Player Refusal
on_loop_start p at =
    cond (not (finite at)) (Err refused.Value)
    (Ok (clamped (looped p (loop_of p.loop_state.is_looping at p.loop_state.end.0))))

unfoldable pub on_loop_end : Player → Float → Result Player Refusal
on_loop_end p at =
    cond (not (finite at)) (Err refused.Value)
    (Ok (clamped (looped p (loop_of p.loop_state.is_looping p.loop_state.start.0 at))))

-- each message by its case
unfoldable pub handled : Player → ControlMessage → Result Player Refusal
handled p (Start when offset duration) = on_start p when offset duration
handled p (Stop when) = on_stop p when
handled p (Loop on) = on_loop p on
handled p (LoopStart at) = on_loop_start p at
handled p (LoopEnd at) = on_loop_end p at

-- ---- the buffer call: 1, 2, 10 and 12 in this order; `length` is that of the lent samples
unfoldable pub buffered : Player → ℕ → ℕ → Float → ℕ → Result Player Refusal
buffered p channels frames rate length =
    cond (not (valid_shape channels frames length)) (Err refused.Shape)
    (cond (not (valid_rate rate)) (Err refused.Rate)
    (cond p.has_buffer (Err refused.Second)
    (cond (eqb frames 0) (Err refused.Empty)
    (Ok (clamped (given p (shape_of channels frames rate)))))))
