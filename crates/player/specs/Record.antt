-- docs/REFERENCE.md, 'Player and messages': the player's record, a fresh one, and what each kind of call may change of
-- it. The tolerances and the ramp's length are those that the player was made with: no call changes them. Definitions only.
use Rattle.std.specs.Prelude.{Bool, true, false, ℕ, Float}
use Rattle.std.specs.Float.{binary32}
use Rattle.std.specs.Float.Ieee.{of_bits}
use Rattle.seconds.specs.Seconds.{context, in_clip, never, float_zero}
use Rattle.seconds.specs.declared.ContextSeconds.{ContextSeconds}
use Rattle.seconds.specs.declared.BufferSeconds.{BufferSeconds}
use Rattle.player.specs.declared.LoopState.{LoopState}
use Rattle.player.specs.declared.RenderState.{RenderState}
use Rattle.buffer.specs.declared.Shape.{Shape}
use Rattle.tolerances.specs.Tolerances.{defaults}
use Rattle.ramps.specs.Ramps as ramps
use Rattle.ramps.specs.declared.Ramp.{Ramp}
use Rattle.player.specs.declared.PlayerOptions.{PlayerOptions}
use Rattle.player.specs.declared.Player.{Player}

abbrev pub shape_of : ℕ → ℕ → Float → Shape
shape_of channels frames rate = record { channels = channels; frames = frames; rate = rate }

abbrev pub loop_of : Bool → Float → Float → LoopState
loop_of on start end = record { is_looping = on; start = in_clip start; end = in_clip end }

abbrev pub render_of : Float → Bool → Bool → Float → Bool → Bool → RenderState
render_of position started entered elapsed aligned ended = record {
  buffer_time = in_clip position;
  started = started;
  entered_loop = entered;
  buffer_time_elapsed = in_clip elapsed;
  is_aligned = aligned;
  ended = ended;
}

-- what a player is made with, beside its output rate, where nothing else is said
abbrev pub default_options : PlayerOptions
default_options = record { tolerances = defaults; ramp = 0 }

-- a player for an output rate, with these options, that has received nothing yet
unfoldable pub fresh_with : Float → PlayerOptions → Player
fresh_with rate options = record {
  sample_rate = rate;
  start_time = context never;
  stop_time = context never;
  offset = in_clip float_zero;
  duration = in_clip never;
  loop_state = loop_of false float_zero float_zero;
  render_state = render_of float_zero false false float_zero false false;
  has_start = false;
  has_buffer = false;
  shape = shape_of 0 0 (of_bits binary32 0);
  has_block = false;
  block_time = context float_zero;
  tolerances = options.tolerances;
  ramp = ramps.fresh options.ramp;
}

-- the one made for a rate alone has the defaults
unfoldable pub fresh : Float → Player
fresh rate = fresh_with rate default_options

-- what a message may change: the mark that a start was received, the times and the loop
abbrev pub told : Player → Bool → ContextSeconds → ContextSeconds → BufferSeconds → BufferSeconds → LoopState → Player
told p has_start start stop offset duration loop = record {
  sample_rate = p.sample_rate;
  start_time = start;
  stop_time = stop;
  offset = offset;
  duration = duration;
  loop_state = loop;
  render_state = p.render_state;
  has_start = has_start;
  has_buffer = p.has_buffer;
  shape = p.shape;
  has_block = p.has_block;
  block_time = p.block_time;
  tolerances = p.tolerances;
  ramp = p.ramp;
}

-- what the buffer call changes, before the loop points are clamped
abbrev pub given : Player → Shape → Player
given p shape = record {
  sample_rate = p.sample_rate;
  start_time = p.start_time;
  stop_time = p.stop_time;
  offset = p.offset;
  duration = p.duration;
  loop_state = p.loop_state;
  render_state = p.render_state;
  has_start = p.has_start;
  has_buffer = true;
  shape = shape;
  has_block = p.has_block;
  block_time = p.block_time;
  tolerances = p.tolerances;
  ramp = p.ramp;
}

-- what a block may change: the start time, the offset, what is rendered, and the last accepted block's time
abbrev pub moved : Player → Float → Float → RenderState → Float → Player
moved p start offset render time = record {
  sample_rate = p.sample_rate;
  start_time = context start;
  stop_time = p.stop_time;
  offset = in_clip offset;
  duration = p.duration;
  loop_state = p.loop_state;
  render_state = render;
  has_start = p.has_start;
  has_buffer = p.has_buffer;
  shape = p.shape;
  has_block = true;
  block_time = context time;
  tolerances = p.tolerances;
  ramp = p.ramp;
}

-- with another ramp: what a stop and a block may change besides
abbrev pub with_ramp : Player → Ramp → Player
with_ramp p ramp = record p { ramp = ramp }
