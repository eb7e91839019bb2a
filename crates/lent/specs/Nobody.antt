-- The player of a refused rate, and that it never plays (docs/REFERENCE.md, 'Refusals'), as one claim about the definitions: it holds a
-- buffer of no channels, every call leaves it so, and every block of such a player is refused.
use Rattle.std.specs.Prelude.{◌≡◌, true, false, ℕ, ◌≤◌, ℤ, Float, Result}
use Rattle.std.specs.Float.{binary32}
use Rattle.std.specs.Float.Ieee.{of_bits}
use Rattle.buffer.specs.declared.Shape.{Shape}
use Rattle.seconds.specs.Seconds.{context, in_clip, float_zero}
use Rattle.tolerances.specs.Tolerances.{defaults}
use Rattle.ramps.specs.Ramps as ramps
use Rattle.player.specs.Record.{shape_of, loop_of, render_of}
use Rattle.player.specs.Messages.{handled, buffered}
use Rattle.player.specs.Block.{rendered}
use Rattle.cents.specs.Cents.{rendered_cents}
use Rattle.player.specs.declared.Player.{Player}
use Rattle.player.specs.declared.BlockReport.{BlockReport}
use Rattle.player.specs.declared.ControlMessage.{ControlMessage}
use Rattle.buffer.specs.declared.refusals.Refusal.{Refusal}
use Rattle.lent.specs.Lent.{after_call, after_block}

-- no shape
abbrev pub no_shape : Shape
no_shape = shape_of 0 0 (of_bits binary32 0)

-- The player that a refused rate is answered with: ended, marked as started and as holding a buffer of no channels.
-- So a start, the buffer call and every block of it are refused.
abbrev pub nobody : Player
nobody = record {
  sample_rate = of_bits binary32 0;
  start_time = context float_zero;
  stop_time = context float_zero;
  offset = in_clip float_zero;
  duration = in_clip float_zero;
  loop_state = loop_of false float_zero float_zero;
  render_state = render_of float_zero false false float_zero false true;
  has_start = true;
  has_buffer = true;
  shape = no_shape;
  has_block = false;
  block_time = context float_zero;
  tolerances = defaults;
  ramp = ramps.fresh 0;
}

-- it holds a buffer of no channels
abbrev pub Mute : Player → Type 0
Mute p = (p.has_buffer ≡ true) × (p.shape.channels ≡ 0)

abbrev pub StaysMute : Type 0
StaysMute =
    ((p : Player) (m : ControlMessage) → Mute p → Mute (after_call p (handled p m)).player)
    × ((p : Player) (channels frames : ℕ) (rate : Float) (length : ℕ)
    → Mute p → Mute (after_call p (buffered p channels frames rate length)).player)

-- a refused block: some number, and the same player
abbrev pub Refuses : Player → Result BlockReport Refusal → Type 0
Refuses p block = (1 ≤ (after_block p block).answer.refusal) × ((after_block p block).player ≡ p)

abbrev pub IsRefused : Type 0
IsRefused =
    ((p : Player) (m n : ℕ) (time rate factor : Float) → Mute p → Refuses p (rendered 128 p m n time rate factor))
    × ((p : Player) (m n : ℕ) (time rate : Float) (cents : ℤ) → Mute p → Refuses p (rendered_cents 128 p m n time rate cents))

abbrev pub NobodyPlays : Type 0
NobodyPlays = Mute nobody × StaysMute × IsRefused
