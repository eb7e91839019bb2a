-- What a call on lent memory answers, and what it leaves there, by what the call by value answers; and the answer of the factor.
-- Definitions only.
-- A refused call leaves the player as it was, and answers its number alone (docs/REFERENCE.md, 'Refusals').
use Rattle.std.specs.Prelude.{ℕ, false, Float, Result, Ok, Err}
use Rattle.std.specs.Float.{binary64}
use Rattle.std.specs.Float.Ieee.{of_bits}
use Rattle.buffer.specs.Refusals.{number}
use Rattle.player.specs.declared.BlockReport.{BlockReport}
use Rattle.buffer.specs.declared.refusals.Refusal.{Refusal}
use Rattle.player.specs.declared.Player.{Player}
use Rattle.seconds.specs.Seconds.{in_clip, float_zero}
use Rattle.lent.specs.declared.Told.{Told}
use Rattle.lent.specs.declared.Blocked.{Blocked}
use Rattle.lent.specs.declared.Factored.{Factored}

-- the refusal's number, 0 for none
abbrev pub refusal_for : {A : Type 0} → Result A Refusal → ℕ
refusal_for (Ok values) = 0
refusal_for (Err refused) = number refused

-- what a call leaves in a place that held `old`: what it made; a refused call leaves the old
abbrev pub left_for : {A : Type 0} → A → Result A Refusal → A
left_for old (Ok made) = made
left_for old (Err refused) = old

-- a message or a buffer call: the player that it leaves, and the refusal's number, 0 for none
abbrev pub after_call : Player → Result Player Refusal → Told
after_call p answer = record { player = left_for p answer; refusal = refusal_for answer }

-- a block: the player; keep-alive, ended, the answered channels and the position, or the refusal's number beside zeros
abbrev pub after_block : Player → Result BlockReport Refusal → Blocked
after_block p (Ok r) = record {
  player = r.player;
  answer = record { position = r.position; channels = r.channels; refusal = 0; keep_alive = r.keep_alive; ended = r.ended };
}
after_block p (Err refused) = record {
  player = p;
  answer = record { position = in_clip float_zero; channels = 0; refusal = number refused; keep_alive = false; ended = false };
}

-- the factor of whole cents; or the refusal's number beside zero, a factor that no block accepts (`bad_rate`)
abbrev pub factor_for : Result Float Refusal → Factored
factor_for (Ok factor) = record { factor = factor; refusal = 0 }
factor_for (Err refused) = record { factor = of_bits binary64 0; refusal = number refused }

-- p with the start time, the offset, what is rendered, the last accepted block's time and the ramp of q
abbrev pub moved_to : Player → Player → Player
moved_to p q = record {
  sample_rate = p.sample_rate;
  start_time = q.start_time;
  stop_time = p.stop_time;
  offset = q.offset;
  duration = p.duration;
  loop_state = p.loop_state;
  render_state = q.render_state;
  has_start = p.has_start;
  has_buffer = p.has_buffer;
  shape = p.shape;
  has_block = q.has_block;
  block_time = q.block_time;
  tolerances = p.tolerances;
  ramp = q.ramp;
}
