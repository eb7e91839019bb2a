-- docs/REFERENCE.md, 'Output block': what a block answers, by the player that it leaves. Definitions only.
use Rattle.std.specs.Prelude.{Bool, ℕ}
use Rattle.player.specs.declared.Player.{Player}
use Rattle.player.specs.declared.BlockReport.{BlockReport}

abbrev pub report_from : Player → Bool → ℕ → BlockReport
report_from p keep channels = record {
  player = p;
  keep_alive = keep;
  ended = p.render_state.ended;
  channels = channels;
  position = p.render_state.buffer_time;
}
