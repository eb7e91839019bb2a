-- `player_c::player_blocks` meets its contract. The invariant: player and output are those after the blocks that were played. Assumes nothing.
use Rattle.player_c.proofs.Turns.{After}
use Rattle.player_c.proofs.player_blocks.Given as goal

abbrev pub invariant-loop-n : goal.invariant-loop-n
invariant-loop-n l = After l.initial.p l.initial.out l.samples l.rate l.n l.p l.out
