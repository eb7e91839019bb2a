-- The staircases of `specs/Known.antt`: antt computes each. Assumes nothing.
use mathlib.Core.Path.{refl}
use Rattle.lists.specs.Table.{table, filled}
use Rattle.staircase.specs.Reversals.{moves, changes}
use Rattle.staircase.specs.Staircase.{stair_at, staircase}
use Rattle.staircase.specs.Known.{KnownStaircases}

pub known_staircases : KnownStaircases
unfolding table filled moves changes stair_at staircase
known_staircases = record {
  seven = refl;
  eight = refl;
  part_of_a_step = refl;
  repeated = refl;
  at_120 = refl;
  restarted = refl;
  no_lapse = refl;
  before_it = refl;
  first_one = refl;
  staying = refl;
  highest = refl;
  lowest = refl;
  start = refl;
  threshold = refl;
  no_step = refl;
  step = refl;
  no_trial = refl;
  trials = refl;
}
