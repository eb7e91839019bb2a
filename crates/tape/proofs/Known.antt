-- The tapes of `specs/Known.antt`: antt computes each. Assumes nothing.
use mathlib.Core.Path.{refl}
use Rattle.tape.specs.Tape.{head_at, stepped, stepped_all, has_block, stays_off}
use Rattle.tape.specs.Known.{blocks, KnownTapes}

pub known_tapes : KnownTapes
unfolding blocks head_at stepped stepped_all has_block stays_off
known_tapes = record {
  within = refl;
  wrapped = refl;
  kept = refl;
  started_over = refl;
  exact_fit = refl;
  next = refl;
  short = refl;
  between = refl;
  elsewhere = refl;
  at_last = refl;
  off_between = refl;
  looped_before = refl;
}
