-- `clip::reading::offsets_match` meets its contract. The invariant: the offsets of the first c channels are right. Assumes nothing.
use mathlib.Core.Path.{◌≡◌}
use mathlib.Core.Bool.{true}
use lib.Dec.{eqb}
use Rattle.clip.specs.Reading.{each, number_at}
use Prim.Native.Nat.{◌+◌, ◌*◌}
use Rattle.clip.proofs.reading.offsets_match.Given as goal

abbrev pub invariant-loop-c : goal.invariant-loop-c
invariant-loop-c l = (each l.c (λ k. eqb (number_at 4 l.file (l.fields + 4 * k)) (l.fields + 4 * l.channels + 4 * l.frames * k)) ≡ true)
