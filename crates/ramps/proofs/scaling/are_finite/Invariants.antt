-- `ramps::scaling::are_finite` meets its contract. The invariant: it tells of the samples so far. Assumes nothing.
use Rattle.std.proofs.Common.{◌≡◌, ◌<◌, ℕ, true, get_or}
use Rattle.ramps.specs.Factors.{is_finite_bits}
use Rattle.ramps.proofs.scaling.are_finite.Given as goal

abbrev pub invariant-loop-bits : goal.invariant-loop-bits
invariant-loop-bits l = l.all ≡ true → (i : ℕ) → i < l.bits-index → is_finite_bits (get_or l.samples i 0) ≡ true
