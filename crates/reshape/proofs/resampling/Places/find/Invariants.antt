-- `reshape::resampling::Places::find` meets its contract. The invariant: the first i entries of each array are filled. Assumes nothing.
use Rattle.std.proofs.Common.{◌≡◌, ◌+◌}
use Rattle.lists.specs.Table.{filled}
use Rattle.reshape.specs.Places.{place_frame, place_fraction}
use Rattle.reshape.proofs.resampling.Places.find.Given as goal

abbrev pub invariant-loop-i : goal.invariant-loop-i
invariant-loop-i l =
    (l.self.frame ≡ filled l.i (λ k. place_frame l.rates.source l.rates.target l.last (l.first + k)) l.initial.self.frame)
    × (l.self.fraction ≡ filled l.i (λ k. place_fraction l.rates.source l.rates.target l.last (l.first + k)) l.initial.self.fraction)
