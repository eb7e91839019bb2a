-- `session::running::run` meets its contract. The invariant: what was read was taken. Assumes nothing.
use Rattle.std.proofs.Common.{◌≡◌, ℕ, List, length, replicate}
use Rattle.std.specs.Io.KnownBytes.{Consumes}
use Rattle.session.specs.Feeding.{run, run_of}
use Rattle.session.specs.Transcript.{no_words}
use Rattle.session.specs.Running.{Ran}
use Rattle.session.proofs.running.run.Given as goal

abbrev pub invariant-loop : goal.invariant-loop
invariant-loop g l =
    (length l.bytes ≡ 65536) × (length l.out ≡ 600000)
    × ((done : List ℕ) × Consumes (g.R.Read.remaining l.initial.input) (g.R.Read.remaining l.input) done
    × Ran l.samples (run l.initial.state.session (replicate 64 0) 0 no_words) done (g.W.Write.contents l.initial.output) (g.W.Write.contents l.output)
    (run_of l.state l.line l.words))
