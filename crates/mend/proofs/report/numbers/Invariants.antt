-- `mend::report::numbers` meets its contract. The invariant: what stands there and the numbers that are left are all of them. Assumes nothing.
use Rattle.std.proofs.Common.{◌≡◌, ◌++◌, string_bytes, drop}
use Rattle.mend.specs.Told.{numbers}
use Rattle.mend.proofs.report.numbers.Given as goal

abbrev pub invariant-loop-number : goal.invariant-loop-number
invariant-loop-number l = string_bytes l.text ++ numbers (drop l.number-index l.list) ≡ numbers l.list
