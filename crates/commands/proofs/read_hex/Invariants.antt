-- To read on from here is to read all.
use Rattle.std.proofs.Common.{◌≡◌, ◌*◌, ◌^◌, ◌<◌, drop}
use Rattle.commands.specs.Digits.{hex_from}
use Rattle.commands.proofs.read_hex.Given as goal

abbrev pub invariant-loop-b : goal.invariant-loop-b
invariant-loop-b l = (l.number < 2 ^ (4 * l.b-index)) × (hex_from l.number (drop l.b-index l.digits) ≡ hex_from 0 l.digits)
