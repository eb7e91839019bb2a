-- The limits of a block's time and factor, as the code writes them. Assumes nothing.
use mathlib.Core.Path.{◌≡◌, refl}
use mathlib.Core.Bool.{false}
use lib.IntN.{pos, negsuc}
use lib.Ieee.{binary64, fin, of_bits}
use Rattle.player.specs.Block.{latest}

pub latest_bits : of_bits binary64 4742290407621132288 ≡ latest
unfolding of_bits
latest_bits = refl

pub slowest_bits : of_bits binary64 4318952042648305664 ≡ fin false 1 (negsuc 63)
unfolding of_bits
slowest_bits = refl

pub fastest_bits : of_bits binary64 4895412794951729152 ≡ fin false 1 (pos 64)
unfolding of_bits
fastest_bits = refl
