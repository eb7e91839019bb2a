-- `fused::fused::jammed` meets its contract: the sticky digit is set where the number shifted right and back differs. Assumes nothing.
-- By hand: with laws named on the function some of its 3 goals are not proved.
use Rattle.std.specs.Int.{from_bool}
use Rattle.std.proofs.Common.{◌≡◌, ℕ, ◌+◌, ◌*◌, ◌/◌, ◌^◌, ◌<◌, ◌≤◌, Bool, not, eqb, sym, ◌∙◌, le_trans, lt_of_lt_of_le, lt_of_le_of_lt, mod-eq_of_lt, mul-le-mul_left, zero-add, div-mul-le_self, arith, pow_mono, lit≤, true, false}
use native.Mathlib.Nat.{div-eq_of_lt}
use mir.Facts.{Fits-of_lt}
use Rattle.fused.specs.Sticky.{jam}
use Rattle.rounding.specs.Sticky.{some}
use Rattle.fused.proofs.Jam.{jam_at, lost}
use Rattle.fused.proofs.fused.jammed.Goals as goal

twice_le : (v n : ℕ) → 1 ≤ n → v / 2 ^ n * 2 ≤ v
twice_le v n h = le_trans (mul-le-mul_left (v / 2 ^ n) (pow_mono {i = 1} h)) (div-mul-le_self v (2 ^ n))

all_lost : (v n : ℕ) → v < 2 ^ 128 → 128 ≤ n → from_bool (not (eqb v 0)) ≡ jam v (2 ^ n)
all_lost v n h g = let l = lt_of_lt_of_le h (pow_mono g) in rw (jam_at, div-eq_of_lt l, mod-eq_of_lt l) (lost 0 v v (zero-add v) ∙ sym (zero-add (some v)))

pub overflow_mul-result : goal.overflow_mul-result
overflow_mul-result c = Fits-of_lt (lt_of_le_of_lt (twice_le c.args.v c.args.n c.requires) c.ranges.v.fits)

pub overflow_add-result : goal.overflow_add-result
overflow_add-result c = rw c.from.ensures (Fits-of_lt (room (c.args.v / 2 ^ c.args.n) _ (bit_le _) (lt_of_le_of_lt (twice_le c.args.v c.args.n c.requires) c.ranges.v.fits)))
  where
    bit_le : (b : Bool) → from_bool b ≤ 1
    bit_le true = lit≤ tt
    bit_le false = lit≤ tt

    room : (q s : ℕ) → s ≤ 1 → q * 2 < 2 ^ 128 → q * 2 + s < 2 ^ 128
    room q s a b = omega arith

pub returns-else-n-lt128 : goal.returns-else-n-lt128
returns-else-n-lt128 c = c.from-else-n-lt128.ensures ∙ all_lost c.args.v c.args.n c.ranges.v.fits c.if-n-lt128.false
