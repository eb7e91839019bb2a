-- Hex digits, read one at a time.
use Rattle.std.proofs.Common.{◌≡◌, List, ℕ, ◌+◌, ◌*◌, ◌^◌, ◌<◌, ◌≤◌, length, slice_index, drop, drop-cons, add-one, arith, Some, None}
use Rattle.std.proofs.Math.Pow.{pow_mono, pow-add}
use Rattle.std.proofs.lemmas.Grind.{common_steps}
use Rattle.commands.specs.Digits.{hex_digit, hex_from}

-- the first digit, and the others read on
pub hex_more : (v d i : ℕ) (l : List ℕ) → i < length l → hex_digit (slice_index l i) ≡ Some d → hex_from v (drop i l) ≡ hex_from (16 * v + d) (drop (i + 1) l)
unfolding hex_from
hex_more v d i l h e = rw (drop-cons l i 0 h, e, add-one i)

-- a byte that is no digit
pub hex_stops : (v i : ℕ) (l : List ℕ) → i < length l → hex_digit (slice_index l i) ≡ None → hex_from v (drop i l) ≡ None
unfolding hex_from
hex_stops v i l h e = rw (drop-cons l i 0 h, e)

pub hex_done : (v i : ℕ) (l : List ℕ) → length l ≤ i → hex_from v (drop i l) ≡ Some v
unfolding hex_from
hex_done v i l h = grind (arith, common_steps)

pub digit_small : (b d : ℕ) → hex_digit b ≡ Some d → d < 16
unfolding hex_digit
digit_small b d h = grind arith

-- one more digit of a number
pub grows : (v d i : ℕ) → v < 2 ^ (4 * i) → d < 16 → 16 * v + d < 2 ^ (4 * (i + 1))
grows v d i small h =
    let e : 4 * (i + 1) ≡ 4 * i + 4 = omega arith in
    let p : 2 ^ (4 * i + 4) ≡ 2 ^ (4 * i) * 16 = pow-add 2 (4 * i) 4 in
    rw e (omega (arith, p))

-- what has fewer than 16 digits has room for one more
pub room : (v i : ℕ) → v < 2 ^ (4 * i) → i < 16 → v < 2 ^ 60
room v i small few = omega (arith, pow_mono {i = 4 * i} {j = 60} (omega arith))
