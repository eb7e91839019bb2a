-- `fused::fused::fused` meets its contract: `sum_jam`, in the window of `proofs/Align.antt`. Assumes nothing.
-- By hand: with laws named on the function some of its 4 goals are not proved.
use Rattle.std.proofs.Common.{◌≡◌, ℕ, ◌+◌, ◌*◌, ◌^◌, ◌<◌, ◌≤◌, Bool, ◌⊎◌, sym, ap, ◌∙◌, inl, inr, le_trans, le_of_eq, lt_of_le_of_lt, le_of_lt, mul-le-mul_left, mul-lt-mul_of_pos_right, mul-le-mul, mul-pos, one-mul, mul-one, arith, lit≤, pow_pos}
use lib.Ieee.{binary64, sum, to_bits}
use Rattle.rounding.specs.Fields.{field, digits, place, Full}
use Rattle.fused.specs.Sticky.{jam, Window}
use Rattle.fused.proofs.Align.{room, jam_room, x_below, y_below, j_low, j_high, one_whole, all_sound}
use Rattle.fused.proofs.Jam.{jam_some, sum_jam}
use Rattle.rounding.proofs.Read.{digits_lt, digits_full}
use Rattle.fused.proofs.fused.fused.Goals as goal

place_le : (b : ℕ) → field binary64 b < 2047 → place binary64 b ≤ 2045
unfolding place
place_le b h = omega arith

full_product : (k d l e : ℕ) → 0 < d → 0 < e → Full (2 ^ 52) k d → Full (2 ^ 52) l e → (k + l ≡ 0) ⊎ (2 ^ 52 ≤ d * e)
full_product k d l e D E (inl x) (inl y) = inl (omega arith)
full_product k d l e D E (inl x) (inr y) = inr (le_trans (le_of_eq (sym (one-mul (2 ^ 52)))) (mul-le-mul D y))
full_product k d l e D E (inr x) f = inr (le_trans (le_of_eq (sym (mul-one (2 ^ 52)))) (mul-le-mul x E))

lowest : (k d : ℕ) → Full (2 ^ 52) k d → (k + 1074 ≡ 1074) ⊎ (2 ^ 52 ≤ d)
lowest k d (inl x) = inl (ap (λ (y : ℕ). y + 1074) x)
lowest k d (inr y) = inr y

small : (a b : ℕ) → digits binary64 a * digits binary64 b < 2 ^ 106
small a b = lt_of_le_of_lt (mul-le-mul_left (digits binary64 a) (le_of_lt (digits_lt binary64 b))) (mul-lt-mul_of_pos_right (digits_lt binary64 a) (pow_pos 53))

-- the law
rounds_alike : (a b c j : ℕ) (s t : Bool) → 0 < digits binary64 a → 0 < digits binary64 b → Window (place binary64 a + place binary64 b) (place binary64 c + 1074) j
    → to_bits binary64 (sum binary64 s (jam (digits binary64 a * digits binary64 b * 2 ^ (place binary64 a + place binary64 b)) (2 ^ j) * 2 ^ j) t (jam (digits binary64 c * 2 ^ (place binary64 c + 1074)) (2 ^ j) * 2 ^ j) (2 ^ 2149))
    ≡ to_bits binary64 (sum binary64 s (digits binary64 a * digits binary64 b * 2 ^ (place binary64 a + place binary64 b)) t (digits binary64 c * 2 ^ (place binary64 c + 1074)) (2 ^ 2148))
rounds_alike a b c j s t A B w =
    let q = digits binary64 a * digits binary64 b in
    let x = place binary64 a + place binary64 b in
    let g = digits binary64 c in
    let y = place binary64 c + 1074 in
    let o = all_sound q x g y j (small a b) (digits_lt binary64 c) (full_product (place binary64 a) (digits binary64 a) (place binary64 b) (digits binary64 b) A B (digits_full binary64 a) (digits_full binary64 b)) (lowest (place binary64 c) g (digits_full binary64 c)) w in
    sym (sum_jam binary64 s t (q * 2 ^ x) (g * 2 ^ y) j 2148 (lit≤ tt) (one_whole q x g y j w) o.0 o.1 o.2)

pub aligned-m-requires : goal.aligned-m-requires
aligned-m-requires c = rw (c.from.ensures ∙ c.digits_of.ensures, c.from-2.ensures ∙ c.digits_of-2.ensures) (room _ _ _ 106 18 (small c.args.a c.args.b) (x_below _ _ _ c.window-j.ensures) (lit≤ tt))

pub aligned-n-requires : goal.aligned-n-requires
aligned-n-requires c = rw (c.from-3.ensures ∙ c.digits_of-3.ensures) (room _ _ _ 53 71 (digits_lt binary64 c.args.c) (y_below _ _ _ c.window-j.ensures) (lit≤ tt))

pub combined-requires : goal.combined-requires
combined-requires c =
    let p = c.requires in
    let w = c.window-j.ensures in
    let x = place_le c.args.a p.0 in
    let y = place_le c.args.b p.1 in
    let z = place_le c.args.c p.2 in
    rw (c.aligned-m.ensures, c.aligned-n.ensures, c.from.ensures ∙ c.digits_of.ensures, c.from-2.ensures ∙ c.digits_of-2.ensures, c.from-3.ensures ∙ c.digits_of-3.ensures) (
      jam_some _ _ (mul-pos (mul-pos p.3 p.4) (pow_pos _)),
      jam_room _ _ _ 106 18 (small c.args.a c.args.b) (x_below _ _ _ w) (lit≤ tt),
      jam_room _ _ _ 53 71 (digits_lt binary64 c.args.c) (y_below _ _ _ w) (lit≤ tt),
      j_low _ _ _ (omega arith) w,
      j_high _ _ _ (omega arith) (omega arith) w,
    )

pub returns : goal.returns
returns c =
    c.combined.ensures
    ∙ rw (c.aligned-m.ensures, c.aligned-n.ensures, c.from.ensures ∙ c.digits_of.ensures, c.from-2.ensures ∙ c.digits_of-2.ensures, c.from-3.ensures ∙ c.digits_of-3.ensures, c.place_of.ensures, c.place_of-2.ensures, c.place_of-y.ensures, c.is_negative.ensures, c.is_negative-2.ensures, c.is_negative-3.ensures)
    (rounds_alike c.args.a c.args.b c.args.c c.window-j.result _ _ c.requires.3 c.requires.4 (rw (c.place_of.ensures, c.place_of-2.ensures, c.place_of-y.ensures) at c.window-j.ensures))
