-- `fused::fused::finished` meets its contract: with its top digit brought to the 127th place and a sticky digit for the 64 lowest, the number rounds as it did. Assumes nothing.
-- By hand: with laws named on the function some of its 5 goals are not proved.
use Rattle.std.specs.Int.{from_bool}
use Rattle.std.proofs.Common.{◌≡◌, ℕ, suc, ◌+◌, ◌-◌, ◌*◌, ◌%◌, ◌^◌, ◌<◌, ◌≤◌, Bool, true, false, cond, refl, sym, ap, ◌∙◌, subst, inl, le_trans, le_of_eq, lt_of_lt_of_le, lt_of_le_of_lt, mul-le-mul_right, mul_assoc, mod-eq_of_lt, mul-lt-mul_of_pos_right, lt_of_not-le, not-le_of_lt, arith, lit≤, pow_pos, pow_mono, pow-add}
use lib.Count.{count_leading_zeros, leading_top}
use lib.Ieee.{binary64, round, to_bits}
use mir.Facts.{Fits-of_lt}
use Rattle.fused.specs.Sticky.{jam}
use Rattle.fused.proofs.Jam.{jam_scale, jam_lt_pow, jam_ge_pow, round_jam}
use Rattle.rounding.proofs.Pattern.{round_scale, sign_apart, magnitude_lt}
use Rattle.fused.proofs.fused.finished.Goals as goal

-- v with its top digit at the place 127
record Top (v z : ℕ) : Type 0 where
  some : 1 ≤ z
  most : z < 128
  above : 2 ^ 126 ≤ v * 2 ^ (z - 1)
  under : v * 2 ^ (z - 1) < 2 ^ 127

top : (v : ℕ) → 0 < v → v < 2 ^ 127 → Top v (count_leading_zeros 128 v)
top v h k = go (leading_top 128 v h (lt_of_lt_of_le k (lit≤ tt)))
  where
    z : ℕ
    z = count_leading_zeros 128 v

    go : (j : ℕ) × (z + suc j ≡ 128) × (2 ^ j ≤ v) × (v < 2 ^ suc j) → Top v z
    go (j, e, lo, hi) =
        let l : j < 127 = lt_of_not-le (λ g. not-le_of_lt (lt_of_le_of_lt lo k) (pow_mono g)) in
        let p : j + (z - 1) ≡ 126 = omega arith in
        let q : suc j + (z - 1) ≡ 127 = omega arith in
        record {
          some = omega arith;
          most = omega arith;
          above = le_trans (le_of_eq (ap (λ (x : ℕ). 2 ^ x) (sym p) ∙ pow-add 2 j (z - 1))) (mul-le-mul_right (2 ^ (z - 1)) lo);
          under = lt_of_lt_of_le (mul-lt-mul_of_pos_right hi (pow_pos (z - 1))) (le_of_eq (sym (ap (λ (x : ℕ). 2 ^ x) (sym q) ∙ pow-add 2 (suc j) (z - 1))));
        }

-- h is v with its top digit at the place 64, and a sticky digit for what lies below
short : (v z h : ℕ) → Top v z → h ≡ jam (v * 2 ^ (z - 1) % 2 ^ 128) (2 ^ 64) → (h ≡ jam (v * 2 ^ (z - 1)) (2 ^ 64)) × (2 ^ 63 ≤ h) × (h < 2 ^ 64)
short v z h t e =
    let w = v * 2 ^ (z - 1) in
    let q : h ≡ jam w (2 ^ 64) = e ∙ ap (λ (x : ℕ). jam x (2 ^ 64)) (mod-eq_of_lt (lt_of_lt_of_le t.under (lit≤ tt))) in
    (q, subst (λ (x : ℕ). 2 ^ 63 ≤ x) (sym q) (jam_ge_pow w 64 62 t.above), subst (λ (x : ℕ). x < 2 ^ 64) (sym q) (jam_lt_pow w 64 63 t.under))

rounds_alike : (s : Bool) (v z j : ℕ) → Top v z → 200 ≤ j → to_bits binary64 (round binary64 s (jam (v * 2 ^ (z - 1)) (2 ^ 64) * 2 ^ (j + 63 - z)) (2 ^ 2148)) ≡ to_bits binary64 (round binary64 s (v * 2 ^ j) (2 ^ 2149))
rounds_alike s v z j t J =
    let a = j + 1 - z in
    let w = v * 2 ^ (z - 1) in
    let h = jam w (2 ^ 64) in
    let p : z - 1 + a ≡ j = omega (arith, t.some, t.most) in
    let n : w * 2 ^ a ≡ v * 2 ^ j = mul_assoc v (2 ^ (z - 1)) (2 ^ a) ∙ ap (λ (x : ℕ). v * x) (sym (pow-add 2 (z - 1) a) ∙ ap (λ (x : ℕ). 2 ^ x) p) in
    let q : jam (w * 2 ^ a) (2 ^ (64 + a)) ≡ h = ap (λ (x : ℕ). jam (w * 2 ^ a) x) (pow-add 2 64 a) ∙ jam_scale w (2 ^ 64) (2 ^ a) (pow_pos 64) (pow_pos a) in
    let big : 2 ^ (53 + (64 + a)) ≤ w * 2 ^ a = le_trans (pow_mono {i = 53 + (64 + a)} {j = 126 + a} (omega arith)) (le_trans (le_of_eq (pow-add 2 126 a)) (mul-le-mul_right (2 ^ a) t.above)) in
    let r : 64 + a ≡ j + 63 - z + 2 = omega (arith, t.some, t.most) in
    let back : h * 2 ^ (64 + a) ≡ h * 2 ^ (j + 63 - z) * 2 ^ 2 = ap (λ (x : ℕ). h * x) (ap (λ (x : ℕ). 2 ^ x) r ∙ pow-add 2 (j + 63 - z) 2) ∙ sym (mul_assoc h (2 ^ (j + 63 - z)) (2 ^ 2)) in
    sym (ap (to_bits binary64) (round_scale binary64 s (h * 2 ^ (j + 63 - z)) 2 2148))
    ∙ ap (λ (x : ℕ). to_bits binary64 (round binary64 s x (2 ^ 2150))) (sym back ∙ ap (λ (x : ℕ). x * 2 ^ (64 + a)) (sym q))
    ∙ sym (round_jam binary64 s (w * 2 ^ a) (64 + a) 2149 (lit≤ tt) (inl big))
    ∙ ap (λ (x : ℕ). to_bits binary64 (round binary64 s x (2 ^ 2149))) n

pub overflow_sub-z : goal.overflow_sub-z
overflow_sub-z c = rw c.from-z.ensures (top c.args.v c.requires.0 c.requires.1).some

pub overflow_cast-h : goal.overflow_cast-h
overflow_cast-h c = Fits-of_lt (short _ _ _ (top c.args.v c.requires.0 c.requires.1) (rw c.from-z.ensures at c.jammed-h.ensures)).2

pub packed-requires : goal.packed-requires
packed-requires c = ((short _ _ _ (top c.args.v c.requires.0 c.requires.1) (rw c.from-z.ensures at c.jammed-h.ensures)).1, omega arith)

-- the sign's bit, and the magnitude's pattern
bit : (s : Bool) → from_bool s * 2 ^ 63 ≡ cond s (2 ^ 63) 0
bit true = refl
bit false = refl

room : (s : Bool) (r : ℕ) → r < 2 ^ 63 → from_bool s * 2 ^ 63 + r < 2 ^ 64
room true r h = omega arith
room false r h = omega arith

pub overflow_add-result : goal.overflow_add-result
overflow_add-result c = rw c.from.ensures (Fits-of_lt (room c.args.s _ (lt_of_le_of_lt (le_of_eq c.packed.ensures) (magnitude_lt binary64 _ (2 ^ 2148)))))

pub returns : goal.returns
returns c =
    let t = top c.args.v c.requires.0 c.requires.1 in
    let h = (short _ _ _ t (rw c.from-z.ensures at c.jammed-h.ensures)).0 in
    rw (c.from.ensures, bit, c.packed.ensures, c.from-z.ensures, h) (sym (sign_apart binary64 c.args.s _ (2 ^ 2148)) ∙ rounds_alike c.args.s _ _ _ t c.requires.2)
