-- Where a frame is read: a place that isn't past the last frame, as a whole number and a fraction. Assumes nothing.
use Rattle.std.proofs.Common.{◌≡◌, ℕ, zero, suc, ◌+◌, ◌-◌, ◌*◌, ◌/◌, ◌^◌, ◌<◌, ◌≤◌, min, Bool, true, false, cond, not, T, List, length, ltb, ltb-false, lt-ltb, le-ltb, le_trans, le_of_eq, slice_index, refl, sym, ap, ◌∙◌, arith, lit<, lit≤, pos, div-add-mod', mod-lt}
use native.Mathlib.Nat.{div-le_of_le-mul}
use lib.Ieee.{Float, nan, inf, fin, Format, binary32, binary64, prec, emax, low, round, units, odd, up, down, mul, div, lt, of_int, of_bits}
use lib.Ieee.Exact.{HasValue}
use lib.Ieee.Fits.{and_l, and_r, down_pos}
use lib.Ieee.Positive.{positive, positive_of_value, between, own_value, num, den, den_pos, value_pos}
use Rattle.rounding.proofs.Compare.{lt_at}
use Rattle.rounding.proofs.Counted.{unsigned_value, floor_is, floor_count}
use Rattle.rounding.proofs.Exact.{whole_exact}
use Rattle.rounding.proofs.Operations.{mul_at, div_at}
use Rattle.rounding.specs.Rounding.{whole, floor, truncate}
use Rattle.buffer.specs.Limits.{valid_rate}
use Rattle.reshape.specs.Converting.{playhead, previous, fraction, mixed, resampled}
use Rattle.reshape.specs.Places.{place_frame, place_fraction, read_at}

-- ---- a number that is not negative, or is too large for the format
abbrev Unsigned : Float → Type 0
Unsigned nan = ⊥
Unsigned (inf s) = s ≡ false
Unsigned (fin s m e) = s ≡ false

odd_unsigned : (d q k l : ℕ) → Unsigned (odd d false q k l)
unfolding odd
odd_unsigned d zero k l = refl
odd_unsigned d (suc q) k l = refl

units_unsigned : (f : Format) (q k : ℕ) → Unsigned (units f false q k)
unfolding units
units_unsigned f q k = go (ltb (q * 2 ^ k) (2 ^ (low f + suc (emax f))))
  where
    go : (t : Bool) → Unsigned (cond t (odd (suc (prec f)) false q k (low f)) (inf false))
    go true = odd_unsigned (suc (prec f)) q k (low f)
    go false = refl

round_unsigned : (f : Format) (a c : ℕ) → Unsigned (round f false a c)
unfolding round
round_unsigned f a c = units_unsigned f _ _

product_unsigned : (f : Format) (x y : Float) (a c b d : ℕ) → 0 < c → 0 < d → HasValue x false a c → HasValue y false b d → Unsigned (mul f x y)
product_unsigned f x y a c b d C D h k = rw (mul_at f x y a c b d C D h k) (round_unsigned f (a * b) (c * d))

quotient_unsigned : (f : Format) (x y : Float) (b d : ℕ) → 0 < b → 0 < d → Unsigned x → HasValue y false b d → Unsigned (div f x y)
unfolding div
quotient_unsigned f nan y b d B D h k = absurd h
quotient_unsigned f (inf s) nan b d B D h k = absurd k
quotient_unsigned f (inf s) (inf t) b d B D h k = absurd k
quotient_unsigned f (inf s) (fin t n e) b d B D h k = rw (h, k.0) refl
quotient_unsigned f (fin s m e) y b d B D h k =
    rw (div_at f (fin s m e) y (m * up e) (down e) b d (down_pos e) D (h, refl) k B) (round_unsigned f (m * up e * d) (b * down e))

-- what is not above a value is a value
value_below : (x p : Float) (a c : ℕ) → HasValue x false a c → Unsigned p → lt x p ≡ false → HasValue p false (num p) (den p)
unfolding lt
value_below x nan a c h u l = absurd u
value_below nan (inf s) a c h u l = absurd h
value_below (inf t) (inf s) a c h u l = absurd h
value_below (fin t m e) (inf s) a c h u l = let bad : true ≡ false = ap not (sym u) ∙ l in absurd (cc bad)
value_below x (fin s m e) a c h u l = (u, refl)

-- ---- a rate within the limits is above zero
rate_positive : (r : Float) → T (valid_rate r) → T (positive r)
unfolding valid_rate
rate_positive r h =
    between (of_int binary32 (pos 3000)) r (of_int binary32 (pos 768000))
    (positive_of_value _ 3000 1 (whole_exact binary32 3000 (lit≤ tt)) (lit< tt))
    (positive_of_value _ 768000 1 (whole_exact binary32 768000 (lit≤ tt)) (lit< tt))
    (and_l _ _ h) (and_r _ _ h)

-- ---- the place p of frame i, which isn't past the last frame
quotient_le : (u c l : ℕ) → u ≤ l * c → u / c ≤ l
quotient_le u c l h = div-le_of_le-mul c (omega (arith, h))

parts : (u c : ℕ) → 0 < c → (u / c * c ≤ u) × (u < (u / c + 1) * c)
parts u c C = let e = div-add-mod' u c in let m = mod-lt u C in (omega arith, omega arith)

place_unsigned : (source target : Float) (i : ℕ) → T (valid_rate source) → T (valid_rate target) → i < 2 ^ 32 → Unsigned (playhead source target i)
unfolding playhead
place_unsigned source target i from to small =
    let s = rate_positive source from in
    let t = rate_positive target to in
    let product = product_unsigned binary64 (whole i) source i 1 (num source) (den source) (lit< tt) (den_pos source) (whole_exact binary64 i (omega (arith, small))) (own_value source s) in
    quotient_unsigned binary64 (mul binary64 (whole i) source) target (num target) (den target)
    (value_pos target (num target) (den target) t (den_pos target) (own_value target t)) (den_pos target) product (own_value target t)

module _ (source target p : Float) (last i : ℕ) (from : T (valid_rate source)) (to : T (valid_rate target)) (few : last < 16777216) (small : i < 2 ^ 32)
    (at : p ≡ playhead source target i) (within : lt (whole last) p ≡ false) where
  value : HasValue p false (num p) (den p)
  value = value_below (whole last) p last 1 (whole_exact binary64 last (omega (arith, few))) (rw at (place_unsigned source target i from to small)) within

  at_most : num p ≤ last * den p
  at_most = omega (arith, ltb-false _ _ (sym (lt_at (whole last) p last 1 (num p) (den p) (lit< tt) (den_pos p) (whole_exact binary64 last (omega (arith, few))) value) ∙ within))

  abbrev frame : ℕ
  frame = num p / den p

  frame_le : frame ≤ last
  frame_le = quotient_le (num p) (den p) last at_most

  truncated : truncate p ≡ frame
  truncated = unsigned_value 64 p (num p) (den p) (den_pos p) value ∙ kept frame (omega (arith, frame_le, few))
    where
      kept : (n : ℕ) → n < 2 ^ 64 → min n (2 ^ 64 - 1) ≡ n
      kept n h = omega arith

  -- its whole part is a frame
  pub counted : truncate p ≤ last
  counted = rw truncated frame_le

  -- which is the floor
  pub floored : of_int binary64 (pos (truncate p)) ≡ floor binary64 p
  unfolding of_int
  floored = rw truncated (sym (floor_is binary64 p (num p) (den p) frame (den_pos p) value (parts (num p) (den p) (den_pos p)).0 (parts (num p) (den p) (den_pos p)).1))

  pub same : truncate p ≡ previous p
  unfolding previous
  same = truncated ∙ sym (floor_count binary64 p (num p) (den p) frame (den_pos p) value (omega (arith, frame_le, few)) (parts (num p) (den p) (den_pos p)).0 (parts (num p) (den p) (den_pos p)).1)

-- ---- what a channel has at the place of frame i is frame i of the result
pub read_is : (source target : Float) (frames : List ℕ) (last i : ℕ) → length frames ≡ last + 1 → T (valid_rate source) → T (valid_rate target) → last < 16777216 → i < 2 ^ 32
    → read_at frames (place_frame source target last i) (place_fraction source target last i) ≡ resampled source target frames i
unfolding read_at place_frame place_fraction resampled
read_is source target frames last i full from to few small = go (lt (whole last) p) refl
  where
    p : Float
    p = playhead source target i

    ends : length frames - 1 ≡ last
    ends = omega (arith, full)

    go : (t : Bool) → lt (whole last) p ≡ t
        → cond (ltb (length frames - 1) (cond (lt (whole last) p) (last + 1) (previous p))) (slice_index frames (length frames - 1))
        (mixed (cond (lt (whole last) p) (of_bits binary32 0) (fraction p)) (slice_index frames (cond (lt (whole last) p) (last + 1) (previous p)))
        (slice_index frames (min (cond (lt (whole last) p) (last + 1) (previous p) + 1) (length frames - 1))))
        ≡ cond (lt (whole (length frames - 1)) p) (slice_index frames (length frames - 1))
        (mixed (fraction p) (slice_index frames (previous p)) (slice_index frames (min (previous p + 1) (length frames - 1))))
    go true past = rw (ends, past, lt-ltb last (last + 1) (omega arith)) refl
    go false within = rw (ends, within, le-ltb last (previous p) (le_trans (le_of_eq (sym (same source target p last i from to few small refl within))) (counted source target p last i from to few small refl within))) refl
