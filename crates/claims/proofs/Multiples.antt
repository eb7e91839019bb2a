-- Conversion to m times the rate: the position of frame m × j is j, and its frame is the source's in value. Assumes nothing.
use Rattle.std.proofs.Common.{◌≡◌, ℕ, zero, suc, ◌+◌, ◌-◌, ◌*◌, ◌^◌, ◌<◌, ◌≤◌, min, Bool, true, false, cond, not, T, ◌⊎◌, inl, inr, List, length, slice_index, sym, refl, ap, ◌∙◌, subst, ap₂, le_trans, le_of_eq, le_of_lt, le_refl, eq-or-lt_of_le, mul-le-mul_right, mul-le-mul_left, mul-pos, mul-one, mul_comm, zero-mul, zero-lt-suc, lt_irrefl, mul-lt-mul_of_pos_right, le_of_mul-le-mul_right, arith, lit<, lit≤, ℤ, pos, le-ltb}
use native.Mathlib.Nat.{one-mul}
use Prim.Native.Nat.{zero-le}
use mathlib.Core.Bool.{beq}
use lib.Dec.{leb, leb→le, nleb→lt}
use lib.Ieee.{Float, nan, inf, fin, binary32, binary64, round, add, sub, mul, div, neg, sum, lt, eq, level, fits, of_int, of_bits, to_bits, up, down, to_unsigned, le}
use lib.Ieee.Order.{round_mono}
use lib.Ieee.Bits.{of_bits-to_bits, of_bits-fits}
use lib.Ieee.Exact.{HasValue}
use lib.Ieee.Fits.{down_pos, add-fits, and_r}
use lib.Ieee.Scale.{round_same, finite}
use Rattle.rounding.specs.Rounding.{whole, floor, ceil, truncate, lifted, convert, widen, magnitude}
use Rattle.rounding.proofs.Operations.{sub_at, mul_at, add_value, mul_value}
use Rattle.rounding.proofs.Exact.{whole_exact, round-zero, round_same_float, two_values}
use Rattle.rounding.proofs.Sum.{sum_alike, sum_more, sum_none}
use Rattle.rounding.proofs.Counted.{floor_is, floor_count}
use Rattle.rounding.proofs.Compare.{lt_at, eq_value}
use Rattle.tolerances.specs.declared.Tolerances.{Tolerances}
use Rattle.tolerances.specs.Tolerances.{tolerances_of, defaults}
use Rattle.seconds.specs.Seconds.{float_zero}
use Rattle.reshape.specs.Converting.{relabels_with, converted_length, converted_shape_with, playhead, previous, fraction, mixed, resampled, converted_samples_with}
use Rattle.buffer.specs.declared.Shape.{Shape}
use Rattle.buffer.specs.Limits.{valid_shape, valid_rate}
use Rattle.rounding.specs.Near.{float_eq}
use Rattle.std.proofs.lemmas.Float.{le_trans as le_trans_float}
use Rattle.claims.proofs.Order.{eq_refl}
use Rattle.claims.proofs.Units.{rate_pos, rate_of}
use Rattle.claims.proofs.Conversions.{playhead_is, accepted, ratio_is, up_count, instants}
use Rattle.lists.specs.Rows.{rows}
use Rattle.lists.specs.Table.{table, length_table, get_or_table}
use Rattle.buffer.specs.Channels.{channel, length_channel, channel_rows}
use Rattle.reshape.specs.Known.{single, mono}
use Rattle.claims.specs.Conversions.{above, half_above, half, frame_at, Converts, KeepsFrames, KeepsTime}

-- ---- (1 - 0) × a + 0 × b is a in value: a zero of either sign is added to a
abbrev nought : Bool → Float
nought s = fin s 0 (pos 0)

one_less : sub binary32 (of_int binary32 (pos 1)) (nought false) ≡ fin false 1 (pos 0)
unfolding sub neg add sum round of_int
one_less = refl

mul_one : (a : Float) → T (fits binary32 a) → T (finite a) → mul binary32 (fin false 1 (pos 0)) a ≡ a
mul_one nan f h = absurd h
mul_one (inf s) f h = absurd h
mul_one (fin true m e) f h =
    mul_value binary32 (fin false 1 (pos 0)) (fin true m e) false true 1 1 (m * up e) (down e) (lit< tt) (down_pos e) (refl, refl) (refl, refl)
    ∙ ap₂ (λ (n d : ℕ). round binary32 true n d) (one-mul (m * up e)) (one-mul (down e)) ∙ round_same_float binary32 (fin true m e) true (m * up e) (down e) (down_pos e) f (refl, refl)
mul_one (fin false m e) f h =
    mul_value binary32 (fin false 1 (pos 0)) (fin false m e) false false 1 1 (m * up e) (down e) (lit< tt) (down_pos e) (refl, refl) (refl, refl)
    ∙ ap₂ (λ (n d : ℕ). round binary32 false n d) (one-mul (m * up e)) (one-mul (down e)) ∙ round_same_float binary32 (fin false m e) false (m * up e) (down e) (down_pos e) f (refl, refl)

mul_none : (b : Float) → T (finite b) → (t : Bool) × (mul binary32 (nought false) b ≡ nought t)
mul_none nan h = absurd h
mul_none (inf s) h = absurd h
mul_none (fin t m e) h = (
  not (not t),
  mul_value binary32 (nought false) (fin t m e) false t 0 1 (m * up e) (down e) (lit< tt) (down_pos e) (refl, refl) (refl, refl)
      ∙ round-zero binary32 (not (not t)) (0 * (m * up e)) (1 * down e) (zero-mul (m * up e)) (mul-pos (lit< tt) (down_pos e)),
)

same_value : (x a : Float) → finite a ≡ true → x ≡ a → T (eq x a)
same_value x a h e = subst (λ (y : Float). T (eq y a)) (sym e) (subst T (sym (eq_refl a h)) tt)

module _ (m : ℕ) (e : ℤ) where
  n : ℕ
  n = m * up e

  as_sum : (s t : Bool) → add binary32 (fin s m e) (nought t) ≡ sum binary32 s (n * 1) t (0 * down e) (down e * 1)
  unfolding n
  as_sum s t = add_value binary32 (fin s m e) (nought t) s t (m * up e) (down e) 0 1 (down_pos e) (lit< tt) (refl, refl) (refl, refl)

  -- a zero of the same sign
  alike : (s : Bool) → T (fits binary32 (fin s m e)) → add binary32 (fin s m e) (nought s) ≡ fin s m e
  unfolding n
  alike s f =
      as_sum s s ∙ sum_alike binary32 s (n * 1) (0 * down e) (down e * 1) ∙ ap₂ (λ (a c : ℕ). round binary32 s a c) (plus n (down e)) (mul-one (down e))
      ∙ round_same_float binary32 (fin s m e) s (m * up e) (down e) (down_pos e) f (refl, refl)
    where
      plus : (n d : ℕ) → n * 1 + 0 * d ≡ n
      plus n d = omega arith

  -- and of the other: a zero's own sign may be lost
  unalike : (s t : Bool) → beq s t ≡ false → T (fits binary32 (fin s m e)) → T (eq (add binary32 (fin s m e) (nought t)) (fin s m e))
  unfolding n
  unalike s t o f = go (eq-or-lt_of_le (zero-le {n = n}))
    where
      less : (n d : ℕ) → n * 1 - 0 * d ≡ n
      less n d = omega arith

      go : (0 ≡ n) ⊎ (0 < n) → T (eq (add binary32 (fin s m e) (nought t)) (fin s m e))
      go (inr l) =
          same_value (add binary32 (fin s m e) (nought t)) (fin s m e) refl
          (as_sum s t ∙ sum_more binary32 s t (n * 1) (0 * down e) (down e * 1) o (omega arith) ∙ ap₂ (λ (a c : ℕ). round binary32 s a c) (less n (down e)) (mul-one (down e))
          ∙ round_same_float binary32 (fin s m e) s (m * up e) (down e) (down_pos e) f (refl, refl))
      go (inl z) =
          subst (λ (x : Float). T (eq x (fin s m e))) (sym (as_sum s t ∙ sum_none binary32 s t (n * 1) (0 * down e) (down e * 1) o (omega arith) ∙ round-zero binary32 false 0 (down e * 1) refl (mul-pos (down_pos e) (lit< tt))))
          (subst T (sym (eq_value (nought false) (fin s m e) false s 0 1 (m * up e) (down e) (lit< tt) (down_pos e) (refl, refl) (refl, refl) ∙ ap₂ (λ (a b : ℕ). level false a s b) (zero-mul (down e)) (mul-one n ∙ sym z))) (both s))
        where
          both : (s : Bool) → T (level false 0 s 0)
          both true = tt
          both false = tt

add_none : (a : Float) (t : Bool) → T (fits binary32 a) → T (finite a) → T (eq (add binary32 a (nought t)) a)
add_none nan t f h = absurd h
add_none (inf s) t f h = absurd h
add_none (fin true m e) true f h = same_value _ (fin true m e) refl (alike m e true f)
add_none (fin true m e) false f h = unalike m e true false refl f
add_none (fin false m e) true f h = unalike m e false true refl f
add_none (fin false m e) false f h = same_value _ (fin false m e) refl (alike m e false f)

mixed_first : (a b : ℕ) → T (finite (widen a)) → T (finite (widen b)) → T (eq (widen (mixed (nought false) a b)) (widen a))
unfolding mixed widen
mixed_first a b h k =
    let n = mul_none (of_bits binary32 b) k in
    let e : add binary32 (mul binary32 (sub binary32 (of_int binary32 (pos 1)) (nought false)) (of_bits binary32 a)) (mul binary32 (nought false) (of_bits binary32 b)) ≡ add binary32 (of_bits binary32 a) (nought n.0) =
    ap₂ (λ (x y : Float). add binary32 x y) (ap (λ (x : Float). mul binary32 x (of_bits binary32 a)) one_less ∙ mul_one (of_bits binary32 a) (of_bits-fits binary32 a) h) n.1 in
    subst (λ (x : Float). T (eq (of_bits binary32 (to_bits binary32 x)) (of_bits binary32 a))) (sym e)
    (subst (λ (x : Float). T (eq x (of_bits binary32 a))) (sym (of_bits-to_bits binary32 (add binary32 (of_bits binary32 a) (nought n.0)) (add-fits binary32 (of_bits binary32 a) (nought n.0))))
    (add_none (of_bits binary32 a) n.0 (of_bits-fits binary32 a) h))

-- ---- a read at the whole number j
whole_is : (j : ℕ) → round binary64 false j 1 ≡ whole j
unfolding of_int
whole_is j = refl

module _ (j : ℕ) (J : j ≤ 2 ^ 53) where
  at_floor : floor binary64 (whole j) ≡ whole j
  at_floor = floor_is binary64 (whole j) j 1 j (lit< tt) (whole_exact binary64 j J) (le_of_eq (mul-one j)) (omega arith) ∙ whole_is j

  at_previous : previous (whole j) ≡ j
  unfolding previous
  at_previous = floor_count binary64 (whole j) j 1 j (lit< tt) (whole_exact binary64 j J) J (le_of_eq (mul-one j)) (omega arith)

  at_fraction : fraction (whole j) ≡ nought false
  unfolding fraction convert round
  at_fraction =
      let v = whole_exact binary64 j J in
      ap (λ (x : Float). convert binary32 (sub binary64 (whole j) x)) at_floor
      ∙ ap (λ (x : Float). convert binary32 x) (sub_at binary64 (whole j) (whole j) j 1 j 1 (lit< tt) (lit< tt) v v (le_refl (j * 1)) ∙ round-zero binary64 false (j * 1 - j * 1) 1 (omega arith) (lit< tt))

  not_above : (l : ℕ) → l ≤ 2 ^ 53 → j ≤ l → lt (whole l) (whole j) ≡ false
  not_above l L h = lt_at (whole l) (whole j) l 1 j 1 (lit< tt) (lit< tt) (whole_exact binary64 l L) (whole_exact binary64 j J) ∙ le-ltb (l * 1) (j * 1) (omega arith)

-- frame i of the result, by its position
abbrev read : List ℕ → Float → ℕ
read frames x =
    let last = length frames - 1 in
    cond (lt (whole last) x) (slice_index frames last) (mixed (fraction x) (slice_index frames (previous x)) (slice_index frames (min (previous x + 1) last)))

kept_frame : (source target : Float) (frames : List ℕ) (i j : ℕ) → playhead source target i ≡ whole j → j < length frames → length frames ≤ 16777216 → T (finite (widen (slice_index frames j)))
    → T (finite (widen (slice_index frames (min (j + 1) (length frames - 1))))) → T (eq (widen (resampled source target frames i)) (widen (slice_index frames j)))
unfolding resampled
kept_frame source target frames i j e l L h k =
    let last = length frames - 1 in
    let J : j ≤ 2 ^ 53 = le_trans (le_of_lt l) (le_trans L (lit≤ tt)) in
    let E : last ≤ 2 ^ 53 = le_trans (le_of_lt (less l)) (le_trans L (lit≤ tt)) in
    let q : read frames (whole j) ≡ mixed (nought false) (slice_index frames j) (slice_index frames (min (j + 1) last)) =
    ap (λ (b : Bool). cond b (slice_index frames last) (mixed (fraction (whole j)) (slice_index frames (previous (whole j))) (slice_index frames (min (previous (whole j) + 1) last)))) (not_above j J last E (omega arith))
    ∙ ap₂ (λ (x : Float) (p : ℕ). mixed x (slice_index frames p) (slice_index frames (min (p + 1) last))) (at_fraction j J) (at_previous j J) in
    subst (λ (x : Float). T (eq (widen (read frames x)) (widen (slice_index frames j)))) (sym e)
    (subst (λ (x : ℕ). T (eq (widen x) (widen (slice_index frames j)))) (sym q) (mixed_first (slice_index frames j) (slice_index frames (min (j + 1) last)) h k))
  where
    less : {j n : ℕ} → j < n → n - 1 < n
    less l = omega arith

-- ---- rates that are whole numbers
-- a rate above 768,000 is 768,001 at least
too_large : (n : ℕ) → 768001 ≤ n → T (le (single 768001) (single n))
unfolding of_int
too_large n l = round_mono binary32 768001 1 n 1 (lit< tt) (lit< tt) (mul-le-mul_right 1 l)

apart : T (le (single 768001) (single 768000)) → ⊥
unfolding of_int round le lt eq
apart h = h

rate_bound : (n : ℕ) → T (valid_rate (single n)) → n ≤ 768000
unfolding valid_rate
rate_bound n t = go (leb n 768000) (leb→le n 768000) (nleb→lt n 768000)
  where
    go : (b : Bool) → (T b → n ≤ 768000) → (T (not b) → 768000 < n) → n ≤ 768000
    go true p q = p tt
    go false p q =
        absurd (apart (le_trans_float (single 768001) (single n) (single 768000) (too_large n (q tt))
        (and_r (le (single 3000) (single n)) (le (single n) (single 768000)) t)))

-- in binary32's units
rate_units : (r : Float) (R n : ℕ) → HasValue r false R (2 ^ 149) → r ≡ single n → n ≤ 768000 → R ≡ n * 2 ^ 149
rate_units r R n v e l =
    sym (mul-one R) ∙ two_values (single n) false false R (2 ^ 149) n 1 (subst (λ (x : Float). HasValue x false R (2 ^ 149)) e v) (whole_exact binary32 n (le_trans l (lit≤ tt)))

few_times : (m s Q : ℕ) → 0 < Q → 3000 * Q ≤ s * Q → m * s ≤ 768000 → m ≤ 256
few_times m s Q Q0 h l =
    let a : 3000 ≤ s = le_of_mul-le-mul_right {k = Q} h Q0 in
    omega (arith, mul-le-mul_left m a)

times_fit : (n m : ℕ) → n ≤ 16777216 → m ≤ 256 → n * m ≤ 2 ^ 53
times_fit n m N M = omega (arith, mul-le-mul_right m N)

lifted_one : (n : ℕ) → lifted n 1 ≡ n
lifted_one n = omega arith

ratio_whole : (m s Q R G : ℕ) → R ≡ s * Q → G ≡ m * s * Q → G * 1 ≡ m * R
ratio_whole m s Q R G e f = omega (arith, ap (λ (x : ℕ). m * x) e)

reach : (m j n l : ℕ) → l ≡ n * m → j ≤ n → l ≤ 16777216 → m * j ≤ 2 ^ 24
reach m j n l e J L = omega (arith, mul-le-mul_left m J)

place : (m s j Q R G : ℕ) → R ≡ s * Q → G ≡ m * s * Q → m * j * R * 1 ≡ j * G
place m s j Q R G e f = omega (arith, ap (λ (x : ℕ). m * j * x) e, ap (λ (x : ℕ). j * x) f)

counted : (n m : ℕ) (rate : Float) (shape : Shape) → shape.frames ≡ n → n ≤ 16777216 → m ≤ 256 → div binary64 rate shape.rate ≡ whole m → converted_length shape rate ≡ n * m
unfolding converted_length
counted n m rate shape e N M r =
    let x : mul binary64 (whole n) (whole m) ≡ whole (n * m) =
    mul_at binary64 (whole n) (whole m) n 1 m 1 (lit< tt) (lit< tt) (whole_exact binary64 n (le_trans N (lit≤ tt))) (whole_exact binary64 m (le_trans M (lit≤ tt))) ∙ whole_is (n * m) in
    ap₂ (λ (k : ℕ) (y : Float). truncate (ceil binary64 (mul binary64 (whole k) y))) e r
    ∙ ap (λ (y : Float). truncate (ceil binary64 y)) x
    ∙ up_count (whole (n * m)) (n * m) 1 (lit< tt) (whole_exact binary64 (n * m) (times_fit n m N M)) (le_trans (le_of_eq (lifted_one (n * m))) (times_fit n m N M))
    ∙ lifted_one (n * m)

some : (m s Q : ℕ) → 0 < m * s * Q → 0 < m
some zero s Q h = absurd (lt_irrefl 0 (subst (λ (x : ℕ). 0 < x) (ap (λ (x : ℕ). x * Q) (zero-mul s) ∙ zero-mul Q) h))
some (suc m) s Q h = zero-lt-suc m

times_lt : (m j n : ℕ) → 0 < m → j < n → m * j < m * n
times_lt m j n M l = omega (arith, mul-lt-mul_of_pos_right l M)

-- a frame of the result is `resampled` of the channel
result_frame : (t : Tolerances) (shape : Shape) (rate : Float) (made : Shape) (samples : List ℕ) (c i : ℕ) → relabels_with t shape rate ≡ false → made.frames ≡ converted_length shape rate
    → c < shape.channels → i < made.frames
    → frame_at (converted_samples_with t shape samples rate) made.frames c i ≡ resampled shape.rate rate (channel samples shape.frames c) i
unfolding converted_samples_with
result_frame t shape rate made samples c i changes long C I =
    let f : ℕ → List ℕ = λ k. table (converted_length shape rate) (resampled shape.rate rate (channel samples shape.frames k)) in
    ap₂ (λ (b : Bool) (n : ℕ). slice_index (channel (cond b samples (rows shape.channels f)) n c) i) changes long
    ∙ ap (λ (l : List ℕ). slice_index l i) (channel_rows (converted_length shape rate) shape.channels f (λ k b. length_table (converted_length shape rate) (resampled shape.rate rate (channel samples shape.frames k))) c C)
    ∙ get_or_table (converted_length shape rate) (resampled shape.rate rate (channel samples shape.frames c)) i 0 (subst (λ (x : ℕ). i < x) long I)

module _ (t : Tolerances) (shape : Shape) (len : ℕ) (rate : Float) (made : Shape) (h : Converts t shape len rate made) (s m : ℕ) (own : shape.rate ≡ single s) (new : rate ≡ single (m * s)) where
  multiple : KeepsFrames t shape len rate made m
  multiple =
      let Q = 2 ^ 149 in
      let n = shape.frames in
      let a = accepted t shape len rate made h in
      let r = rate_of shape.rate h.source_single a.own in
      let g = rate_of rate h.target_single a.new in
      let S : s ≤ 768000 = rate_bound s (subst (λ (x : Float). T (valid_rate x)) own a.own) in
      let M : m * s ≤ 768000 = rate_bound (m * s) (subst (λ (x : Float). T (valid_rate x)) new a.new) in
      let R : r.units ≡ s * Q = rate_units shape.rate r.units s r.value own S in
      let G : g.units ≡ m * s * Q = rate_units rate g.units (m * s) g.value new M in
      let R0 = rate_pos r.units Q (lit< tt) r.low in
      let G0 = rate_pos g.units Q (lit< tt) g.low in
      let few : m ≤ 256 = few_times m s Q (lit< tt) (subst (λ (x : ℕ). 3000 * Q ≤ x) R r.low) M in
      let ratio : div binary64 rate shape.rate ≡ whole m =
      ratio_is shape rate r.units g.units r.value g.value r.low r.high g.low g.high a.short
      ∙ round_same binary64 false g.units r.units m 1 R0 (lit< tt) (ratio_whole m s Q r.units g.units R G) ∙ whole_is m in
      let len_is : converted_length shape rate ≡ n * m = counted n m rate shape refl a.short few ratio in
      let long_is : made.frames ≡ m * n = a.length ∙ len_is ∙ mul_comm n m in
      record {
        times = long_is;
        kept = λ samples c j l C J f k.
            let whole : length samples ≡ shape.frames * shape.channels = l ∙ a.full ∙ mul_comm shape.channels n in
            let long : length (channel samples n c) ≡ n = length_channel samples n shape.channels c whole C in
            subst (λ (x : ℕ). T (eq (widen x) (widen (frame_at samples n c j))))
            (sym (result_frame t shape rate made samples c (m * j) h.changes a.length C (subst (λ (x : ℕ). m * j < x) (sym long_is) (times_lt m j n (some m s Q (subst (λ (x : ℕ). 0 < x) G G0)) J))))
            (kept_frame shape.rate rate (channel samples n c) (m * j) j
            (playhead_is shape.rate rate r.units g.units (m * j) h.source_single r.value g.value r.high G0 (reach m j n (converted_length shape rate) len_is (le_of_lt J) a.few)
            ∙ round_same binary64 false (m * j * r.units) g.units j 1 G0 (lit< tt) (place m s j Q r.units g.units R G) ∙ whole_is j)
            (subst (λ (x : ℕ). j < x) (sym long) J) (subst (λ (x : ℕ). x ≤ 16777216) (sym long) a.short) f
            (subst (λ (x : ℕ). T (finite (widen (slice_index (channel samples n c) (min (j + 1) (x - 1)))))) (sym long) k));
      }

-- ---- the claim, with the conversions that meet its premises
faster : Converts defaults (mono 2 24000) 2 (single 48000) (mono 4 48000)
unfolding converted_shape_with converted_length relabels_with valid_shape valid_rate float_eq ceil magnitude round sum add sub mul div neg lt eq le of_int to_unsigned fits of_bits
faster = record { source_single = tt; target_single = tt; accepted = refl; changes = refl }

slower : Converts defaults (mono 3 48000) 3 (single 32000) (mono 2 32000)
unfolding converted_shape_with converted_length relabels_with valid_shape valid_rate float_eq ceil magnitude round sum add sub mul div neg lt eq le of_int to_unsigned fits of_bits
slower = record { source_single = tt; target_single = tt; accepted = refl; changes = refl }

nearest : Converts (tolerances_of float_zero float_zero float_zero) (mono 2 48000) 2 above (record { channels = 1; frames = 3; rate = above })
unfolding converted_shape_with converted_length relabels_with valid_shape valid_rate float_eq ceil magnitude round sum add sub mul div neg lt eq le of_int to_unsigned fits of_bits
nearest = record { source_single = tt; target_single = tt; accepted = refl; changes = refl }

converted : Converts defaults (mono 2 48000) 2 half_above (record { channels = 1; frames = 3; rate = half_above })
unfolding converted_shape_with converted_length relabels_with valid_shape valid_rate float_eq ceil magnitude round sum add sub mul div neg lt eq le of_int to_unsigned fits of_bits
converted = record { source_single = tt; target_single = tt; accepted = refl; changes = refl }

within_half : relabels_with (tolerances_of float_zero float_zero half) (mono 2 48000) half_above ≡ true
unfolding relabels_with float_eq magnitude round sum sub neg lt eq le of_int of_bits
within_half = refl

within_default : relabels_with defaults (mono 2 48000) above ≡ true
unfolding relabels_with float_eq magnitude round sum sub neg lt eq le of_int of_bits
within_default = refl

pub keeps_time : KeepsTime
keeps_time = record { instants = instants; multiples = multiple; up = faster; down = slower; next = nearest; relabelled = within_default; converted = converted; relabelled_wider = within_half }
