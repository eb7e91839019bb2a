-- Conversion keeps time: the position of frame i is i × source rate / target rate rounded once, and how far the frames reach. Assumes nothing.
use Rattle.std.proofs.Common.{◌≡◌, ℕ, zero, suc, ◌+◌, ◌-◌, ◌*◌, ◌^◌, ◌<◌, ◌≤◌, Bool, true, false, cond, not, T, sym, refl, ap, ◌∙◌, subst, le_trans, le_of_eq, lt_of_lt_of_le, lt_of_le_of_lt, le_of_lt, mul-le-mul_right, mul-le-mul_left, mul-lt-mul_of_pos_right, mul-pos, zero-mul, zero-lt-suc, suc-mul, le_of_suc-le-suc, true≢false, div-lt_iff_lt-mul, le-div_iff_mul-le, le_of_mul-le-mul_right, arith, lit<, lit≤, pos}
use native.Mathlib.Nat.{one-mul, le_of_mul-le-mul_left}
use lib.Pow.{pow-add}
use lib.Ieee.{Float, nan, inf, fin, binary32, binary64, round, mul, div, fits, up, down}
use lib.Ieee.Exact.{HasValue, round_exact}
use lib.Ieee.Fits.{down_pos}
use lib.Ieee.Scale.{round_same}
use Rattle.rounding.specs.Laws.{Within, Rounded}
use Rattle.std.specs.Prelude.{Result, Ok, Err, nat_lt}
use borrow.Author.Tests.{ltb-false}
use Rattle.buffer.specs.declared.refusals.Refusal.TheVariants as refused
use Rattle.buffer.specs.Limits.{valid_shape, valid_rate, valid, max_frames}
use Rattle.buffer.specs.declared.Shape.{Shape}
use Rattle.buffer.specs.declared.refusals.Refusal.{Refusal}
use Rattle.rounding.specs.Rounding.{whole, ceil, truncate, lifted}
use Rattle.rounding.proofs.Error.{RoundedAny, round_near}
use Rattle.rounding.proofs.Operations.{mul_at, div_at, mul_near_any}
use Rattle.rounding.proofs.Exact.{significand, value_unique, whole_exact, round-zero}
use Rattle.tolerances.specs.declared.Tolerances.{Tolerances}
use Rattle.reshape.specs.Converting.{relabels_with, converted_length, converted_shape_with, playhead}
use Rattle.rounding.proofs.Counted.{whole_count}
use Rattle.rounding.proofs.Wholes.{lifted_same}
use Rattle.claims.proofs.Units.{rate_pos, rate_of}
use Rattle.claims.specs.Conversions.{Converts, SameInstant}

-- ---- The arithmetic, with P for 2 ^ 53, Q for 2 ^ 149 and u for 2 ^ 1074
swap : (x G Q : ℕ) → x * Q * G ≡ x * (G * Q)
swap x G Q = omega arith

short : (i q M : ℕ) → 0 < M → i ≤ M → q < M → i * q < M * M
short i q M M0 I h = omega (arith, mul-le-mul_right q I, mul-lt-mul_of_pos_right h M0)

-- ---- the product of a frame's number and a rate has at most 48 digits, so it is exact
product : (r : Float) (R i : ℕ) → T (fits binary32 r) → HasValue r false R (2 ^ 149) → R ≤ 768000 * 2 ^ 149 → i ≤ 2 ^ 24 → HasValue (mul binary64 (whole i) r) false (i * R) (2 ^ 149)
product r R i f v hi I =
    let d = significand binary32 r false R (2 ^ 149) f v in
    let e : R ≡ d.q * 2 ^ d.j = value_unique r false R (d.q * 2 ^ d.j) (2 ^ 149) v d.value in
    let g : i * d.q * 2 ^ (d.j + 925) ≡ i * R * 2 ^ 925 = rw pow-add (regroup i d.q (2 ^ d.j) (2 ^ 925)) ∙ ap (λ (z : ℕ). i * z * 2 ^ 925) (sym e) in
    rw (mul_at binary64 (whole i) r i 1 R (2 ^ 149) (lit< tt) (lit< tt) (whole_exact binary64 i (le_trans I (lit≤ tt))) v, one-mul)
    (round_exact binary64 false (i * R) (2 ^ 149) (i * d.q) (d.j + 925) (lit< tt) (lt_of_lt_of_le (short i d.q (2 ^ 24) (lit< tt) I d.short) (lit≤ tt))
    (lt_of_le_of_lt (le_of_eq g) (under i R (2 ^ 149) (2 ^ 925) (2 ^ 2098) I hi (lit< tt)))
    (whole_units i R (i * d.q * 2 ^ (d.j + 925)) (2 ^ 925) (2 ^ 149) g))
  where
    regroup : (i q k a : ℕ) → i * q * (k * a) ≡ i * (q * k) * a
    regroup i q k a = omega arith

    under : (i R Q a M : ℕ) → i ≤ 2 ^ 24 → R ≤ 768000 * Q → 2 ^ 24 * (768000 * Q) * a < M → i * R * a < M
    under i R Q a M I h m = lt_of_le_of_lt (mul-le-mul_right a (le_trans (mul-le-mul_right R I) (mul-le-mul_left (2 ^ 24) h))) m

    whole_units : (i R x a Q : ℕ) → x ≡ i * R * a → i * R * (a * Q) ≡ x * Q
    whole_units i R x a Q e = omega (arith, ap (λ (z : ℕ). z * Q) e)

-- so the position is one rounding of i × source / target
pub playhead_is : (r g : Float) (R G i : ℕ) → T (fits binary32 r) → HasValue r false R (2 ^ 149) → HasValue g false G (2 ^ 149) → R ≤ 768000 * 2 ^ 149 → 0 < G → i ≤ 2 ^ 24
    → playhead r g i ≡ round binary64 false (i * R) G
unfolding playhead
playhead_is r g R G i f v w hi G0 I =
    let Q = 2 ^ 149 in
    div_at binary64 (mul binary64 (whole i) r) g (i * R) Q G Q (lit< tt) (lit< tt) (product r R i f v hi I) w G0
    ∙ round_same binary64 false (i * R * Q) (G * Q) (i * R) G (mul-pos G0 (lit< tt)) G0 (swap (i * R) G Q)

-- ---- the error of that rounding
normal : (q R G Q u i : ℕ) → 0 < i → 3000 * Q ≤ R → G ≤ 768000 * Q → q * 256 ≤ u → q * G ≤ i * R * u
normal q R G Q u i I lo hi h =
    let g : G ≤ 256 * R = omega arith in
    omega (arith, mul-le-mul_left q g, mul-le-mul_right R h, mul-le-mul_right (R * u) I)

under : (x G B M : ℕ) → 0 < G → x ≤ B * G → B < M → x < M * G
under x G B M G0 h l = lt_of_le_of_lt h (mul-lt-mul_of_pos_right l G0)

in_frames : (P F B u x G z : ℕ) → 0 < P → x ≤ B * G → B * u ≤ P * F → Within (x * u) (P * z) (P * (x * u)) → Within (F * G) z (x * u)
in_frames P F B u x G z P0 h b w =
    let l = mul-le-mul_right u h in
    let r = mul-le-mul_right G b in
    (le_of_mul-le-mul_left {k = P} (omega arith) P0, le_of_mul-le-mul_left {k = P} (omega arith) P0)

at_none : (P R G u E : ℕ) → Within (0 * R * u) (P * (0 * G)) (P * (0 * R * u)) × Within E (0 * G) (0 * R * u)
at_none P R G u E = omega arith

same_instant : (r g : Float) (R G i : ℕ) → T (fits binary32 r) → HasValue r false R (2 ^ 149) → HasValue g false G (2 ^ 149) → 3000 * 2 ^ 149 ≤ R → R ≤ 768000 * 2 ^ 149
    → 3000 * 2 ^ 149 ≤ G → G ≤ 768000 * 2 ^ 149 → i ≤ 2 ^ 24 → i * R ≤ 2 ^ 25 * G → SameInstant r g i
same_instant r g R G zero f v w lo hi lo' hi' I near =
    let e : playhead r g 0 ≡ fin false 0 (pos 0) = playhead_is r g R G 0 f v w hi (rate_pos G (2 ^ 149) (lit< tt) lo') I ∙ round-zero binary64 false (0 * R) G (zero-mul R) (rate_pos G (2 ^ 149) (lit< tt) lo') in
    let n = at_none (2 ^ 53) R G (2 ^ 1074) _ in
    record { p = 0; s = R; t = G; position = subst (λ (x : Float). HasValue x false 0 (2 ^ 1074)) (sym e) (refl, refl); source_rate = v; target_rate = w; rounded = n.0; frames = n.1 }
same_instant r g R G (suc k) f v w lo hi lo' hi' I near =
    let i = suc k in
    let G0 = rate_pos G (2 ^ 149) (lit< tt) lo' in
    let d : Rounded binary64 (round binary64 false (i * R) G) (i * R) G =
    round_near binary64 (i * R) G G0 (normal (2 ^ 52) R G (2 ^ 149) (2 ^ 1074) i (zero-lt-suc k) lo hi' (lit≤ tt)) (under (i * R) G (2 ^ 25) (2 ^ 1023) G0 near (lit< tt)) in
    record {
      p = d.units;
      s = R;
      t = G;
      position = subst (λ (x : Float). HasValue x false d.units (2 ^ 1074)) (sym (playhead_is r g R G i f v w hi G0 I)) d.value;
      source_rate = v;
      target_rate = w;
      rounded = d.near;
      frames = in_frames (2 ^ 53) _ (2 ^ 25) (2 ^ 1074) (i * R) G (d.units * G) (lit< tt) near (lit≤ tt) d.near;
    }

-- ---- the result's length, and so how far its frames reach
ceil_value : (x : Float) (a c : ℕ) → 0 < c → HasValue x false a c → ceil binary64 x ≡ round binary64 false (lifted a c) 1
unfolding ceil
ceil_value nan a c C v = absurd v
ceil_value (inf t) a c C v = absurd v
ceil_value (fin true m e) a c C v = absurd (true≢false v.0)
ceil_value (fin false m e) a c C v = ap (λ (x : ℕ). round binary64 false x 1) (lifted_same (m * up e) (down e) a c (down_pos e) C v.1)

pub up_count : (x : Float) (a c : ℕ) → 0 < c → HasValue x false a c → lifted a c ≤ 2 ^ 53 → truncate (ceil binary64 x) ≡ lifted a c
up_count x a c C v l = ap truncate (ceil_value x a c C v) ∙ whole_count binary64 (lifted a c) l

lifted_le : (a c n : ℕ) → 0 < c → a ≤ n * c → lifted a c ≤ n
lifted_le a c n C h = le_of_suc-le-suc ((div-lt_iff_lt-mul C).1 (subst (λ (x : ℕ). a + (c - 1) < x) (sym (suc-mul n c)) (omega arith)))

lifted_lt : (a c i : ℕ) → 0 < c → i < lifted a c → i * c < a
lifted_lt a c i C h = let l : suc i * c ≤ a + (c - 1) = (le-div_iff_mul-le C).0 h in omega (arith, suc-mul i c)

-- x is at most 5 / 4 of y
nearly : (P x y : ℕ) → 4 ≤ P → P * x ≤ P * y + y → 4 * x ≤ 5 * y
nearly P x y h l = le_of_mul-le-mul_left {k = P} (omega (arith, mul-le-mul_right y h)) (lt_of_lt_of_le (lit< tt) h)

nearly_any : (P x y u : ℕ) → 0 < u → 4 ≤ P → 2 * (P * (x * (1 * u))) ≤ 2 * (P * (y * u)) + (2 * (y * u) + P * (1 * u)) → 4 * x ≤ 5 * y + 2
nearly_any P x y u U h l = le_of_mul-le-mul_left {k = P * u} (omega (arith, mul-le-mul_right (y * u) h)) (mul-pos (lt_of_lt_of_le (lit< tt) h) U)

few_ratio : (q R G u : ℕ) → 0 < R → G ≤ 256 * R → 4 * (q * R) ≤ 5 * (G * u) → q ≤ 320 * u
few_ratio q R G u R0 g a = le_of_mul-le-mul_right {k = R} (omega (arith, mul-le-mul_right u g)) R0

few : (n q Y u : ℕ) → n ≤ 16777216 → q ≤ 320 * u → 4 * Y ≤ 5 * (n * q) + 2 → 1 ≤ u → Y ≤ 9007199254740992 * u
few n q Y u N l b U = omega (arith, mul-le-mul_right q N)

product_under : (n q u M : ℕ) → n ≤ 16777216 → q ≤ 320 * u → 5368709120 < M → 0 < u → n * q < M * (1 * u)
product_under n q u M N l m U = omega (arith, mul-le-mul_right q N, mul-lt-mul_of_pos_right m U)

close : (R G Q : ℕ) → 3000 * Q ≤ G → R ≤ 768000 * Q → R ≤ 256 * G
close R G Q lo hi = omega arith

normal_ratio : (q G R Q u : ℕ) → 3000 * Q ≤ G → R ≤ 768000 * Q → q * 256 ≤ u → q * R ≤ G * u
normal_ratio q G R Q u lo hi h = omega (arith, mul-le-mul_left q (close R G Q lo hi), mul-le-mul_right G h)

ratio_under : (G R Q M : ℕ) → 0 < R → 3000 * Q ≤ R → G ≤ 768000 * Q → 256 < M → G < M * R
ratio_under G R Q M R0 lo hi m = lt_of_le_of_lt (close G R Q lo hi) (mul-lt-mul_of_pos_right m R0)

reach : (N q Y R G i u : ℕ) → 2048 ≤ u → N ≤ 16777216 → R ≤ 256 * G → 4 * (q * R) ≤ 5 * (G * u) → 4 * Y ≤ 5 * (N * q) + 2 → i * u < Y → i * R ≤ 33554432 * G
reach N q Y R G i u U n r a b c =
    le_of_mul-le-mul_right {k = u}
    (omega (arith, mul-le-mul_right R (le_of_lt c), mul-le-mul_right R b, mul-le-mul_left N a, mul-le-mul_right (G * u) n, mul-le-mul_left G U))
    (lt_of_lt_of_le (lit< tt) U)

module _ (shape : Shape) (rate : Float) (R G : ℕ) (v : HasValue shape.rate false R (2 ^ 149)) (w : HasValue rate false G (2 ^ 149)) (lo : 3000 * 2 ^ 149 ≤ R) (hi : R ≤ 768000 * 2 ^ 149) (lo' : 3000 * 2 ^ 149 ≤ G) (hi' : G ≤ 768000 * 2 ^ 149) (N : shape.frames ≤ 16777216) where
  pub ratio_is : div binary64 rate shape.rate ≡ round binary64 false G R
  ratio_is =
      let Q = 2 ^ 149 in
      let R0 = rate_pos R Q (lit< tt) lo in
      div_at binary64 rate shape.rate G Q R Q (lit< tt) (lit< tt) w v R0 ∙ round_same binary64 false (G * Q) (R * Q) G R (mul-pos R0 (lit< tt)) R0 (swap G R Q)

  far : (i : ℕ) → i < converted_length shape rate → i * R ≤ 33554432 * G
  unfolding converted_length
  far i h =
      let Q = 2 ^ 149 in
      let u = 2 ^ 1074 in
      let n = shape.frames in
      let R0 = rate_pos R Q (lit< tt) lo in
      let x : Rounded binary64 (div binary64 rate shape.rate) G R =
      rw ratio_is (round_near binary64 G R R0 (normal_ratio (2 ^ 52) G R Q u lo' hi (lit≤ tt)) (ratio_under G R Q (2 ^ 1023) R0 lo hi' (lit< tt))) in
      let a = nearly (2 ^ 53) (x.units * R) (G * u) (lit≤ tt) x.near.0 in
      let f = few_ratio x.units R G u R0 (close G R Q lo hi') a in
      let y : RoundedAny binary64 (mul binary64 (whole n) (div binary64 rate shape.rate)) (n * x.units) (1 * u) =
      mul_near_any binary64 (whole n) (div binary64 rate shape.rate) n 1 x.units u (lit< tt) (lit< tt) (whole_exact binary64 n (le_trans N (lit≤ tt))) x.value (product_under n x.units u (2 ^ 1023) N f (lit< tt) (lit< tt)) in
      let b = nearly_any (2 ^ 53) y.units (n * x.units) u (lit< tt) (lit≤ tt) y.near.0 in
      let l = lifted_le y.units u 9007199254740992 (lit< tt) (few n x.units y.units u N f b (lit≤ tt)) in
      let c : i < lifted y.units u = subst (λ (k : ℕ). i < k) {y = lifted y.units u} (up_count (mul binary64 (whole n) (div binary64 rate shape.rate)) y.units u (lit< tt) y.value l) h in
      reach n x.units y.units R G i u (lit≤ tt) N (close R G Q lo' hi) a b (lifted_lt y.units u i (lit< tt) c)

-- ---- what an accepted conversion says of its numbers
pub record Accepted (shape : Shape) (len : ℕ) (rate : Float) (made : Shape) : Type 0 where
  pub full : len ≡ shape.channels * shape.frames
  pub short : shape.frames ≤ 16777216
  pub own : T (valid_rate shape.rate)
  pub new : T (valid_rate rate)
  pub few : converted_length shape rate ≤ 16777216
  pub length : made.frames ≡ converted_length shape rate

pub accepted : (t : Tolerances) (shape : Shape) (len : ℕ) (rate : Float) (made : Shape) → Converts t shape len rate made → Accepted shape len rate made
unfolding converted_shape_with
accepted t shape len rate made h =
    go (valid_shape shape.channels shape.frames len) (valid_rate shape.rate) (valid_rate rate) (relabels_with t shape rate) (nat_lt max_frames (converted_length shape rate))
    refl refl refl h.changes refl h.accepted
  where
    ok_same : (p : Result Shape Refusal) {x y : Shape} → p ≡ Ok x → p ≡ Ok y → x ≡ y
    ok_same p e f = cc

    go : (v w z r l : Bool) → valid_shape shape.channels shape.frames len ≡ v → valid_rate shape.rate ≡ w → valid_rate rate ≡ z → r ≡ false
        → nat_lt max_frames (converted_length shape rate) ≡ l
        → cond (not v) (Err refused.Shape)
        (cond (not w) (Err refused.Rate)
        (cond (not z) (Err refused.Rate)
        (cond r (Ok (record { channels = shape.channels; frames = shape.frames; rate = rate }))
        (cond l (Err refused.Long) (Ok (record { channels = shape.channels; frames = converted_length shape rate; rate = rate })))))) ≡ Ok made
        → Accepted shape len rate made
    go true true true false false a b c d e k = record {
      full = (valid shape.channels shape.frames len a).full;
      short = (valid shape.channels shape.frames len a).short;
      own = subst T (sym b) tt;
      new = subst T (sym c) tt;
      few = ltb-false max_frames (converted_length shape rate) e;
      length = ap (λ (s : Shape). s.frames) (sym (ok_same _ refl k));
    }
    go true true true false true a b c d e k = absurd (cc)
    go true true true true l a b c d e k = absurd (cc)
    go true true false r l a b c d e k = absurd (cc)
    go true false z r l a b c d e k = absurd (cc)
    go false w z r l a b c d e k = absurd (cc)

pub instants : (t : Tolerances) (shape : Shape) (len : ℕ) (rate : Float) (made : Shape) → Converts t shape len rate made → (i : ℕ) → i < made.frames → SameInstant shape.rate rate i
instants t shape len rate made h i l =
    let a = accepted t shape len rate made h in
    let r = rate_of shape.rate h.source_single a.own in
    let g = rate_of rate h.target_single a.new in
    let m : i < converted_length shape rate = subst (λ (k : ℕ). i < k) a.length l in
    same_instant shape.rate rate r.units g.units i h.source_single r.value g.value r.low r.high g.low g.high (le_trans (le_of_lt (lt_of_lt_of_le m a.few)) (lit≤ tt))
    (far shape rate r.units g.units r.value g.value r.low r.high g.low g.high a.short i m)
