-- Seconds held against frames, in binary64 at a rate r from 3,000 to 768,000: what the position's roundings add up to, and what they leave decided. Assumes nothing.
use mathlib.Core.Path.{◌≡◌, refl, sym, ap, ◌∙◌, subst}
use mathlib.Core.Bool.{Bool, true, false, cond, true≢false}
use Prim.Native.Nat.{ℕ, suc, ◌+◌, ◌-◌, ◌*◌, ◌%◌, ◌^◌, ◌≤◌, ◌<◌}
use native.Mathlib.Nat.{le_trans, le_of_eq, le_of_lt, lt_of_le_of_lt, lt_of_lt_of_le, mul-one, mul-le-mul_left, mul-le-mul_right, le_of_mul-le-mul_left, le_of_mul-le-mul_right, lt_of_mul-lt-mul_right, mul-lt-mul_of_pos_right, mul-pos, one-mul, zero-mul, mod-eq_of_lt, mod_self, div-eq_of_lt-le}
use native.Mathlib.Omega.{arith}
use lib.Dec.{T, leb→le, lit<, lit≤}
use lib.Pow.{pow_mono}
use lib.Ieee.{Float, nan, inf, fin, binary64, add, mul, div, rem, lt, le, eq, ne, fits, of_int, of_bits, round, up, down, to_unsigned, Format}
use lib.Ieee.Fits.{div-fits, down_pos}
use lib.Ieee.Order.{round_mono}
use lib.Ieee.Positive.{first_pos}
use lib.Ieee.Scale.{round_same}
use lib.Ieee.Exact.{HasValue}
use Rattle.rounding.specs.Laws.{Within}
use Rattle.rounding.proofs.Error.{RoundedAny}
use Rattle.rounding.proofs.Operations.{Summed, add_is, div_at, div_near_any, mul_near_any, add_units}
use Rattle.rounding.proofs.Exact.{whole_exact, round_same_float}
use lib.Ieee.Back.{unsigned_back}
use borrow.Author.Tests.{ltb-true, ne_eqb, lt-ltb}
use Rattle.rounding.proofs.Compare.{lt_at, le_at}
use Rattle.rounding.proofs.Wholes.{away_value, cast_fits}
use Rattle.aligned.specs.Aligned.{first_frame}
use Rattle.claims.specs.LongRun.{Reports}
use Rattle.claims.proofs.Order.{lt_asym, lt_not_le, lt-le, lt_irrefl, ne_irrefl, value_finite}
use Rattle.claims.proofs.Units.{none_units, block_lasts, by_one, roughly, rate_pos, quotient_fine}
use Rattle.buffer.specs.Limits.{duration}
use Rattle.rounding.specs.Rounding.{whole}
use Rattle.seconds.specs.Seconds.{float_zero, never, one, block_seconds}

-- x seconds at the rate r, which is R of binary32's units, are a frames within j times 2 ^ -28 frame: counted in whole multiples of 2 ^ -1223
pub record Frames (r x : Float) (R j a : ℕ) : Type 0 where
  pub units : ℕ
  pub value : HasValue x false units (2 ^ 1074)
  pub near : Within (j * 2 ^ 1195) (units * R) (a * 2 ^ 1223)

-- ---- The arithmetic, with P for 2 ^ 53, Q for 2 ^ 149, u for 2 ^ 1074, W for 2 ^ 1223 (one frame) and E for 2 ^ 1195 (the error allowed to each step).
-- one sum more
sum_near : (P E W R X v d j a n : ℕ) → 0 < P → X * R + d * R + n * W ≤ P * E → Within (j * E) (X * R) (a * W) → Within (n * W) (P * (d * R)) (P * (n * W))
    → Within (X + d) (P * v) (P * (X + d)) → Within (suc j * E) (v * R) ((a + n) * W)
sum_near P E W R X v d j a n p small h g s =
    let a0 = mul-le-mul_right R s.0 in
    let a1 = mul-le-mul_right R s.1 in
    let b0 = mul-le-mul_left P h.0 in
    let b1 = mul-le-mul_left P h.1 in
    (le_of_mul-le-mul_left {k = P} (omega arith) p, le_of_mul-le-mul_left {k = P} (omega arith) p)

-- whose error is small: the sum is at most 2 ^ 24 + 2,049 frames
sum_small : (P E W R X d j a n : ℕ) → 0 < P → a ≤ 16777216 → j ≤ 1048576 → n ≤ 1024 → 1048576 * E ≤ W → 33554432 * W ≤ P * E
    → X * R ≤ a * W + j * E → P * (d * R) ≤ P * (n * W) + n * W → X * R + d * R + n * W ≤ P * E
sum_small P E W R X d j a n p A J N small room h g =
    let b = roughly P (d * R) (n * W) p g in
    omega (arith, mul-le-mul_right W A, mul-le-mul_right E J, mul-le-mul_right W N)

-- such a position is at most 2 ^ 24 seconds
brief : (Q u E R X j a : ℕ) → 0 < Q → 3000 * Q ≤ R → a ≤ 16778240 → j ≤ 1048577 → 1048577 * E ≤ Q * u → X * R ≤ a * (Q * u) + j * E → X ≤ 16777216 * u
brief Q u E R X j a q lo A J small h =
    le_of_mul-le-mul_right {k = Q} (omega (arith, mul-le-mul_left X lo, mul-le-mul_right (Q * u) A, mul-le-mul_right E J)) q

sum_fine : (X d n u M : ℕ) → 0 < u → X ≤ 16777216 * u → 1500 * d ≤ n * u → n ≤ 1024 → 16777218 ≤ M → X + d < M * u
sum_fine X d n u M U x h N m = omega (arith, mul-le-mul_right u N, mul-le-mul_right u m)

-- b frames by a division
whole_near : (P E W R d b : ℕ) → 0 < P → b ≤ 16777216 → 33554432 * W ≤ P * E → R ≤ E → Within (2 * (b * W) + P * R) (2 * (P * (d * R))) (2 * (P * (b * W))) → Within (1 * E) (d * R) (b * W)
whole_near P E W R d b p B room r h =
    let g = mul-le-mul_left P r in
    let k = mul-le-mul_right W B in
    (le_of_mul-le-mul_left {k = P} (omega arith) p, le_of_mul-le-mul_left {k = P} (omega arith) p)

flatten : (P b d R Q u : ℕ) → Within (2 * (b * Q * u) + P * (R * 1)) (2 * (P * (d * (R * 1)))) (2 * (P * (b * Q * u))) → Within (2 * (b * (Q * u)) + P * R) (2 * (P * (d * R))) (2 * (P * (b * (Q * u))))
flatten P b d R Q u h = omega arith

-- the product with the rate is m units, and nearest to a
product_shrink : (P Q u z m : ℕ) → 0 < u → Within (2 * (z * u) + P * (u * Q)) (2 * (P * (m * (u * Q)))) (2 * (P * (z * u))) → Within (2 * z + P * Q) (2 * (P * (m * Q))) (2 * (P * z))
product_shrink P Q u z m U h = (le_of_mul-le-mul_right {k = u} (omega arith) U, le_of_mul-le-mul_right {k = u} (omega arith) U)

-- the error of the product is below half a frame
product_error : (P E Q W z j a : ℕ) → a ≤ 16777216 → j ≤ 1048576 → 8388608 * E ≤ W → 134217729 ≤ P → 4 * Q ≤ W → z ≤ a * W + j * E → 8 * (P * (j * E)) + 8 * z + 4 * (P * Q) ≤ 3 * (P * W)
product_error P E Q W z j a A J small p q h =
    let e : 8 * (j * E) ≤ W = omega (arith, mul-le-mul_right E J) in
    let f : 8 * z ≤ 134217729 * W = omega (arith, mul-le-mul_right W A) in
    omega (arith, mul-le-mul_left P e, mul-le-mul_right W p, mul-le-mul_left P q)

product_fine : (E W M z j a : ℕ) → 0 < W → a ≤ 16777216 → j ≤ 1048576 → 1048576 * E ≤ W → 16777218 ≤ M → z ≤ a * W + j * E → z < M * W
product_fine E W M z j a w A J small m h = omega (arith, mul-le-mul_right W A, mul-le-mul_right E J, mul-le-mul_right W m)

product_near : (P E Q u z m j a : ℕ) → 0 < P → 0 < Q → 0 < u → 8 * (P * (j * E)) + 8 * z + 4 * (P * Q) ≤ 3 * (P * (Q * u)) → Within (j * E) z (a * (Q * u))
    → Within (2 * z + P * Q) (2 * (P * (m * Q))) (2 * (P * z)) → (a * (2 * u) ≤ 2 * m + u) × (2 * m + u < (a + 1) * (2 * u))
product_near P E Q u z m j a p q U small h g =
    let b0 = mul-le-mul_left P h.0 in
    let b1 = mul-le-mul_left P h.1 in
    let w : 0 < P * (Q * u) = mul-pos p (mul-pos q U) in (
      le_of_mul-le-mul_right {k = P * Q} (omega arith) (mul-pos p q),
      lt_of_mul-lt-mul_right (P * Q) (omega arith),
    )

-- of two positions, that of the smaller number of frames is below
ordered : (E W R X Y i j a b : ℕ) → (i + j) * E < W → a < b → X * R ≤ a * W + i * E → b * W ≤ Y * R + j * E → X < Y
ordered E W R X Y i j a b small l h g = lt_of_mul-lt-mul_right R (omega (arith, mul-le-mul_right W l))

nothing : (R E W : ℕ) → Within (0 * E) (0 * R) (0 * W)
nothing R E W = omega arith

reported : (E C B x y j : ℕ) → j ≤ C → C * E ≤ B → Within (j * E) x y → Within B x y
reported E C B x y j l b h = omega (arith, mul-le-mul_right E l)

-- ---- no frames
pub frames_zero : (r : Float) (R : ℕ) → Frames r float_zero R 0 0
frames_zero r R = record { units = 0; value = none_units; near = nothing R (2 ^ 1195) (2 ^ 1223) }

-- ---- fewer frames are fewer seconds
pub frames_below : (r x y : Float) (R i j a b : ℕ) → Frames r x R i a → Frames r y R j b → i + j < 268435456 → a < b
    → (lt x y ≡ true) × (lt y x ≡ false) × (le y x ≡ false) × (le x y ≡ true)
frames_below r x y R i j a b h g few l =
    let o = ordered (2 ^ 1195) (2 ^ 1223) R h.units g.units i j a b (mul-lt-mul_of_pos_right few (lit< tt)) l h.near.0 g.near.1 in
    let t : lt x y ≡ true = lt_at x y h.units (2 ^ 1074) g.units (2 ^ 1074) (lit< tt) (lit< tt) h.value g.value ∙ lt-ltb (h.units * 2 ^ 1074) (g.units * 2 ^ 1074) (mul-lt-mul_of_pos_right o (lit< tt)) in
    (t, lt_asym x y t, lt_not_le x y t, lt-le x y t)

-- ---- closed floats
never_value : HasValue never false ((2 ^ 53 - 1) * 2 ^ 971) 1
unfolding of_bits
never_value = (refl, refl)

pub one_one : mul binary64 one one ≡ one
unfolding of_bits mul
one_one = refl

pub one_same : ne one one ≡ false
unfolding of_bits ne
one_same = refl

pub none_same : (eq float_zero float_zero ≡ true) × (ne float_zero float_zero ≡ false)
unfolding of_bits eq ne
none_same = (refl, refl)

pub none_below_one : (lt float_zero one ≡ true) × (lt one float_zero ≡ false)
unfolding of_bits lt
none_below_one = (refl, refl)

-- ---- the remainder
other : {z : ℕ} → 0 < z → z ≡ 0 → ⊥
other p q = omega arith

-- what is below the divisor stays
rem_below : (f : Format) (x y : Float) (a c b d : ℕ) → HasValue x false a c → HasValue y false b d → T (fits f x) → lt x y ≡ true → rem f x y ≡ x
unfolding rem lt
rem_below f nan y a c b d h k t l = absurd h
rem_below f (inf s) y a c b d h k t l = absurd h
rem_below f (fin s m e) nan a c b d h k t l = absurd k
rem_below f (fin s m e) (inf p) a c b d h k t l = absurd k
rem_below f (fin true m e) (fin p n g) a c b d h k t l = absurd (true≢false h.0)
rem_below f (fin false m e) (fin true n g) a c b d h k t l = absurd (true≢false k.0)
rem_below f (fin false m e) (fin false n g) a c b d h k t l =
    let x = m * up e * down g in
    let y = n * up g * down e in
    let i : x < y = ltb-true x y l in
    let N : 0 < n = first_pos n (up g) (first_pos (n * up g) (down e) (above i)) in
    ap (λ (b : Bool). cond b nan (round f false (x % y) (down e * down g))) (ne_eqb n 0 (other N))
    ∙ ap (λ (z : ℕ). round f false z (down e * down g)) (mod-eq_of_lt i)
    ∙ round_same_float f (fin false m e) false x (down e * down g) (mul-pos (down_pos e) (down_pos g)) t (refl, same (m * up e) (down e) (down g))
  where
    above : {p q : ℕ} → p < q → 0 < q
    above l = omega arith

    same : (p q w : ℕ) → p * (q * w) ≡ p * w * q
    same p q w = omega arith

-- the divisor itself leaves nothing
rem_self : (x : Float) (a c : ℕ) → HasValue x false a c → 0 < a → rem binary64 x x ≡ float_zero
unfolding rem round of_bits
rem_self nan a c h l = absurd h
rem_self (inf s) a c h l = absurd h
rem_self (fin true m e) a c h l = absurd (true≢false h.0)
rem_self (fin false m e) a c h l =
    let x = m * up e * down e in
    let M : 0 < m = first_pos m (up e) (first_pos (m * up e) c (lt_of_lt_of_le (mul-pos l (down_pos e)) (le_of_eq (sym h.1)))) in
    ap (λ (b : Bool). cond b nan (round binary64 false (x % x) (down e * down e))) (ne_eqb m 0 (other M))
    ∙ ap (λ (z : ℕ). round binary64 false z (down e * down e)) (mod_self x)
    ∙ round_same binary64 false 0 (down e * down e) 0 1 (mul-pos (down_pos e) (down_pos e)) (lit< tt) (zero-mul 1 ∙ sym (zero-mul (down e * down e)))

-- ---- seconds that only grow, and stand still at 2 ^ 60
pub record Elapsed (x : Float) : Type 0 where
  pub units : ℕ
  pub value : HasValue x false units (2 ^ 1074)
  pub bound : units ≤ 2 ^ 60 * 2 ^ 1074

-- the next f64 is 2 ^ 60 + 256
stands : HasValue (round binary64 false (2 ^ 60 + 1) 1) false (2 ^ 60) 1
unfolding round
stands = (refl, refl)

grown : (x d n u C : ℕ) → x ≤ C * u → 1500 * d ≤ n * u → n ≤ 1024 → (x + d) * 1 ≤ (C + 1) * u
grown x d n u C h g N = omega (arith, mul-le-mul_right u N)

grown_fine : (x u C M : ℕ) → 0 < u → x * 1 ≤ (C + 1) * u → C + 2 ≤ M → x < M * u
grown_fine x u C M U h m = omega (arith, mul-le-mul_right u m)

pub elapsed_none : Elapsed float_zero
elapsed_none = record { units = 0; value = none_units; bound = lit≤ tt }

far : (x y z : ℕ) → x ≤ y → y < z → x * 1 < z
far x y z h l = omega arith

pub elapsed_under_never : (x : Float) → Elapsed x → (le never x ≡ false) × (lt never x ≡ false)
elapsed_under_never x h =
    let N = (2 ^ 53 - 1) * 2 ^ 971 in
    let u = 2 ^ 1074 in
    let e : lt x never ≡ true = lt_at x never h.units u N 1 (lit< tt) (lit< tt) h.value never_value ∙ lt-ltb (h.units * 1) (N * u) (far h.units (2 ^ 60 * u) (N * u) h.bound (lit< tt)) in
    (lt_not_le x never e, lt_asym x never e)

module _ (r : Float) (R : ℕ) (v : HasValue r false R (2 ^ 149)) (lo : 3000 * 2 ^ 149 ≤ R) (hi : R ≤ 768000 * 2 ^ 149) where
  -- ---- the position grows by a block of n = 2 ^ k samples
  pub frames_add : (k : ℕ) → k ≤ 10 → (x : Float) (j a : ℕ) → Frames r x R j a → a ≤ 16777216 → j ≤ 1048576 → Frames r (add binary64 x (block_seconds (2 ^ k) r)) R (suc j) (a + 2 ^ k)
  frames_add k K x j a h A J =
      let d = block_lasts r R v lo hi k K in
      let n = 2 ^ k in
      let N : n ≤ 2 ^ 10 = pow_mono K in
      let X = h.units in
      let X-brief = brief (2 ^ 149) (2 ^ 1074) (2 ^ 1195) R X j a (lit< tt) lo (le_trans A (lit≤ tt)) (le_trans J (lit≤ tt)) (lit≤ tt) h.near.0 in
      let s : Summed binary64 (add binary64 x (block_seconds n r)) (X + d.units) =
      add_units binary64 x (block_seconds n r) X d.units h.value d.value (sum_fine X d.units n (2 ^ 1074) (2 ^ 1023) (lit< tt) X-brief d.brief N (lit≤ tt)) in
      let small = sum_small (2 ^ 53) (2 ^ 1195) (2 ^ 1223) R X d.units j a n (lit< tt) A J N (lit≤ tt) (lit≤ tt) h.near.0 d.near.0 in
      record { units = s.units; value = s.value; near = sum_near (2 ^ 53) (2 ^ 1195) (2 ^ 1223) R X s.units d.units j a n (lit< tt) small h.near d.near s.near }

  pub elapsed_add : (k : ℕ) → k ≤ 10 → (x : Float) → Elapsed x → Elapsed (add binary64 x (block_seconds (2 ^ k) r))
  elapsed_add k K x h =
      let d = block_lasts r R v lo hi k K in
      let n = 2 ^ k in
      let u = 2 ^ 1074 in
      let y = block_seconds n r in
      let q = h.units + d.units in
      let g = grown h.units d.units n u (2 ^ 60) h.bound d.brief (pow_mono K) in
      let s : Summed binary64 (add binary64 x y) q = add_units binary64 x y h.units d.units h.value d.value (grown_fine q u (2 ^ 60) (2 ^ 1023) (lit< tt) g (lit≤ tt)) in
      let m : T (le (add binary64 x y) (round binary64 false (2 ^ 60 + 1) 1)) =
      rw (add_is binary64 x y h.units d.units h.value d.value) (round_mono binary64 q u (2 ^ 60 + 1) 1 (lit< tt) (lit< tt) g) in
      let l = le_at (add binary64 x y) (round binary64 false (2 ^ 60 + 1) 1) s.units u (2 ^ 60) 1 (lit< tt) (lit< tt) s.value stands in
      record { units = s.units; value = s.value; bound = by_one s.units (2 ^ 60 * u) (leb→le (s.units * 1) (2 ^ 60 * u) (subst T l m)) }

  -- ---- b frames by a division
  pub frames_whole : (b : ℕ) → b ≤ 16777216 → Frames r (div binary64 (whole b) r) R 1 b
  frames_whole b B =
      let q : RoundedAny binary64 (div binary64 (whole b) r) (b * 2 ^ 149) (R * 1) =
      div_near_any binary64 (whole b) r b 1 R (2 ^ 149) (lit< tt) (lit< tt) (whole_exact binary64 b (le_trans B (lit≤ tt))) v (rate_pos R (2 ^ 149) (lit< tt) lo)
      (quotient_fine b (2 ^ 1023) R (2 ^ 149) (lit< tt) lo (lt_of_le_of_lt B (lit< tt))) in
      record {
        units = q.units;
        value = q.value;
        near = whole_near (2 ^ 53) (2 ^ 1195) (2 ^ 1223) R q.units b (lit< tt) B (lit≤ tt) (le_trans hi (lit≤ tt)) (flatten (2 ^ 53) b q.units R (2 ^ 149) (2 ^ 1074) q.near);
      }

  pub frames_duration : (b : ℕ) → b ≤ 16777216 → Frames r (duration b r) R 1 b
  unfolding duration
  frames_duration b B = frames_whole b B

  -- ---- the first frame is the one that the position counts
  pub first_frame_lem : (x : Float) (j a : ℕ) → Frames r x R j a → a ≤ 16777216 → j ≤ 1048576 → first_frame x r ≡ a
  unfolding first_frame of_int
  first_frame_lem x j a h A J =
      let u = 2 ^ 1074 in
      let Q = 2 ^ 149 in
      let X = h.units in
      let z = X * R in
      let p : RoundedAny binary64 (mul binary64 x r) z (u * Q) = mul_near_any binary64 x r X u R Q (lit< tt) (lit< tt) h.value v (product_fine (2 ^ 1195) (2 ^ 1223) (2 ^ 1023) z j a (lit< tt) A J (lit≤ tt) (lit≤ tt) h.near.0) in
      let e = product_error (2 ^ 53) (2 ^ 1195) Q (2 ^ 1223) z j a A J (lit≤ tt) (lit≤ tt) (lit≤ tt) h.near.0 in
      let d = product_near (2 ^ 53) (2 ^ 1195) Q u z p.units j a (lit< tt) (lit< tt) (lit< tt) e h.near (product_shrink (2 ^ 53) Q u z p.units (lit< tt) p.near) in
      ap (to_unsigned 64) (away_value binary64 (mul binary64 x r) false p.units u (lit< tt) p.value ∙ ap (λ (n : ℕ). round binary64 false n 1) (div-eq_of_lt-le (2 * u) d.0 d.1))
      ∙ back a A
    where
      back : (n : ℕ) → n ≤ 16777216 → to_unsigned 64 (round binary64 false n 1) ≡ n
      back n l = (unsigned_back binary64 64 n (cast_fits n (le_trans l (lit≤ tt))) (lt_of_le_of_lt l (lit< tt))).1

  -- within 1 / 1,024 frame
  pub reports : (x : Float) (j a : ℕ) → Frames r x R j a → j ≤ 262144 → Reports r x a
  reports x j a h l =
      let n = reported (2 ^ 1195) 262144 (2 ^ 1213) (h.units * R) (a * 2 ^ 1223) j l (lit≤ tt) h.near in
      record { r = R; t = h.units; per_second = v; reported = h.value; at_most = n.0; at_least = n.1 }

  -- ---- the own rate is the ratio 1
  pub ratio_one : div binary64 r r ≡ one
  unfolding round of_bits
  ratio_one =
      let Q = 2 ^ 149 in
      let P = rate_pos R Q (lit< tt) lo in
      div_at binary64 r r R Q R Q (lit< tt) (lit< tt) v v P ∙ round_same binary64 false (R * Q) (R * Q) 1 1 (mul-pos P (lit< tt)) (lit< tt) (mul-one (R * Q) ∙ sym (one-mul (R * Q)))

  -- ---- a position is far below f64::MAX
  frames_elapsed : (x : Float) (j a : ℕ) → Frames r x R j a → a ≤ 16778240 → j ≤ 1048577 → Elapsed x
  frames_elapsed x j a h A J =
      record { units = h.units; value = h.value; bound = le_trans (brief (2 ^ 149) (2 ^ 1074) (2 ^ 1195) R h.units j a (lit< tt) lo A J (lit≤ tt) h.near.0) (lit≤ tt) }

  pub never_far : (x : Float) (j a : ℕ) → Frames r x R j a → a ≤ 16778240 → j ≤ 1048577 → lt never x ≡ false
  never_far x j a h A J = (elapsed_under_never x (frames_elapsed x j a h A J)).1

  -- ---- b frames after a wrap, fewer than the clip's, stay as they are
  pub wrap_part : (b L : ℕ) → b < L → L ≤ 16777216 → rem binary64 (div binary64 (whole b) r) (duration L r) ≡ div binary64 (whole b) r
  wrap_part b L l L24 =
      let x = div binary64 (whole b) r in
      let h = frames_whole b (le_trans (le_of_lt l) L24) in
      let g = frames_duration L L24 in
      rem_below binary64 x (duration L r) h.units (2 ^ 1074) g.units (2 ^ 1074) h.value g.value (div-fits binary64 (whole b) r) (frames_below r x (duration L r) R 1 1 b L h g (lit< tt) l).0

  -- ---- the seconds of a clip of L frames
  module _ (L : ℕ) (L1 : 1 ≤ L) (L24 : L ≤ 16777216) where
    clip_positive : 0 < (frames_duration L L24).units
    clip_positive = ordered (2 ^ 1195) (2 ^ 1223) R 0 (frames_duration L L24).units 0 1 0 L (lit< tt) L1 (nothing R (2 ^ 1195) (2 ^ 1223)).0 (frames_duration L L24).near.1

    pub clip_not_none : (lt float_zero (duration L r) ≡ true) × (lt (duration L r) float_zero ≡ false) × (le (duration L r) float_zero ≡ false) × (le float_zero (duration L r) ≡ true)
    clip_not_none = frames_below r float_zero (duration L r) R 0 1 0 L (frames_zero r R) (frames_duration L L24) (lit< tt) L1

    pub clip_itself : (lt (duration L r) (duration L r) ≡ false) × (ne (duration L r) (duration L r) ≡ false)
    clip_itself = (lt_irrefl (duration L r), ne_irrefl (duration L r) (value_finite (duration L r) false (frames_duration L L24).units (2 ^ 1074) (frames_duration L L24).value))

    -- the whole clip is no frames
    pub wrap_whole : rem binary64 (div binary64 (whole L) r) (duration L r) ≡ float_zero
    unfolding duration
    wrap_whole = rem_self (duration L r) (frames_duration L L24).units (2 ^ 1074) (frames_duration L L24).value clip_positive
