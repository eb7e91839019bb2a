-- The remainder of a by b, both above zero, as src/remainder.rt computes it: b is doubled, and each double comes off. Each double, each half and each difference is exact. Assumes nothing.
use Rattle.std.proofs.Common.{◌≡◌, ℕ, zero, suc, ◌-◌, ◌*◌, ◌/◌, ◌%◌, ◌^◌, ◌<◌, ◌≤◌, Bool, true, false, not, T, ltb, leb, sym, refl, ap, ◌∙◌, subst, le_of_eq, lt_of_lt_of_le, lt_of_le_of_lt, mul_assoc, mul-one, mul-pos, add-one, mul-le-mul_right, mul-lt-mul_of_pos_right, lt_of_mul-lt-mul_right, le_of_mul-le-mul_right, arith, ltb→lt, nltb→le, leb→le, pow_pos, pow-add, mod-eq_of_lt}
use Rattle.std.proofs.Math.Nat.{mod-mod_of_dvd, mod-eq-sub-mod, mul-div_cancel, dvd-mul_right}
use lib.Dec.{nleb→lt}
use lib.Ieee.{Float, Format, binary64, prec, low, round, sub, mul, div, rem, lt, le, fits, of_bits}
use lib.Ieee.Exact.{HasValue, round_exact}
use lib.Ieee.Fits.{sub-fits, mul-fits, div-fits, rem-fits}
use lib.Ieee.Order.{round_mono}
use lib.Ieee.Positive.{num, den, den_pos, positive, own_value, value_pos, value→cross}
use lib.Ieee.Scale.{round_same}
use Rattle.rounding.specs.Doubled.{count, IsDoubled}
use Rattle.rounding.proofs.Compare.{lt_at, le_at, ltb_same, is_not_le}
use Rattle.rounding.proofs.Difference.{sterbenz}
use Rattle.rounding.proofs.Exact.{significand, same_float, value_unique, fits_under, round_same_float, mul-pow}
use Rattle.rounding.proofs.Modulo.{rem_exact}
use Rattle.rounding.proofs.Operations.{sub_is, div_at}

-- ---- a value above zero is a count of units, above zero too
pub record Units (f : Format) (x : Float) : Type 0 where
  pub count : ℕ
  pub some : 0 < count
  pub value : HasValue x false count (2 ^ low f)

pub units_of : (f : Format) (x : Float) → T (fits f x) → T (positive x) → Units f x
units_of f x p g =
    let s = significand f x false (num x) (den x) p (own_value x g) in
    record { count = s.q * 2 ^ s.j; some = value_pos x (s.q * 2 ^ s.j) (2 ^ low f) g (pow_pos (low f)) s.value; value = s.value }

pub count_is : (x : Float) (X : ℕ) → HasValue x false X (2 ^ low binary64) → count x ≡ X
count_is x X h = ap (λ (z : ℕ). z / den x) (value→cross x X (2 ^ low binary64) h) ∙ mul-div_cancel X (den_pos x)

pub lt_units : (f : Format) (x y : Float) (X Y : ℕ) → HasValue x false X (2 ^ low f) → HasValue y false Y (2 ^ low f) → lt x y ≡ ltb X Y
lt_units f x y X Y h k =
    let u = 2 ^ low f in
    let U : 0 < u = pow_pos (low f) in
    lt_at x y X u Y u U U h k ∙ ltb_same (X * u) (Y * u) X Y (λ l. lt_of_mul-lt-mul_right u l) (λ l. le_of_mul-le-mul_right l U)

le_units : (x y : Float) (X Y : ℕ) → HasValue x false X (2 ^ low binary64) → HasValue y false Y (2 ^ low binary64) → le x y ≡ leb (X * 2 ^ low binary64) (Y * 2 ^ low binary64)
le_units x y X Y h k = let U = pow_pos (low binary64) in le_at x y X (2 ^ low binary64) Y (2 ^ low binary64) U U h k

le_of_le_units : (x y : Float) (X Y : ℕ) → HasValue x false X (2 ^ low binary64) → HasValue y false Y (2 ^ low binary64) → le x y ≡ true → X ≤ Y
le_of_le_units x y X Y h k e = le_of_mul-le-mul_right (leb→le (X * 2 ^ low binary64) (Y * 2 ^ low binary64) (subst T (sym e ∙ le_units x y X Y h k) tt)) (pow_pos (low binary64))

lt_of_not_le_units : (x y : Float) (X Y : ℕ) → HasValue x false X (2 ^ low binary64) → HasValue y false Y (2 ^ low binary64) → le x y ≡ false → Y < X
lt_of_not_le_units x y X Y h k e =
    lt_of_mul-lt-mul_right (2 ^ low binary64) (nleb→lt (X * 2 ^ low binary64) (Y * 2 ^ low binary64) (subst (λ (z : Bool). T (not z)) (sym e ∙ le_units x y X Y h k) tt))

abbrev two : Float
two = of_bits binary64 4611686018427387904

two_value : HasValue two false (2 ^ 1) 1
unfolding of_bits
two_value = (refl, refl)

-- ---- x is X units, y is Y
module _ (x y : Float) (p : T (fits binary64 x)) (q : T (fits binary64 y)) (X Y : ℕ) (h : HasValue x false X (2 ^ low binary64)) (k : HasValue y false Y (2 ^ low binary64)) (P : 0 < Y) where
  u : ℕ
  u = 2 ^ low binary64

  U : 0 < u
  unfolding u
  U = pow_pos (low binary64)

  pub not_below : lt x y ≡ false → Y ≤ X
  not_below e = nltb→le X Y (subst (λ (z : Bool). T (not z)) (sym e ∙ lt_units binary64 x y X Y h k) tt)

  -- what is left of the first difference tells whether x is twice y
  is_twice : Y ≤ X → le y (sub binary64 x y) ≡ true → Y * 2 ≤ X
  unfolding u
  is_twice l e = nltb→le X (Y * 2) (go (ltb X (Y * 2)) (ltb→lt X (Y * 2)))
    where
      no : X < Y * 2 → ⊥
      no m =
          let d : HasValue (sub binary64 x y) false (X - Y) u = sterbenz binary64 x y X Y p q h k l (omega arith) in
          subst (λ (z : Bool). T (not z)) e (is_not_le y (sub binary64 x y) Y u (X - Y) u U U k d (mul-lt-mul_of_pos_right (omega arith) U))

      go : (z : Bool) → (T z → X < Y * 2) → T (not z)
      go true t = absurd (no (t tt))
      go false t = tt

  is_once : Y ≤ X → le y (sub binary64 x y) ≡ false → X < Y * 2
  unfolding u
  is_once l e = ltb→lt X (Y * 2) (go (ltb X (Y * 2)) (nltb→le X (Y * 2)))
    where
      no : Y * 2 ≤ X → ⊥
      no m =
          subst T e
          (subst (λ (z : Float). T (le z (sub binary64 x y))) (round_same_float binary64 y false Y u U q k)
          (subst (λ (z : Float). T (le (round binary64 false Y u) z)) (sym (sub_is binary64 x y X Y h k l))
          (round_mono binary64 Y u (X - Y) u U U (mul-le-mul_right u (omega arith)))))

      go : (z : Bool) → (T (not z) → Y * 2 ≤ X) → T z
      go true t = tt
      go false t = absurd (no (t tt))

  -- ---- w is twice y
  abbrev w : Float
  w = mul binary64 y two

  twice_value : Y * 2 ≤ X → HasValue w false (Y * 2) (2 ^ low binary64)
  twice_value m = mul-pow binary64 y two false Y 1 q k two_value (lt_of_le_of_lt m (fits_under binary64 x false X p h))

-- ---- half of an even number of units
record Short (n : ℕ) : Type 0 where
  q : ℕ
  j : ℕ
  short : q < 2 ^ prec binary64
  is : n ≡ q * 2 ^ j

twofold : (y t : ℕ) → y * 2 ^ suc t ≡ y * 2 ^ t * 2
twofold y t = ap (λ (z : ℕ). y * 2 ^ z) (sym (add-one t)) ∙ ap (λ (z : ℕ). y * z) (pow-add 2 t 1) ∙ sym (mul_assoc y (2 ^ t) 2)

short_half : (q j n : ℕ) → q < 2 ^ prec binary64 → q * 2 ^ j ≡ n * 2 → Short n
short_half q zero n l e = record { q = n; j = 0; short = lt_of_le_of_lt (smaller q n e) l; is = sym (mul-one n) }
  where
    smaller : (q n : ℕ) → q * 1 ≡ n * 2 → n ≤ q
    smaller q n e = omega arith
short_half q (suc j) n l e = record { q = q; j = j; short = l; is = half n (q * 2 ^ j) (sym e ∙ twofold q j) }
  where
    half : (n m : ℕ) → n * 2 ≡ m * 2 → n ≡ m
    half n m e = omega arith

pub half_value : (x : Float) (n : ℕ) → T (fits binary64 x) → HasValue x false (n * 2) (2 ^ low binary64) → HasValue (div binary64 x two) false n (2 ^ low binary64)
half_value x n p h =
    let v = 2 ^ low binary64 in
    let V : 0 < v = pow_pos (low binary64) in
    let s = significand binary64 x false (n * 2) v p h in
    let e : n * 2 ≡ s.q * 2 ^ s.j = value_unique x false (n * 2) (s.q * 2 ^ s.j) v h s.value in
    let d = short_half s.q s.j n s.short (sym e) in
    let is : div binary64 x two ≡ round binary64 false n v =
    div_at binary64 x two (n * 2) v (2 ^ 1) 1 V (pow_pos 0) h two_value (pow_pos 1)
    ∙ round_same binary64 false (n * 2 * 1) (2 ^ 1 * v) n v (mul-pos (pow_pos 1) V) V (same n v) in
    rw is (round_exact binary64 false n v d.q d.j V d.short (lt_of_le_of_lt (below d.q d.j n d.is) (fits_under binary64 x false (n * 2) p h)) (ap (λ (z : ℕ). z * v) d.is))
  where
    same : (n v : ℕ) → n * 2 * 1 * v ≡ n * (2 * v)
    same n v = omega arith

    below : (q j n : ℕ) → n ≡ q * 2 ^ j → q * 2 ^ j ≤ n * 2
    below q j n e = omega arith

-- ---- what is left of a, r, is below d, a double of b
pub record Left (a b d r : Float) : Type 0 where
  pub doubled : IsDoubled b d
  pub fits : T (fits binary64 r)
  pub units : ℕ
  pub value : HasValue r false units (2 ^ low binary64)
  pub less : units < count d
  pub same : units % count b ≡ count a % count b

-- X less a multiple of Y that it holds once
taken : (X Y n : ℕ) → Y * n ≤ X → X < Y * n * 2 → (X - Y * n) % Y ≡ X % Y
taken X Y n l m =
    ap (λ (z : ℕ). z % Y) (sym (mod-eq-sub-mod l ∙ mod-eq_of_lt (omega arith)))
    ∙ mod-mod_of_dvd Y X (dvd-mul_right Y n)

times_more : (y t d : ℕ) → d ≡ y * 2 ^ t → d * 2 ≡ y * 2 ^ suc t
times_more y t d e = ap (λ (z : ℕ). z * 2) e ∙ sym (twofold y t)

own : (x : Float) → T (fits binary64 x) → T (positive x) → HasValue x false (count x) (2 ^ low binary64)
own x p g = let s = units_of binary64 x p g in subst (λ (z : ℕ). HasValue x false z (2 ^ low binary64)) (sym (count_is x s.count s.value)) s.value

some_units : (x : Float) → T (fits binary64 x) → T (positive x) → 0 < count x
some_units x p g = let s = units_of binary64 x p g in subst (λ (z : ℕ). 0 < z) (sym (count_is x s.count s.value)) s.some

-- a and b are above zero
module _ (a b : Float) (p' : fits binary64 a ≡ true) (q' : fits binary64 b ≡ true) (g' : positive a ≡ true) (i' : positive b ≡ true) where
  p : T (fits binary64 a)
  p = subst T (sym p') tt

  q : T (fits binary64 b)
  q = subst T (sym q') tt

  h : HasValue a false (count a) (2 ^ low binary64)
  h = own a p (subst T (sym g') tt)

  k : HasValue b false (count b) (2 ^ low binary64)
  k = own b q (subst T (sym i') tt)

  P : 0 < count b
  P = some_units b q (subst T (sym i') tt)

  pub once : lt a b ≡ false → IsDoubled b b × (count b ≤ count a)
  once e = (
    record { times = 0; fits = q; value = subst (λ (z : ℕ). HasValue b false z (2 ^ low binary64)) (sym (mul-one (count b))) k },
    not_below a b p q (count a) (count b) h k P e,
  )

  module _ (d : Float) where
    is : (m : IsDoubled b d) → count d ≡ count b * 2 ^ m.times
    is m = count_is d (count b * 2 ^ m.times) m.value

    v : IsDoubled b d → HasValue d false (count d) (2 ^ low binary64)
    v m = subst (λ (z : ℕ). HasValue d false z (2 ^ low binary64)) (sym (is m)) m.value

    Q : IsDoubled b d → 0 < count d
    Q m = subst (λ (z : ℕ). 0 < z) (sym (is m)) (mul-pos P (pow_pos m.times))

    -- ---- up: twice d
    twice : (m : IsDoubled b d) → count d ≤ count a → le d (sub binary64 a d) ≡ true → count d * 2 ≤ count a
    twice m l e = is_twice a d p m.fits (count a) (count d) h (v m) (Q m) l e

    twice_units : (m : IsDoubled b d) → count d * 2 ≤ count a → HasValue (mul binary64 d two) false (count d * 2) (2 ^ low binary64)
    twice_units m t = twice_value a d p m.fits (count a) (count d) h (v m) (Q m) t

    pub up : IsDoubled b d × (count d ≤ count a) → le d (sub binary64 a d) ≡ true → IsDoubled b (mul binary64 d two) × (count (mul binary64 d two) ≤ count a)
    up m e =
        let t = twice m.0 m.1 e in
        let w = twice_units m.0 t in (
          record { times = suc m.0.times; fits = mul-fits binary64 d two; value = subst (λ (z : ℕ). HasValue (mul binary64 d two) false z (2 ^ low binary64)) (times_more (count b) m.0.times (count d) (is m.0)) w },
          subst (λ (z : ℕ). z ≤ count a) (sym (count_is (mul binary64 d two) (count d * 2) w)) t,
        )

    pub nearer : IsDoubled b d × (count d ≤ count a) → le d (sub binary64 a d) ≡ true → count a - count (mul binary64 d two) < count a - count d
    nearer m e =
        let t = twice m.0 m.1 e in
        subst (λ (z : ℕ). count a - z < count a - count d) (sym (count_is (mul binary64 d two) (count d * 2) (twice_units m.0 t))) (go (count a) (count d) (Q m.0) t)
      where
        go : (a d : ℕ) → 0 < d → d * 2 ≤ a → a - d * 2 < a - d
        go a d l m = omega arith

    pub enough : IsDoubled b d × (count d ≤ count a) → le d (sub binary64 a d) ≡ false → count a < count d * 2
    enough m e = is_once a d p m.0.fits (count a) (count d) h (v m.0) (Q m.0) m.1 e

    -- ---- down: half of d
    pub start : IsDoubled b d → count d ≤ count a → count a < count d * 2 → Left a b d (sub binary64 a d)
    start m l e =
        record {
          doubled = m;
          fits = sub-fits binary64 a d;
          units = count a - count d;
          value = sterbenz binary64 a d (count a) (count d) p m.fits h (v m) l (omega arith);
          less = omega arith;
          same = subst (λ (z : ℕ). z ≤ count a → count a < z * 2 → (count a - z) % count b ≡ count a % count b) (sym (is m)) (taken (count a) (count b) (2 ^ m.times)) l e;
        }

    record Halved : Type 0 where
      doubled : IsDoubled b (div binary64 d two)
      half : count (div binary64 d two) * 2 ≡ count d

    halved : IsDoubled b d → lt b d ≡ true → Halved
    halved m e = go m.times (is m) (v m)
      where
        above : count b < count d
        above = ltb→lt (count b) (count d) (subst T (sym e ∙ lt_units binary64 b d (count b) (count d) k (v m)) tt)

        no : (y c : ℕ) → y < c → c ≡ y * 1 → ⊥
        no y c l e = omega arith

        go : (t : ℕ) → count d ≡ count b * 2 ^ t → HasValue d false (count d) (2 ^ low binary64) → Halved
        go zero e w = absurd (no (count b) (count d) above e)
        go (suc t) e w =
            let n = count b * 2 ^ t in
            let f : n * 2 ≡ count d = sym (e ∙ twofold (count b) t) in
            let r : HasValue (div binary64 d two) false n (2 ^ low binary64) = half_value d n m.fits (subst (λ (z : ℕ). HasValue d false z (2 ^ low binary64)) (sym f) w) in
            record { doubled = record { times = t; fits = div-fits binary64 d two; value = r }; half = ap (λ (z : ℕ). z * 2) (count_is (div binary64 d two) n r) ∙ f }

    pub smaller : (r : Float) → Left a b d r → lt b d ≡ true → count (div binary64 d two) < count d
    smaller r f e = let s = halved f.doubled e in go (count (div binary64 d two)) (count d) s.half (Q f.doubled)
      where
        go : (n m : ℕ) → n * 2 ≡ m → 0 < m → n < m
        go n m e l = omega arith

    -- d is b again
    pub done : (r : Float) → Left a b d r → lt b d ≡ false → r ≡ rem binary64 a b
    done r f e =
        let u = 2 ^ low binary64 in
        let l : count d ≤ count b = nltb→le (count b) (count d) (subst (λ (z : Bool). T (not z)) (sym e ∙ lt_units binary64 b d (count b) (count d) k (v f.doubled)) tt) in
        let n : f.units ≡ count a % count b = sym (mod-eq_of_lt (lt_of_lt_of_le f.less l)) ∙ f.same in
        same_float binary64 r (rem binary64 a b) false f.units u (pow_pos (low binary64)) f.fits (rem-fits binary64 a b p) f.value
        (subst (λ (z : ℕ). HasValue (rem binary64 a b) false z u) (sym n) (rem_exact binary64 a b false false (count a) (count b) p q h k P))

  -- the half fits once, or not at all
  pub kept : (d r : Float) → Left a b d r → lt b d ≡ true → le (div binary64 d two) r ≡ false → Left a b (div binary64 d two) r
  kept d r f e o =
      let n = div binary64 d two in
      let s = halved d f.doubled e in
      record { doubled = s.doubled; fits = f.fits; units = f.units; value = f.value; less = lt_of_not_le_units n r (count n) f.units (v n s.doubled) f.value o; same = f.same }

  pub taken_off : (d r : Float) → Left a b d r → lt b d ≡ true → le (div binary64 d two) r ≡ true → Left a b (div binary64 d two) (sub binary64 r (div binary64 d two))
  taken_off d r f e o =
      let n = div binary64 d two in
      let s = halved d f.doubled e in
      let l : count n ≤ f.units = le_of_le_units n r (count n) f.units (v n s.doubled) f.value o in
      let m : f.units < count n * 2 = lt_of_lt_of_le f.less (le_of_eq (sym s.half)) in
      record {
        doubled = s.doubled;
        fits = sub-fits binary64 r n;
        units = f.units - count n;
        value = sterbenz binary64 r n f.units (count n) f.fits s.doubled.fits f.value (v n s.doubled) l (omega arith);
        less = omega arith;
        same = subst (λ (z : ℕ). z ≤ f.units → f.units < z * 2 → (f.units - z) % count b ≡ f.units % count b) (sym (is n s.doubled)) (taken f.units (count b) (2 ^ s.doubled.times)) l m ∙ f.same;
      }
