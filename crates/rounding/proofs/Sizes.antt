-- The remainder of x by y from that of their sizes, in any format f: it has x's sign, and where the size of x is below that of y, it is x. Assumes nothing.
use Rattle.std.proofs.Common.{◌≡◌, ℕ, zero, suc, ◌+◌, ◌*◌, ◌%◌, ◌<◌, Bool, true, false, cond, not, T, eqb, ltb, sym, refl, ap, ◌∙◌, subst, zero-lt-suc, mul-pos, pow_pos, ltb→lt, lt-ltb, le-ltb, ne_eqb, arith}
use lib.Ieee.{Float, nan, inf, fin, Format, up, down, round, neg, lt, rem, fits, of_bits}
use lib.Ieee.Fits.{down_pos, up_pos}
use lib.Ieee.Positive.{positive}
use Rattle.rounding.specs.Rounding.{magnitude, regular}
use Rattle.rounding.proofs.Compare.{lt_value}
use Rattle.rounding.proofs.Modulo.{rem_less, zero_value}
use Rattle.rounding.proofs.Signs.{round_not}

no : {A : Type 0} → false ≡ true → A
no e = absurd (subst T (sym e) tt)

on : {A : Type 0} → true ≡ false → A
on e = absurd (subst T e tt)

some : (i j k : ℕ) → i < j * k → 0 < j
some i zero k h = absurd (nothing i k h)
  where
    nothing : (i k : ℕ) → i < 0 * k → ⊥
    nothing i k h = omega arith
some i (suc j) k h = zero-lt-suc j

is_some : (n : ℕ) → not (eqb (suc n) 0) ≡ true
is_some n = ap not (ne_eqb (suc n) 0 (λ e. unequal n e))
  where
    unequal : (n : ℕ) → suc n ≡ 0 → ⊥
    unequal n e = omega arith

-- ---- a dividend that is smaller
pub by_size : (f : Format) (x y : Float) → T (fits f x) → lt (magnitude x) (magnitude y) ≡ true → x ≡ rem f x y
unfolding magnitude lt rem
by_size f nan nan p e = no e
by_size f nan (inf t) p e = no e
by_size f nan (fin t n d) p e = no e
by_size f (inf s) nan p e = no e
by_size f (inf s) (inf t) p e = no e
by_size f (inf s) (fin t n d) p e = no e
by_size f (fin s m g) nan p e = no e
by_size f (fin s m g) (inf t) p e = refl
by_size f (fin s m g) (fin t n d) p e =
    let l : m * up g * down d < n * up d * down g = ltb→lt (m * up g * down d) (n * up d * down g) (subst T (sym e) tt) in
    sym (rem_less f (fin s m g) (fin t n d) s t (m * up g) (down g) (n * up d) (down d) (down_pos g) (down_pos d)
    (some (m * up g * down d) (n * up d) (down g) l) (refl, refl) (refl, refl) p l)

-- ---- and else, where one is no number, infinite or zero, there is none
zero_below : (m n : ℕ) (g d k : ℕ) → 0 < n → 0 < g → 0 < k → ltb (0 * m * d) (n * g * k) ≡ true
zero_below m n g d k N G K = lt-ltb (0 * m * d) (n * g * k) (subst (λ (z : ℕ). z < n * g * k) (nought m d) (mul-pos (mul-pos N G) K))
  where
    nought : (i j : ℕ) → 0 ≡ 0 * i * j
    nought i j = omega arith

pub none_by_dividend : (f : Format) (x y : Float) → regular x ≡ false → lt (magnitude x) (magnitude y) ≡ false → nan ≡ rem f x y
unfolding magnitude regular lt rem
none_by_dividend f nan y r e = refl
none_by_dividend f (inf s) y r e = refl
none_by_dividend f (fin s m g) nan r e = refl
none_by_dividend f (fin s m g) (inf t) r e = on e
none_by_dividend f (fin s m g) (fin t zero d) r e = refl
none_by_dividend f (fin s zero g) (fin t (suc n) d) r e = on (sym (zero_below (up g) (suc n) (up d) (down d) (down g) (zero-lt-suc n) (up_pos d) (down_pos g)) ∙ e)
none_by_dividend f (fin s (suc m) g) (fin t (suc n) d) r e = on (sym (is_some m) ∙ r)

pub none_by_divisor : (f : Format) (x y : Float) → regular y ≡ false → lt (magnitude x) (magnitude y) ≡ false → nan ≡ rem f x y
unfolding magnitude regular lt rem
none_by_divisor f nan y r e = refl
none_by_divisor f (inf s) y r e = refl
none_by_divisor f (fin s m g) nan r e = refl
none_by_divisor f (fin s m g) (inf t) r e = on e
none_by_divisor f (fin s m g) (fin t zero d) r e = refl
none_by_divisor f (fin s m g) (fin t (suc n) d) r e = on (sym (is_some n) ∙ r)

-- ---- the sizes of numbers that are not zero, and the sign
pub size_positive : (x : Float) → regular x ≡ true → positive (magnitude x) ≡ true
unfolding magnitude regular
size_positive nan r = no r
size_positive (inf s) r = no r
size_positive (fin s zero g) r = no r
size_positive (fin s (suc m) g) r = lt-ltb 0 (suc m) (zero-lt-suc m)

pub is_negative : (f : Format) (x y : Float) → regular x ≡ true → lt x (of_bits f 0) ≡ true → neg (rem f (magnitude x) (magnitude y)) ≡ rem f x y
unfolding magnitude regular rem neg
is_negative f nan y r e = no r
is_negative f (inf s) y r e = no r
is_negative f (fin false m g) y r e =
    no (sym (lt_value (fin false m g) (of_bits f 0) false false (m * up g) (down g) 0 1 (down_pos g) (pow_pos 0) (refl, refl) (zero_value f)
    ∙ le-ltb (m * up g * 1) (0 * down g) (omega arith)) ∙ e)
is_negative f (fin true m g) nan r e = refl
is_negative f (fin true m g) (inf t) r e = refl
is_negative f (fin true m g) (fin t n d) r e = go (eqb n 0)
  where
    a : ℕ
    a = m * up g * down d % (n * up d * down g)

    c : ℕ
    c = down g * down d

    go : (z : Bool) → neg (cond z nan (round f false a c)) ≡ cond z nan (round f true a c)
    go true = refl
    go false = sym (round_not f false a c)

pub is_positive : (f : Format) (x y : Float) → regular x ≡ true → lt x (of_bits f 0) ≡ false → rem f (magnitude x) (magnitude y) ≡ rem f x y
unfolding magnitude regular rem
is_positive f nan y r e = no r
is_positive f (inf s) y r e = no r
is_positive f (fin true zero g) y r e = no r
is_positive f (fin true (suc m) g) y r e =
    on (sym (lt_value (fin true (suc m) g) (of_bits f 0) true false (suc m * up g) (down g) 0 1 (down_pos g) (pow_pos 0) (refl, refl) (zero_value f)
    ∙ lt-ltb 0 (suc m * up g * 1 + 0 * down g) (lt_more (suc m * up g) (down g) (mul-pos (zero-lt-suc m) (up_pos g)))) ∙ e)
  where
    lt_more : (i j : ℕ) → 0 < i → 0 < i * 1 + 0 * j
    lt_more i j h = omega arith
is_positive f (fin false m g) nan r e = refl
is_positive f (fin false m g) (inf t) r e = refl
is_positive f (fin false m g) (fin t n d) r e = refl
