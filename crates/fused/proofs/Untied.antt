-- A pattern apart from the ties (`Apart`), and the f32 pattern of every value near it. Assumes nothing.
use Rattle.std.proofs.Common.{◌≡◌, ℕ, ◌+◌, ◌-◌, ◌*◌, ◌/◌, ◌%◌, ◌^◌, ◌<◌, ◌≤◌, min, Bool, true, false, ltb, refl, ap, ◌∙◌, inl, inr, arith, le-ltb, lt-ltb, ne_eqb}
use lib.Ieee.{binary64}
use lib.Ieee.Nearest.{closest}
use borrow.Author.Tests.{lt-leb}
use Rattle.fused.specs.Apart.{Apart}
use Rattle.rounding.specs.Fields.{field, digits, place, negative, Full}
use Rattle.rounding.specs.Laws.{Within}
use Rattle.rounding.specs.Raise.{raise}
use Rattle.fused.proofs.Bounds.{closest_is}
use Rattle.rounding.proofs.Raised.{guard_clear, where_set}
use Rattle.rounding.proofs.Single.{pat, high, place_field}
use Rattle.rounding.proofs.Sum.{Order, order, less, more, none}

-- ---- the digits and the place of such a pattern
pub record Parts (b d k : ℕ) : Type 0 where
  pub sum : k * 2 ^ 52 + d ≡ b
  pub full : 2 ^ 52 ≤ d
  pub short : d < 2 * 2 ^ 52
  pub low : 897 ≤ k
  pub high : k ≤ 1148

-- a pattern whose field is not 0
pub normal_digits : (b : ℕ) → 0 < field binary64 b → digits binary64 b ≡ 2 ^ 52 + b % 2 ^ 52
unfolding digits
normal_digits b l = rw (ne_eqb (field binary64 b) 0 (differ (field binary64 b) l)) refl
  where
    differ : (x : ℕ) → 0 < x → x ≡ 0 → ⊥
    differ x l e = omega arith

-- a pattern in the f32's normal range
module _ (b : ℕ) (least : 898 * 2 ^ 52 ≤ b) (most : b < 1150 * 2 ^ 52) where
  pub digits_are : digits binary64 b ≡ 2 ^ 52 + b % 2 ^ 52
  digits_are = normal_digits b (omega arith)

  pub place_is : place binary64 b ≡ b / 2 ^ 52 - 1
  place_is = place_field b ∙ omega arith

  pub parts : Parts b (digits binary64 b) (place binary64 b)
  parts = let d = digits_are in let k = place_is in record { sum = omega arith; full = omega arith; short = omega arith; low = omega arith; high = omega arith }

module _ (b d k : ℕ) (g : Parts b d k) where
  pub not_negative : negative binary64 b ≡ false
  not_negative = lt-leb (2 ^ 63) b (omega arith)

  pub below_ones : field binary64 b < 2047
  below_ones = omega arith

-- no tie is at most 512 from b: x counts from 513 above a tie, and the guard is set up to half way to the next tie
pub apart : (b x : ℕ) (l : Bool) → 898 * 2 ^ 52 ≤ b → b < 1150 * 2 ^ 52 → x ≡ (b + 0xfff_fdff) % 0x2000_0000 → x < 0x1fff_fbff
    → Apart b (b / 0x2000_0000 + raise (ltb x 0xfff_fdff) true l - 0x1_c000_0000)
apart b x l lo hi e far = go (order x 0xfff_fdff)
  where
    clear : 0xfff_fdff ≤ x → Apart b (b / 0x2000_0000 + raise (ltb x 0xfff_fdff) true l - 0x1_c000_0000)
    clear h = let z = guard_clear (ltb x 0xfff_fdff) true l (le-ltb x 0xfff_fdff h) in record { least = lo; most = hi; above = omega arith; under = omega arith }

    go : Order x 0xfff_fdff → Apart b (b / 0x2000_0000 + raise (ltb x 0xfff_fdff) true l - 0x1_c000_0000)
    go (less h) = let z = where_set (ltb x 0xfff_fdff) true l (lt-ltb x 0xfff_fdff h) (inl refl) in record { least = lo; most = hi; above = omega arith; under = omega arith }
    go (none h) = clear (omega arith)
    go (more h) = clear (omega arith)

module _ (b r : ℕ) (h : Apart b r) where
  -- the digits e at the place j, whose pattern is at most 512 from b
  high_place : (e j : ℕ) → e < 2 * 2 ^ 52 → Within 512 (j * 2 ^ 52 + e) b → 896 ≤ j
  high_place e j s w = omega (arith, h.least)

  in_use : (e j : ℕ) → 896 ≤ j → Full (2 ^ 52) j e → 2 ^ 52 ≤ e
  in_use e j l (inl z) = absurd (omega arith)
  in_use e j l (inr f) = f

  pub same_pattern : (e j : ℕ) → e < 2 * 2 ^ 52 → Full (2 ^ 52) j e → Within 512 (j * 2 ^ 52 + e) b → pat false e j ≡ r
  same_pattern e j s f w =
      let l : 896 ≤ j = high_place e j s w in
      let u : 2 ^ 52 ≤ e = in_use e j l f in
      let q : ℕ = r + 896 * 2 ^ 23 - j * 2 ^ 23 in
      let c : closest e (2 ^ 29) ≡ q = closest_is e q (2 ^ 29) (omega (arith, h.above, h.under)) (omega (arith, h.above, h.under)) (omega arith) in
      high false e j s l f ∙ ap (λ (x : ℕ). 0 + min ((j - 896) * 0x80_0000 + x) 0x7f80_0000) c ∙ omega (arith, h.above, h.under, h.most)
