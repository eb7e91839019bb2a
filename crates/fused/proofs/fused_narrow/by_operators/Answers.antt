-- `fused::fused_narrow::by_operators` meets its contract. Assumes nothing.
-- By hand: with laws named on the function some of its 8 goals are not proved.
use Rattle.std.proofs.Common.{◌≡◌, ℕ, ◌+◌, ◌*◌, ◌/◌, ◌%◌, ◌^◌, ◌<◌, ◌≤◌, true, cond, not, T, ◌⊎◌, ◌∙◌, inl, inr, arith, rules}
use Rattle.std.proofs.lemmas.Float.{T_from_true}
use lib.Ieee.{Float, nan, inf, fin, Format, binary32, binary64, add, mul, is_nan, fits, to_bits, unlike}
use lib.Ieee.Bits.{to_bits-lt}
use lib.Ieee.Fits.{add-fits}
use Rattle.rounding.specs.Fields.{negative}
use Rattle.rounding.specs.Rounding.{convert, narrow}
use Rattle.fused.specs.Apart.{Apart}
use Rattle.fused.specs.Fused.{fma}
use Rattle.fused.specs.Tied.{Tied}
use Rattle.rounding.proofs.Read.{convert_fits}
use Rattle.rounding.proofs.SignBit.{sign_bit}
use Rattle.fused.proofs.NearTie.{narrow_tied}
use Rattle.fused.proofs.Twice.{narrow_alike}
use Rattle.fused.proofs.fused_narrow.by_operators.Goals as goal

-- ---- no NaN is among the operands of a sum or a product that is none
sum_no_nan : (f : Format) (x y : Float) → T (not (is_nan (add f x y))) → T (not (is_nan x)) × T (not (is_nan y))
unfolding add is_nan
sum_no_nan f nan y h = absurd h
sum_no_nan f (inf s) nan h = absurd h
sum_no_nan f (inf s) (inf t) h = (tt, tt)
sum_no_nan f (inf s) (fin t m d) h = (tt, tt)
sum_no_nan f (fin s m d) nan h = absurd h
sum_no_nan f (fin s m d) (inf t) h = (tt, tt)
sum_no_nan f (fin s m d) (fin t n e) h = (tt, tt)

product_no_nan : (f : Format) (x y : Float) → T (not (is_nan (mul f x y))) → T (not (is_nan x)) × T (not (is_nan y))
unfolding mul is_nan
product_no_nan f nan y h = absurd h
product_no_nan f (inf s) nan h = absurd h
product_no_nan f (inf s) (inf t) h = (tt, tt)
product_no_nan f (inf s) (fin t m d) h = (tt, tt)
product_no_nan f (fin s m d) nan h = absurd h
product_no_nan f (fin s m d) (inf t) h = (tt, tt)
product_no_nan f (fin s m d) (fin t n e) h = (tt, tt)

-- ---- the pattern that either gives is that of the fused sum
abbrev p_bits : Float → Float → ℕ
p_bits a b = to_bits binary64 (mul binary64 a b)

abbrev y_bits : Float → Float → Float → ℕ
y_bits a b c = to_bits binary64 (add binary64 (mul binary64 a b) c)

abbrev Given : Float → Float → Float → ℕ → Type 0
Given a b c r =
    Apart (y_bits a b c % 2 ^ 63) r
    ⊎ Tied (to_bits binary64 a) (to_bits binary64 b) (to_bits binary64 c) (y_bits a b c % 2 ^ 63) (unlike (negative binary64 (p_bits a b)) (negative binary64 (y_bits a b c))) (unlike (negative binary64 (to_bits binary64 c)) (negative binary64 (y_bits a b c))) r

is_fused : (a b c : Float) (r : ℕ) → fits binary64 a ≡ true → fits binary64 b ≡ true → fits binary64 c ≡ true → T (not (is_nan (add binary64 (mul binary64 a b) c))) → p_bits a b % 2 ^ 63 ≤ y_bits a b c % 2 ^ 63 + 5 * 2 ^ 52 → Given a b c r
    → cond (negative binary64 (y_bits a b c)) (2 ^ 31) 0 + r ≡ narrow (fma binary64 a b c)
is_fused a b c r A B C n l (inl h) = narrow_alike a b c (T_from_true _ A) (T_from_true _ B) (T_from_true _ C) r (sum_no_nan binary64 _ c n).0 n l h
is_fused a b c r A B C n l (inr h) = narrow_tied a b c (T_from_true _ A) (T_from_true _ B) (T_from_true _ C) r (sum_no_nan binary64 _ c n).0 n l h

-- with a sign the pattern fits 32 bits
narrow_lt : (x : Float) → narrow x < 2 ^ 32
unfolding narrow
narrow_lt x = to_bits-lt binary32 (convert binary32 x) (convert_fits binary32 x)

fits_32 : (b r : ℕ) (x : Float) → b < 2 ^ 64 → cond (negative binary64 b) (2 ^ 31) 0 + r ≡ narrow x → b / 2 ^ 63 * 2 ^ 31 + r < 2 ^ 32
fits_32 b r x l e = let h = narrow_lt x in let s = sign_bit b l in omega arith

-- ---- the needs
pub float_to_bits-product : goal.float_to_bits-product
float_to_bits-product c = (sum_no_nan binary64 _ c.args.c (search rules)).0

pub float_to_bits-a : goal.float_to_bits-a
float_to_bits-a c = (product_no_nan binary64 _ c.args.b (sum_no_nan binary64 _ c.args.c (search rules)).0).0

pub float_to_bits-b : goal.float_to_bits-b
float_to_bits-b c = (product_no_nan binary64 c.args.a _ (sum_no_nan binary64 _ c.args.c (search rules)).0).1

pub float_to_bits-c : goal.float_to_bits-c
float_to_bits-c c = (sum_no_nan binary64 (mul binary64 c.args.a c.args.b) _ (search rules)).1

pub signed-requires : goal.signed-requires
signed-requires c = let a = c.args in fits_32 _ _ _ (to_bits-lt binary64 _ (add-fits binary64 _ _)) (is_fused a.a a.b a.c _ c.well_formed.0.1 c.well_formed.1.0.1 c.well_formed.1.1.0.1 (search rules) c.if-product-size.false (inl c.in-Some.ensures))

pub returns-in-Some : goal.returns-in-Some
returns-in-Some c = let a = c.args in c.signed.ensures ∙ is_fused a.a a.b a.c _ c.well_formed.0.1 c.well_formed.1.0.1 c.well_formed.1.1.0.1 (search rules) c.if-product-size.false (inl c.in-Some.ensures)

pub signed-requires-2 : goal.signed-requires-2
signed-requires-2 c =
    let a = c.args in
    let h : Given a.a a.b a.c c.in_ok-pattern.pattern = search rules in
    fits_32 _ _ _ (to_bits-lt binary64 _ (add-fits binary64 _ _)) (is_fused a.a a.b a.c _ c.well_formed.0.1 c.well_formed.1.0.1 c.well_formed.1.1.0.1 (search rules) c.if-product-size.false h)

pub returns : goal.returns
returns c =
    let a = c.args in
    let h : Given a.a a.b a.c c.in_ok-pattern.pattern = search rules in
    c.signed-2.ensures ∙ is_fused a.a a.b a.c _ c.well_formed.0.1 c.well_formed.1.0.1 c.well_formed.1.1.0.1 (search rules) c.if-product-size.false h
