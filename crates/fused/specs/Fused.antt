-- docs/REFERENCE.md, 'Rounding': a * b + c, rounded once, over the values of IEEE 754 as the logic has them (`lib.Ieee`). Definitions only.
-- `sum f s a t b c` of `lib.Ieee` is a / c, with the sign s, and b / c, with the sign t, added and rounded to the format f.
-- `fin s m e` is m * 2 ^ e, which is m * up e / down e.
use Rattle.std.specs.Prelude.{ℕ, ◌*◌, Bool, cond, ◌==◌, Float}
use Rattle.std.specs.Bool.{beq}
use Rattle.std.specs.Float.{nan, inf, fin, Format}
use Rattle.std.specs.Float.Ieee.{up, down, unlike, sum}

-- ±p / q, exact, and c
unfoldable pub plus : Format → Bool → ℕ → ℕ → Float → Float
plus f s p q nan = nan
plus f s p q (inf t) = inf t
plus f s p q (fin t n d) = sum f s (p * down d) t (n * up d * q) (q * down d)

-- an infinity, and c
unfoldable pub inf_plus : Bool → Float → Float
inf_plus s nan = nan
inf_plus s (inf t) = cond (beq s t) (inf s) nan
inf_plus s (fin t n d) = inf s

-- a * b + c, rounded once; the NaN where a product or a sum of infinities has no value
unfoldable pub fma : Format → Float → Float → Float → Float
fma f nan b c = nan
fma f (inf s) nan c = nan
fma f (inf s) (inf t) c = inf_plus (unlike s t) c
fma f (inf s) (fin t n d) c = cond (n == 0) nan (inf_plus (unlike s t) c)
fma f (fin s m e) nan c = nan
fma f (fin s m e) (inf t) c = cond (m == 0) nan (inf_plus (unlike s t) c)
fma f (fin s m e) (fin t n d) c = plus f (unlike s t) (m * up e * (n * up d)) (down e * down d) c
