-- A finite f64, read from its pattern. Assumes nothing.
use Rattle.std.proofs.Common.{◌≡◌, ℕ, ◌*◌, ◌^◌, ◌<◌, true, not, T, ◌⊎◌, sym, ap, ◌∙◌, subst, inl, inr, true≢false, eq-or-lt_of_le}
use mathlib.Core.Bool.{false≢true}
use lib.Ieee.{Float, nan, inf, fin, binary64, fits, is_nan, of_bits, to_bits}
use lib.Ieee.Bits.{of_bits-to_bits}
use lib.Ieee.Exact.{HasValue}
use lib.Ieee.Scale.{finite}
use Rattle.rounding.specs.Fields.{field, digits, place, negative}
use Rattle.rounding.proofs.Read.{read, read_inf, field_le, no_nan_bits}

finite_no_nan : (x : Float) → finite x ≡ true → T (not (is_nan x))
unfolding is_nan
finite_no_nan nan e = absurd (false≢true e)
finite_no_nan (inf s) e = absurd (false≢true e)
finite_no_nan (fin s m k) e = tt

-- what the pattern of a finite value tells
pub record Finite (x : Float) : Type 0 where
  pub number : T (not (is_nan x))
  pub small : field binary64 (to_bits binary64 x) < 2047
  pub value : HasValue x (negative binary64 (to_bits binary64 x)) (digits binary64 (to_bits binary64 x) * 2 ^ place binary64 (to_bits binary64 x)) (2 ^ 1074)

pub of_finite : (x : Float) → T (fits binary64 x) → finite x ≡ true → Finite x
of_finite x h e = record { number = finite_no_nan x e; small = small; value = subst (λ (y : Float). HasValue y (negative binary64 n) (digits binary64 n * 2 ^ place binary64 n) (2 ^ 1074)) same (read binary64 n small) }
  where
    n : ℕ
    n = to_bits binary64 x

    same : of_bits binary64 n ≡ x
    same = of_bits-to_bits binary64 x h

    small : field binary64 n < 2047
    small = go (eq-or-lt_of_le (field_le binary64 n))
      where
        go : (field binary64 n ≡ 2047) ⊎ (field binary64 n < 2047) → field binary64 n < 2047
        go (inl f) = absurd (true≢false (sym e ∙ ap finite (sym same ∙ read_inf binary64 n f (no_nan_bits binary64 x h (finite_no_nan x e)))))
        go (inr l) = l
