-- `detune::factor` meets its contract: the quotient is the definition's factor. Assumes nothing.
-- By hand: `search` gave up at one of its limits, at the f64 of the whole number and at what is returned.
use mathlib.Core.Path.{◌≡◌, refl, sym, ap, ◌∙◌}
use mathlib.Core.Bool.{Bool, true, false, cond}
use Prim.Native.Nat.{ℕ, ◌*◌, ◌/◌, ◌%◌, ◌^◌, ◌<◌}
use native.Mathlib.Nat.{mod-eq_of_lt, lt_of_lt_of_le}
use native.Mathlib.Omega.{arith}
use lib.Dec.{T, le→leb, lit≤}
use lib.IntN.{ℤ, pos}
use lib.Ieee.{binary64, round, div, up, down, of_int, in_float, of_bits}
use mir.Syntax.{w32}
use mir.Val.{SFits, to_z, of_z}
use mir.Facts.{to_z-of_z}
use Rattle.std.specs.Prelude.{Option, Some, None, Ok}
use Rattle.detune.specs.Counted.{counted, from_lowest}
use Rattle.detune.specs.Detune.{entry, octaves, above, bad_cents, factor_of, factored}
use Rattle.detune.proofs.Quotient.{index, below, quotient}
use Rattle.detune.proofs.Rule.{entry_below}
use Rattle.detune.proofs.factor.Goals as goal

-- cents that are counted are not bad
told : (z : ℤ) (k : ℕ) → Some k ≡ counted z → (bad_cents z ≡ false) × (k ≡ from_lowest z)
unfolding counted
told z k h = go (bad_cents z) h
  where
    go : (b : Bool) → Some k ≡ cond b None (Some (from_lowest z)) → (b ≡ false) × (k ≡ from_lowest z)
    go true h = (cc, cc)
    go false h = (refl, cc)

module _ (z : ℤ) (k e : ℕ) (r : Option ℕ) (own : SFits w32 z) (read : r ≡ counted (to_z w32 (of_z w32 z))) (some : r ≡ Some k) (of : e ≡ entry (k % 1200)) where
  is : (bad_cents z ≡ false) × (k ≡ from_lowest z)
  is = told z k (sym some ∙ read ∙ ap counted (to_z-of_z {w = w32} {z = z} own))

  entered : e ≡ entry (above z)
  entered = of ∙ ap entry (ap (λ (n : ℕ). n % 1200) is.1 ∙ index z is.0)

  small : e < 2 ^ 31
  small = rw of (entry_below (k % 1200) (omega arith))

  fits : e * 2 ^ (k / 1200) < 2 ^ 51
  fits = rw is.1 (below z e is.0 small)

  same : e * 2 ^ (k / 1200) % 18446744073709551616 ≡ e * 2 ^ (from_lowest z / 1200)
  same = mod-eq_of_lt (lt_of_lt_of_le fits (lit≤ tt)) ∙ ap (λ (n : ℕ). e * 2 ^ (n / 1200)) is.1

  holds : T (in_float binary64 (pos (e * 2 ^ (k / 1200) % 18446744073709551616)))
  unfolding in_float
  holds = rw same (le→leb (e * 2 ^ (from_lowest z / 1200)) (2 ^ 53) (let t = below z e is.0 small in omega (arith, t)))

  answer : Ok (div binary64 (of_int binary64 (pos (e * 2 ^ (k / 1200) % 18446744073709551616))) (of_bits binary64 4787326403894837248)) ≡ factored z
  unfolding factored factor_of of_bits
  answer = rw (same, is.0) (ap Ok (quotient z e is.0 small ∙ ap (λ (n : ℕ). round binary64 false (n * up (octaves z)) (2 ^ 30 * down (octaves z))) entered))

pub int_to_float-result : goal.int_to_float-result
int_to_float-result c =
    holds c.args.cents c.in_ok-k.k c.from.result c.counted.result c.ranges.cents c.counted.ensures c.in_ok-k.ensures.ok_part (c.from.ensures ∙ c.entry.ensures)

pub returns : goal.returns
returns c =
    answer c.args.cents c.in_ok-k.k c.from.result c.counted.result c.ranges.cents c.counted.ensures c.in_ok-k.ensures.ok_part (c.from.ensures ∙ c.entry.ensures)
