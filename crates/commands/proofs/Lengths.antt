-- How long numbers are as digits.
use Rattle.std.proofs.Common.{◌≡◌, refl, ap, [], ◌∷◌, ◌++◌, Bool, true, false, cond, ℕ, zero, suc, ◌/◌, ◌%◌, ◌≤◌, ltb, length, length-append, arith}
use Rattle.commands.specs.Digits.{digit, hex, decimal_of}

pub length_hex : (n v : ℕ) → length (hex n v) ≡ n
unfolding hex
length_hex zero v = refl
length_hex (suc n) v = ap suc (length_hex n v)

pub length_decimal : (n v : ℕ) → length (decimal_of n v) ≤ n
unfolding decimal_of
length_decimal zero v = omega arith
length_decimal (suc n) v = go (ltb v 10) (length_decimal n (v / 10))
  where
    go : (t : Bool) → length (decimal_of n (v / 10)) ≤ n → length (cond t (digit v ∷ []) (decimal_of n (v / 10) ++ (digit (v % 10) ∷ []))) ≤ suc n
    go true h = omega arith
    go false h = simp length-append (omega arith)
