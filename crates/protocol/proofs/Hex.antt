-- The hex digits that `commands` reads are those of std that are no small letters. Assumes nothing.
use Rattle.std.proofs.Common.{◌≡◌, refl, ◌∙◌, ℕ, ◌+◌, ◌*◌, ◌≤◌, Bool, true, false, ◌&&◌, cond, ltb, List, [], ◌∷◌, length, Option, Some, None, SomeIff, arith}
use Rattle.std.specs.Prelude.{option_and_then}
use Rattle.std.specs.Char.{digit_value}
use Rattle.std.specs.List.{list_all}
use Rattle.std.specs.Str.Parse.{digits_value, digits_value_after}
use Rattle.std.proofs.lemmas.Bool.{eq-eqb}
use Rattle.std.proofs.lemmas.Bool.Decides.{nat_tests}
use Rattle.commands.specs.Digits.{hex_digit, hex_from, read_hex}
use Rattle.protocol.specs.Numbers.{IsHex, are_digits, is_hex}
use Rattle.protocol.proofs.Tests.{hex_passes, passing_hex}

digit_is : (b : ℕ) → hex_digit b ≡ cond (ltb (digit_value b) 16 && ltb b 97) (Some (digit_value b)) None
unfolding hex_digit
digit_is b = grind (arith, nat_tests)

-- one digit more, and the others
step : (p q r s : Bool) (f : ℕ → Option ℕ) (d x : ℕ) → f d ≡ cond (r && s) (Some x) None → option_and_then f (cond (p && q) (Some d) None) ≡ cond ((p && r) && (q && s)) (Some x) None
step true true r s f d x e = e
step true false true s f d x e = refl
step true false false s f d x e = refl
step false q r s f d x e = refl

from_is : (v : ℕ) (l : List ℕ) → hex_from v l ≡ cond (are_digits 16 l && list_all (λ b. ltb b 97) l) (Some (digits_value_after 16 v l)) None
unfolding hex_from
from_is v [] = refl
from_is v (b ∷ bs) =
    let swap : 16 * v + digit_value b ≡ v * 16 + digit_value b = omega arith in
    let e : hex_from (16 * v + digit_value b) bs ≡ cond (are_digits 16 bs && list_all (λ b. ltb b 97) bs) (Some (digits_value_after 16 (v * 16 + digit_value b) bs)) None =
    rw swap (from_is (v * 16 + digit_value b) bs) in
    rw (digit_is b) (step (ltb (digit_value b) 16) (ltb b 97) (are_digits 16 bs) (list_all (λ b. ltb b 97) bs) (λ d. hex_from (16 * v + d) bs) (digit_value b) _ e)

by_test : {P : Type 0} (b : Bool) (v : ℕ) (r : Option ℕ) → (P → b ≡ true) → (b ≡ true → P) → r ≡ cond b (Some v) None → SomeIff r P v
by_test true v None to from e = absurd (cc)
by_test true v (Some x) to from e = (from refl, cc)
by_test false v None to from e = λ p. absurd (let h : false ≡ true = to p in cc)
by_test false v (Some x) to from e = absurd (cc)

-- so few digits as a u64 has are read
few_read : (word : List ℕ) → length word ≤ 16 → read_hex word ≡ hex_from 0 word
unfolding read_hex
few_read word few = grind (arith, nat_tests)

pub hex_reads : (count : ℕ) (word : List ℕ) (r : Option ℕ) → count ≤ 16 → length word ≡ count → r ≡ read_hex word → SomeIff r (IsHex count word) (digits_value 16 word)
hex_reads count word r few len e =
    let test : is_hex count word ≡ (are_digits 16 word && list_all (λ b. ltb b 97) word) = rw (eq-eqb (length word) count len) refl in
    by_test (is_hex count word) _ r (hex_passes count word) (passing_hex count word) (e ∙ few_read word (rw len few) ∙ from_is 0 word ∙ rw test refl)
