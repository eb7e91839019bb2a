-- A word as a number, by facts and by tests. Assumes nothing.
use Rattle.std.proofs.Common.{◌≡◌, refl, ℕ, ◌<◌, Bool, true, false, ◌&&◌, cond, eqb, ltb, leb, List, [], ◌∷◌, length, Option, Some, None, SomeIff, arith}
use Rattle.std.specs.Char.{digit_value}
use Rattle.std.specs.List.{All, list_all}
use Rattle.std.specs.Str.Parse.{AllDigits, digits_value}
use Rattle.std.proofs.lemmas.Bool.{ltb-true, lt-ltb, leb-true, le-leb, eqb-true, eq-eqb}
use Rattle.std.proofs.lemmas.List.Sums.{AllPass-from_list_all, list_all-from_AllPass}
use Rattle.protocol.specs.Numbers.{IsDecimal, IsHex, are_digits, is_decimal, is_hex, decimal, hex}

digits_pass : (base : ℕ) (ds : List ℕ) → AllDigits base ds → are_digits base ds ≡ true
digits_pass base [] all = refl
digits_pass base (d ∷ ds) all = rw (lt-ltb (digit_value d) base all.0, digits_pass base ds all.1) refl

both_true : (a b : Bool) → (a && b) ≡ true → (a ≡ true) × (b ≡ true)
both_true true true e = (refl, refl)
both_true true false e = absurd (cc)
both_true false b e = absurd (cc)

passing_digits : (base : ℕ) (ds : List ℕ) → are_digits base ds ≡ true → AllDigits base ds
passing_digits base [] e = tt
passing_digits base (d ∷ ds) e =
    let both : (ltb (digit_value d) base ≡ true) × (are_digits base ds ≡ true) = both_true _ _ e in
    (ltb-true _ _ both.0, passing_digits base ds both.1)

below_pass : (n : ℕ) (bs : List ℕ) → All (λ b. b < n) bs → list_all (λ b. ltb b n) bs ≡ true
below_pass n bs all = list_all-from_AllPass (λ b. ltb b n) bs (λ k d h. lt-ltb _ _ (all k d h))

passing_below : (n : ℕ) (bs : List ℕ) → list_all (λ b. ltb b n) bs ≡ true → All (λ b. b < n) bs
passing_below n bs e = λ k d h. ltb-true _ _ (AllPass-from_list_all (λ b. ltb b n) bs e k d h)

decimal_passes : (word : List ℕ) → IsDecimal word → is_decimal word ≡ true
decimal_passes word h = rw (le-leb 1 (length word) h.0, le-leb (length word) 19 h.1, digits_pass 10 word h.2) refl

passing_decimal : (word : List ℕ) → is_decimal word ≡ true → IsDecimal word
passing_decimal word e =
    let one = both_true (leb 1 (length word)) (leb (length word) 19 && are_digits 10 word) e in
    let two = both_true (leb (length word) 19) (are_digits 10 word) one.1 in
    (leb-true _ _ one.0, leb-true _ _ two.0, passing_digits 10 word two.1)

pub hex_passes : (count : ℕ) (word : List ℕ) → IsHex count word → is_hex count word ≡ true
hex_passes count word h = rw (eq-eqb (length word) count h.0, digits_pass 16 word h.1, below_pass 97 word h.2) refl

pub passing_hex : (count : ℕ) (word : List ℕ) → is_hex count word ≡ true → IsHex count word
passing_hex count word e =
    let one = both_true (eqb (length word) count) (are_digits 16 word && list_all (λ b. ltb b 97) word) e in
    let two = both_true (are_digits 16 word) (list_all (λ b. ltb b 97) word) one.1 in
    (eqb-true _ _ one.0, passing_digits 16 word two.0, passing_below 97 word two.1)

-- an answer by a fact is that by a test which says the same
decided : {P : Type 0} (b : Bool) (v : ℕ) (r : Option ℕ) → (P → b ≡ true) → (b ≡ true → P) → SomeIff r P v → r ≡ cond b (Some v) None
decided true v None to from r = absurd (r (from refl))
decided true v (Some x) to from r = grind arith
decided false v None to from r = refl
decided false v (Some x) to from r = let e : false ≡ true = to r.0 in absurd (cc)

pub decimal_read : (word : List ℕ) (r : Option ℕ) → SomeIff r (IsDecimal word) (digits_value 10 word) → r ≡ decimal word
unfolding decimal
decimal_read word r h = decided (is_decimal word) _ r (decimal_passes word) (passing_decimal word) h

pub hex_read : (count : ℕ) (word : List ℕ) (r : Option ℕ) → SomeIff r (IsHex count word) (digits_value 16 word) → r ≡ hex count word
unfolding hex
hex_read count word r h = decided (is_hex count word) _ r (hex_passes count word) (passing_hex count word) h
