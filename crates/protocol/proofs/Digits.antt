-- Digits that are read one by one. Assumes nothing.
use Rattle.std.specs.Prelude.{◌≡◌, ℕ, zero, suc, ◌+◌, ◌*◌, ◌^◌, ◌<◌, ◌≤◌, List, [], ◌∷◌, length, take, get_or}
use Rattle.std.specs.Char.{digit_value}
use Rattle.std.specs.Str.Parse.{AllDigits, digits_value}
use Rattle.std.proofs.Common.{arith, subst, length-take-le}
use Rattle.std.proofs.Math.Nat.{pow-le-pow_right}
use Rattle.std.proofs.lemmas.Int.Digits.{digits_value-lt, digits_value_more, digits_more}

-- each byte of digits is one
pub digit_at : (base : ℕ) (ds : List ℕ) (i : ℕ) → AllDigits base ds → i < length ds → digit_value (get_or ds i 0) < base
digit_at base [] i all below = absurd (omega (arith, below))
digit_at base (d ∷ ds) zero all below = all.0
digit_at base (d ∷ ds) (suc i) all below = digit_at base ds i all.1 (omega (arith, below))

-- a power grows with its exponent
pub power_up_to : (base m n : ℕ) → 0 < base → m ≤ n → base ^ m ≤ base ^ n
power_up_to base m n some le = pow-le-pow_right some le

-- so many digits write a number below the base's power
pub below_power : (base : ℕ) (ds : List ℕ) (n : ℕ) → AllDigits base ds → length ds ≡ n → digits_value base ds < base ^ n
below_power base ds n all len = subst (λ k. digits_value base ds < base ^ k) len (digits_value-lt base ds all)

-- eight hex digits fit 32 bits
pub eight_fit : (ds : List ℕ) → length ds ≡ 8 → AllDigits 16 ds → digits_value 16 ds < 2 ^ 32
eight_fit ds len all = below_power 16 ds 8 all len

-- one digit more writes a number that still fits
pub next_fits : (base : ℕ) (ds : List ℕ) (i : ℕ) → 0 < base → base ^ length ds ≤ 2 ^ 64 → i < length ds → AllDigits base (take i ds)
    → digit_value (get_or ds i 0) < base → digits_value base (take i ds) * base + digit_value (get_or ds i 0) < 2 ^ 64
next_fits base ds i some fits below all digit =
    let more : digits_value base (take (i + 1) ds) < base ^ length (take (i + 1) ds) = digits_value-lt base (take (i + 1) ds) (digits_more base ds i below all digit) in
    let len : length (take (i + 1) ds) ≡ i + 1 = length-take-le (i + 1) ds (omega arith) in
    let power : base ^ length (take (i + 1) ds) ≤ base ^ length ds = pow-le-pow_right some (omega arith) in
    let value : digits_value base (take (i + 1) ds) ≡ digits_value base (take i ds) * base + digit_value (get_or ds i 0) = digits_value_more base ds i below in
    omega arith

-- the same of a decimal number
pub decimal_fits : (ds : List ℕ) (i : ℕ) → length ds ≤ 19 → i < length ds → AllDigits 10 (take i ds) → digit_value (get_or ds i 0) < 10
    → digits_value 10 (take i ds) * 10 + digit_value (get_or ds i 0) < 2 ^ 64
decimal_fits ds i few below all digit =
    let power : 10 ^ length ds ≤ 10 ^ 19 = power_up_to 10 (length ds) 19 (omega arith) few in
    next_fits 10 ds i (omega arith) (omega arith) below all digit
