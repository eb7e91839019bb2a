-- A word as a number (oracle/PROTOCOL.md, 'Lines and words'). Definitions only.
use Rattle.std.specs.Prelude.{◌≡◌, ℕ, ℤ, ◌<◌, ◌≤◌, Bool, true, false, ◌&&◌, cond, eqb}
use Rattle.std.specs.Prelude.{ltb, leb, List, length, codes, bytes_eq, Float, Option, Some, None, option_map, option_and_then}
use Rattle.std.specs.List.{All, list_all}
use Rattle.std.specs.Char.{digit_value}
use Rattle.std.specs.Str.Parse.{AllDigits, digits_value}
use Rattle.std.specs.Int.{cast_signed, w32}
use Rattle.std.specs.Float.{binary32, binary64}
use Rattle.std.specs.Float.Ieee.{of_bits}

-- 'dec: 1 to 19 decimal digits'
abbrev pub IsDecimal : List ℕ → Type 0
IsDecimal word = (1 ≤ length word) × (length word ≤ 19) × AllDigits 10 word

-- so many 'upper-case hex digits': none is a small letter, and those begin at 97
abbrev pub IsHex : ℕ → List ℕ → Type 0
IsHex count word = (length word ≡ count) × AllDigits 16 word × All (λ b. b < 97) word

-- the same as tests
abbrev pub are_digits : ℕ → List ℕ → Bool
are_digits base word = list_all (λ b. ltb (digit_value b) base) word

abbrev pub is_decimal : List ℕ → Bool
is_decimal word = leb 1 (length word) && (leb (length word) 19 && are_digits 10 word)

abbrev pub is_hex : ℕ → List ℕ → Bool
is_hex count word = eqb (length word) count && (are_digits 16 word && list_all (λ b. ltb b 97) word)

-- the number that a word is, where it is one
unfoldable pub decimal : List ℕ → Option ℕ
decimal word = cond (is_decimal word) (Some (digits_value 10 word)) None

unfoldable pub hex : ℕ → List ℕ → Option ℕ
hex count word = cond (is_hex count word) (Some (digits_value 16 word)) None

-- a decimal number up to a bound
unfoldable pub decimal_up_to : ℕ → List ℕ → Option ℕ
decimal_up_to most word = option_and_then (λ n. cond (leb n most) (Some n) None) (decimal word)

-- 'f32: exactly 8 upper-case hex digits, the bits. f64: exactly 16. i32: exactly 8, two's complement'
unfoldable pub f32_word : List ℕ → Option Float
f32_word word = option_map (of_bits binary32) (hex 8 word)

unfoldable pub f64_word : List ℕ → Option Float
f64_word word = option_map (of_bits binary64) (hex 16 word)

unfoldable pub i32_word : List ℕ → Option ℤ
i32_word word = option_map (cast_signed w32) (hex 8 word)

-- '0|1: that one digit'
unfoldable pub flag_word : List ℕ → Option Bool
flag_word word = cond (bytes_eq word (codes "0")) (Some false) (cond (bytes_eq word (codes "1")) (Some true) None)
