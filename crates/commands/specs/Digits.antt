-- Numbers as digits, in bytes; a space, and a flag as a number (docs/REFERENCE.md, 'trial'). Definitions only.
use Rattle.std.specs.Prelude.{Bool, ◌&&◌, cond, List, [], ◌∷◌, ◌++◌, ℕ, zero, suc, ◌+◌, ◌-◌, ◌*◌, ◌/◌, ◌%◌, ◌^◌, leb, ltb, eqb, length, Option, Some, None, option_and_then}

abbrev pub SPACE : ℕ
SPACE = 32

-- a flag as 0 or 1
abbrev pub flag : Bool → ℕ
flag b = cond b 1 0

-- the byte of a digit below 16: 0 to 9, A to F
unfoldable pub digit : ℕ → ℕ
digit d = cond (ltb d 10) (48 + d) (55 + d)

-- the low n hex digits of v, the highest first
unfoldable pub hex : ℕ → ℕ → List ℕ
hex zero v = []
hex (suc n) v = digit (v / 2 ^ (4 * n) % 16) ∷ hex n v

-- v in decimal, with no zero in front; its low n digits if it has more
unfoldable pub decimal_of : ℕ → ℕ → List ℕ
decimal_of zero v = []
decimal_of (suc n) v = cond (ltb v 10) (digit v ∷ []) (decimal_of n (v / 10) ++ (digit (v % 10) ∷ []))

-- a u64 has at most 20 decimal digits
abbrev pub decimal : ℕ → List ℕ
decimal v = decimal_of 20 v

-- the value of a hex digit, upper case; any other byte has none
unfoldable pub hex_digit : ℕ → Option ℕ
hex_digit b = cond (leb 48 b && leb b 57) (Some (b - 48)) (cond (leb 65 b && leb b 70) (Some (b - 55)) None)

-- hex digits, read on from v
unfoldable pub hex_from : ℕ → List ℕ → Option ℕ
hex_from v [] = Some v
hex_from v (b ∷ bs) = option_and_then (λ d. hex_from (16 * v + d) bs) (hex_digit b)

-- the number that hex digits are, of which 16 at most fit a u64
unfoldable pub read_hex : List ℕ → Option ℕ
read_hex l = cond (leb (length l) 16) (hex_from 0 l) None

-- the number that 16 hex digits are
unfoldable pub hex_number : List ℕ → Option ℕ
hex_number l = cond (eqb (length l) 16) (hex_from 0 l) None
