-- Samples that are whole numbers, and the f32 that each is (docs/REFERENCE.md, 'Whole numbers'). Definitions only.
use Rattle.std.specs.Prelude.{ℕ, suc, ◌*◌, cond, true, false, nat_lt, ℤ, pos, negsuc, List, to_bits, Float}
use Rattle.std.specs.Float.{binary32}
use Rattle.std.specs.Float.Ieee.{minus, round}
use Rattle.clip.specs.Reading.{number_at}
use Rattle.pcm.specs.declared.Bits.{Bits}
use Rattle.pcm.specs.declared.Bits.TheVariants as bits

-- the bytes of a sample
abbrev pub size : Bits → ℕ
size bits.Eight = 1
size bits.Sixteen = 2
size bits.TwentyFour = 3
size bits.ThirtyTwo = 4

-- full scale, 2 ^ (bits - 1): the whole number whose sample would be 1
abbrev pub full : Bits → ℕ
full bits.Eight = 128
full bits.Sixteen = 32768
full bits.TwentyFour = 8388608
full bits.ThirtyTwo = 2147483648

-- in two's complement a word stands for itself below full scale, and from there on for itself less twice full scale
unfoldable pub signed : ℕ → ℕ → ℤ
signed full word = cond (nat_lt word full) (pos word) (minus word (2 * full))

-- the whole number of a word: of 8 bits it is the word less 128; the others are in two's complement
unfoldable pub whole : Bits → ℕ → ℤ
whole bits.Eight word = minus word 128
whole bits.Sixteen word = signed (full bits.Sixteen) word
whole bits.TwentyFour word = signed (full bits.TwentyFour) word
whole bits.ThirtyTwo word = signed (full bits.ThirtyTwo) word

-- z / full, rounded once, to the nearest f32
unfoldable pub level : ℤ → ℕ → Float
level (pos n) full = round binary32 false n full
level (negsuc n) full = round binary32 true (suc n) full

-- the sample of a word, as f32 bits
unfoldable pub sample : Bits → ℕ → ℕ
sample b word = to_bits binary32 (level (whole b word) (full b))

-- the same of the bytes from a place on, the lowest first
abbrev pub sample_at : Bits → List ℕ → ℕ → ℕ
sample_at b bytes at = sample b (number_at (size b) bytes at)
