-- What follows of whole numbers as samples, and known ones (docs/REFERENCE.md, 'Whole numbers').
-- `HasValue x s a c` (lib.Ieee.Exact) says that x is the fraction a / c, negative where s is true.
use Rattle.std.specs.Prelude.{◌≡◌, ℕ, suc, ◌*◌, ◌^◌, ◌≤◌, ◌<◌, true, false, ℤ, pos, negsuc, [], ◌∷◌, Ok, Err, Float}
use Rattle.std.specs.Float.Ieee.Exact.{HasValue}
use Rattle.buffer.specs.declared.refusals.Refusal.TheVariants as refused
use Rattle.pcm.specs.WholeNumbers.{size, full, whole, level, sample}
use Rattle.pcm.specs.Taking.{taken, channel_samples}
use Rattle.pcm.specs.declared.Bits.{Bits}
use Rattle.pcm.specs.declared.Bits.TheVariants as bits

-- x is z / full, exactly
abbrev pub IsQuotient : Float → ℤ → ℕ → Type 0
IsQuotient x (pos n) full = HasValue x false n full
IsQuotient x (negsuc n) full = HasValue x true (suc n) full

pub record ExactSamples : Type 0 where
  -- of 8, 16 and 24 bits every word's sample is its whole number / full scale, exactly
  pub exact : (b : Bits) (word : ℕ) → size b ≤ 3 → word < 2 ^ (8 * size b) → IsQuotient (level (whole b word) (full b)) (whole b word) (full b)
  -- so of the greatest number of 24 bits, and of the least
  pub greatest : HasValue (level (whole bits.TwentyFour 0x7F_FFFF) 8388608) false 8388607 8388608
  pub least : HasValue (level (whole bits.TwentyFour 0x80_0000) 8388608) true 8388608 8388608

-- computed: the least, the greatest, zero and its neighbours
unfoldable pub KnownSamples : Type 0
KnownSamples =
    -- 8 bits: 0 is -1, 127 is -1/128, 128 is 0, 255 is 127/128
    (sample bits.Eight 0 ≡ 0xBF80_0000)
    × (sample bits.Eight 127 ≡ 0xBC00_0000)
    × (sample bits.Eight 128 ≡ 0)
    × (sample bits.Eight 255 ≡ 0x3F7E_0000)
    -- 16 bits: 0, 1, 32,767, -32,768, -1
    × (sample bits.Sixteen 0 ≡ 0)
    × (sample bits.Sixteen 1 ≡ 0x3800_0000)
    × (sample bits.Sixteen 0x7FFF ≡ 0x3F7F_FE00)
    × (sample bits.Sixteen 0x8000 ≡ 0xBF80_0000)
    × (sample bits.Sixteen 0xFFFF ≡ 0xB800_0000)
    -- 24 bits: 8,388,607, -8,388,608, -1
    × (sample bits.TwentyFour 0x7F_FFFF ≡ 0x3F7F_FFFE)
    × (sample bits.TwentyFour 0x80_0000 ≡ 0xBF80_0000)
    × (sample bits.TwentyFour 0xFF_FFFF ≡ 0xB400_0000)
    -- 32 bits: 2^31 - 1 rounds to 1; 2^24 + 1, a tie, to 2^-7, and 2^24 + 3, a tie too, to 2^-7 + 2^-29; -1; and -2^31
    × (sample bits.ThirtyTwo 0x7FFF_FFFF ≡ 0x3F80_0000)
    × (sample bits.ThirtyTwo 0x0100_0001 ≡ 0x3C00_0000)
    × (sample bits.ThirtyTwo 0x0100_0003 ≡ 0x3C00_0002)
    × (sample bits.ThirtyTwo 0xFFFF_FFFF ≡ 0xB000_0000)
    × (sample bits.ThirtyTwo 0x8000_0000 ≡ 0xBF80_0000)
    -- the second of two channels of 16 bits: the frames (0, 1), (32,767, -1)
    × (channel_samples bits.Sixteen (0 ∷ 0 ∷ 1 ∷ 0 ∷ 0xFF ∷ 0x7F ∷ 0xFF ∷ 0xFF ∷ []) 2 1 ≡ 0x3800_0000 ∷ 0xB800_0000 ∷ [])
    × (taken bits.Sixteen 8 2 1 2 ≡ Ok tt)
    -- 6 bytes are not whole frames of two channels of 16 bits; there is no channel 2; the output has not two frames; 1 before 3 before 8
    × (taken bits.Sixteen 6 2 1 1 ≡ Err refused.Shape)
    × (taken bits.Sixteen 8 2 2 2 ≡ Err refused.Channel)
    × (taken bits.Sixteen 8 2 1 1 ≡ Err refused.Length)
    × (taken bits.Sixteen 0 0 0 0 ≡ Err refused.Shape)
    × (taken bits.Sixteen 0 33 33 1 ≡ Err refused.Shape)
    × (taken bits.Sixteen 8 2 2 1 ≡ Err refused.Channel)
    -- no bytes are no frames
    × (taken bits.ThirtyTwo 0 1 0 0 ≡ Ok tt)
