-- Known frames about conversion, as one claim about the definitions (docs/REFERENCE.md, 'Known frames').
use Rattle.std.specs.Prelude.{◌≡◌, ℕ, [], ◌∷◌, false, pos, negsuc, to_bits, Float}
use Rattle.std.specs.Float.{binary32, fin}
use Rattle.std.specs.Float.Ieee.{of_int}
use Rattle.buffer.specs.declared.Shape.{Shape}
use Rattle.reshape.specs.Converting.{converted_shape, converted_samples}
use Rattle.std.specs.Prelude.{Ok}

-- a whole number as f32, and its bits
abbrev pub single : ℕ → Float
single n = of_int binary32 (pos n)

abbrev bits : ℕ → ℕ
bits n = to_bits binary32 (single n)

-- the bits of n / 2
abbrev halves : ℕ → ℕ
halves n = to_bits binary32 (fin false n (negsuc 0))

-- one channel
abbrev pub mono : ℕ → ℕ → Shape
mono frames rate = record { channels = 1; frames = frames; rate = single rate }

unfoldable pub KnownReshape : Type 0
KnownReshape =
    -- frames 0, 3 at 24,000 to 48,000: 0, 1.5, 3, 3
    (converted_shape (mono 2 24000) 2 (single 48000) ≡ Ok (mono 4 48000))
    × (converted_samples (mono 2 24000) (bits 0 ∷ bits 3 ∷ []) (single 48000) ≡ bits 0 ∷ halves 3 ∷ bits 3 ∷ bits 3 ∷ [])
