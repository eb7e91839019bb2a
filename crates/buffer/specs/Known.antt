-- Known frames about copies, as one claim about the definitions (docs/REFERENCE.md, 'Known frames').
use Rattle.std.specs.Prelude.{◌≡◌, ℕ, [], ◌∷◌}
use Rattle.buffer.specs.Answers.{accepted}
use Rattle.buffer.specs.Channels.{channel}
use Rattle.buffer.specs.Copies.{copied, copied_out}
use Rattle.std.specs.Prelude.{Ok}

unfoldable pub KnownBuffer : Type 0
KnownBuffer =
    -- of a channel of 4 frames, into a slice of 3: from offset 3 on one frame, from offset 9 on none
    (copied 1 4 4 0 3 3 ≡ Ok 1)
    × ((a b c d x y z : ℕ) → copied_out (accepted 1) (channel (a ∷ b ∷ c ∷ d ∷ []) 4 0) 3 (x ∷ y ∷ z ∷ []) ≡ d ∷ y ∷ z ∷ [])
    × (copied 1 4 4 0 9 3 ≡ Ok 0)
    × ((a b c d x y z : ℕ) → copied_out (accepted 0) (channel (a ∷ b ∷ c ∷ d ∷ []) 4 0) 9 (x ∷ y ∷ z ∷ []) ≡ x ∷ y ∷ z ∷ [])
