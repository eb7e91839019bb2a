-- A text as it is stored into a lent slice, byte after byte: how the lines of docs/REFERENCE.md, 'trial', come into memory. Definitions
-- only.
use Rattle.std.specs.Prelude.{◌≡◌, cond, List, [], ◌∷◌, ℕ, ◌+◌, ltb, length, set}
use Rattle.text.specs.declared.printing.Text.{Text}

-- what a lent slice holds, and how many bytes of a text are at its start
pub record Stored : Type 0 where
  pub out : List ℕ
  pub len : ℕ

abbrev pub stored : List ℕ → ℕ → Stored
stored out len = record { out = out; len = len }

abbrev pub stored_of : Text → Stored
stored_of t = stored t.out.now t.len

-- a byte behind the text; one that has no room is left out
unfoldable pub put_byte : Stored → ℕ → Stored
put_byte s b = cond (ltb s.len (length s.out)) (stored (set s.out s.len b) (s.len + 1)) s

unfoldable pub put : Stored → List ℕ → Stored
put s [] = s
put s (b ∷ bs) = put (put_byte s b) bs

-- the text t is stored behind what was printed before
abbrev pub Prints : Text → Text → List ℕ → Type 0
Prints old new t = (stored_of new ≡ put (stored_of old) t) × (new.out.ghost_name ≡ old.out.ghost_name)
