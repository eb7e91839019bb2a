-- The bytes that are written. Assumes nothing.
use mathlib.Core.Path.{◌≡◌, refl, ap, ◌∙◌}
use mathlib.Core.List.{List, [], ◌∷◌, ◌++◌, append_assoc}
use Prim.Native.Nat.{ℕ, ◌+◌, ◌*◌, ◌/◌, ◌%◌, ◌<◌}
use native.Mathlib.Omega.{arith}
use lib.ListN.{length, drop_of_length-le}
use Rattle.lists.specs.Table.{table, over}
use Rattle.clip.specs.Layout.{bytes, words, onset_bytes, offset, layout}
use Rattle.clip.specs.Reading.{frames_from}
use Rattle.clip.specs.declared.Form.{Form}
use Rattle.clip.specs.declared.Form.TheVariants as form
use Rattle.clip.proofs.HeaderWords.{two_halves}
use Rattle.mending.specs.Mending.{mended}
use Rattle.mending.specs.Held.{held_of}
use Rattle.mending.specs.declared.Held.{Held}

-- a header's four words in its fields: with the old header there is no room for the onset
front : (f : Form) (w x y z n r o : ℕ) (l : List ℕ) → length l ≡ 12 + onset_bytes f
    → over ((w ∷ (x ∷ (y ∷ (z ∷ [])))) ++ (bytes 4 n ++ (bytes 4 r ++ (bytes 4 o ++ [])))) l
    ≡ (w ∷ (x ∷ (y ∷ (z ∷ [])))) ++ (bytes 4 n ++ (bytes 4 r ++ bytes (onset_bytes f) o))
unfolding over bytes
front form.Old w x y z n r o l room = let none = drop_of_length-le l {i = 16} (omega (arith, room)) in rw (room, none) refl
front form.New w x y z n r o l room = let none = drop_of_length-le l {i = 16} (omega (arith, room)) in rw (room, none) refl

pub written_fields : (f : Form) (low high n r o : ℕ) (l : List ℕ) → low < 65536 → high < 65536 → length l ≡ 12 + onset_bytes f
    → over (words ((low + 65536 * high) ∷ (n ∷ (r ∷ (o ∷ []))))) l ≡ bytes 2 low ++ (bytes 2 high ++ (bytes 4 n ++ (bytes 4 r ++ bytes (onset_bytes f) o)))
unfolding words bytes
written_fields f low high n r o l p q room =
    ap (λ a. over (a ++ (bytes 4 n ++ (bytes 4 r ++ (bytes 4 o ++ [])))) l) (two_halves low high p q)
    ∙ front f (low % 256) (low / 256 % 256) (high % 256) (high / 256 % 256) n r o l room

-- the parts of the mended file, one after another
pub written_parts : (h : Held) (file fields offsets samples : List ℕ) → h ≡ held_of file
    → fields ≡ bytes 2 h.start ++ (bytes 2 h.channels ++ (bytes 4 h.frames ++ (bytes 4 h.rate_bits ++ bytes (onset_bytes h.form) h.onset)))
    → offsets ≡ words (table h.channels (offset h.form h.channels h.frames))
    → samples ≡ words (frames_from file h.start (h.channels * h.frames)) → (fields ++ offsets) ++ samples ≡ mended file
unfolding layout
written_parts h file fields offsets samples own a b c = rw (a, b, c, own) (simp append_assoc refl)
