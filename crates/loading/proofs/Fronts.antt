-- What is made of a file's bytes where only as many count as `trial` reads: by what was read, it is what all of the file makes. Assumes
-- nothing.
use mathlib.Core.Path.{◌≡◌, refl, sym, ap, ◌∙◌}
use mathlib.Core.Bool.{Bool, true, false}
use mathlib.Core.List.{List, ◌++◌, append-nil}
use Prim.Native.Nat.{ℕ, ◌≤◌, ◌<◌}
use native.Mathlib.Omega.{arith}
use borrow.Author.Tests.{ltb-true, ltb-false, leb-true, leb-false}
use lib.Dec.{ltb, leb}
use lib.ListN.{length, take}
use lib.Seq.{take-append_seam, take_all, length-take-le}
use Rattle.std.specs.Prelude.{Option, Some, None, IfSome}
use Rattle.std.specs.Io.KnownBytes.{Consumes, IsAtEnd}
use Rattle.clip.specs.Layout.{max_length}
use Rattle.loading.specs.Playing.{file_room}

-- what holds of known bytes
pub some_map : (o : Option (List ℕ)) (P Q : List ℕ → Type 0) → ((x : List ℕ) → P x → Q x) → IfSome o P → IfSome o Q
some_map None P Q f p = tt
some_map (Some x) P Q f p = f x p

-- t is what is made of a file, and one thing of every file that is longer than any clip
module _ (t : List ℕ → List ℕ) (fixed : List ℕ) (too_long : (file : List ℕ) → max_length < length file → t file ≡ fixed) where
  pub front_of : (file : List ℕ) → t (take file_room file) ≡ t file
  front_of file = go (leb (length file) file_room) (leb-true (length file) file_room) (leb-false (length file) file_room)
    where
      go : (b : Bool) → (b ≡ true → length file ≤ file_room) → (b ≡ false → file_room < length file) → t (take file_room file) ≡ t file
      go true p q = ap t (take_all file_room file (p refl))
      go false p q =
          let more = q refl in
          too_long (take file_room file) (omega (arith, length-take-le file_room file (omega (arith, more)))) ∙ sym (too_long file (omega (arith, more)))

  -- what was read up to the file's end, or to as many bytes as count
  pub read_whole : (u v : Option (List ℕ)) (bytes : List ℕ) (n : ℕ) → length bytes ≡ file_room → n ≤ file_room → Consumes u v (take n bytes)
      → (n < file_room → IsAtEnd v) → IfSome u (λ file. t (take n bytes) ≡ t file)
  read_whole None v bytes n long within read end = tt
  read_whole (Some xs) None bytes n long within read end = absurd read
  read_whole (Some xs) (Some ys) bytes n long within read end = go (ltb n file_room) (ltb-true n file_room) (ltb-false n file_room)
    where
      go : (b : Bool) → (b ≡ true → n < file_room) → (b ≡ false → file_room ≤ n) → t (take n bytes) ≡ t xs
      go true p q = ap t (sym (read ∙ ap (λ (l : List ℕ). take n bytes ++ l) (end (p refl)) ∙ append-nil (take n bytes)))
      go false p q =
          let count : length (take n bytes) ≡ file_room = length-take-le n bytes (omega (arith, long, within)) ∙ omega (arith, within, q refl) in
          let front : take file_room xs ≡ take n bytes = ap (take file_room) read ∙ ap (λ k. take k (take n bytes ++ ys)) (sym count) ∙ take-append_seam (take n bytes) ys in
          ap t (sym front) ∙ front_of xs
