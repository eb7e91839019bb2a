-- Of a file that is longer than any clip nothing is mended, however long it is; so what was read of an input tells of all of it. Assumes nothing.
use mathlib.Core.Path.{◌≡◌, refl, subst}
use mathlib.Core.List.{List, []}
use Prim.Native.Nat.{ℕ, ◌≤◌, ◌<◌}
use lib.ListN.{length, take}
use borrow.Author.Tests.{lt-leb}
use Rattle.std.specs.Prelude.{Option, IfSome, Result, Ok, OnOk}
use Rattle.std.specs.Io.KnownBytes.{Consumes, IsAtEnd}
use Rattle.loading.specs.Playing.{file_room}
use Rattle.loading.proofs.Fronts.{read_whole, some_map}
use Rattle.clip.specs.Layout.{max_length}
use Rattle.text.specs.Lines.{refusal_text}
use Rattle.mending.specs.Mending.{mend_checks}
use Rattle.mend.specs.Told.{told, report}

pub told_long : (file : List ℕ) → max_length < length file → told file ≡ []
unfolding mend_checks
told_long file over = rw (lt-leb _ _ over) refl

pub report_long : (file : List ℕ) → max_length < length file → report file ≡ refusal_text 15
unfolding mend_checks
report_long file over = rw (lt-leb _ _ over) refl

-- what a read that didn't fail says
pub ok_of : {A E : Type 0} (P : Type 0) (r : Result A E) (x : A) → r ≡ Ok x → OnOk r P → P
ok_of P r x e p = subst (λ s. OnOk s P) e p

-- what holds of what was read holds of the whole file
pub of_all : (t : List ℕ → List ℕ) (fixed : List ℕ) → ((file : List ℕ) → max_length < length file → t file ≡ fixed)
    → (u v : Option (List ℕ)) (bytes : List ℕ) (n : ℕ) (P : List ℕ → Type 0) → length bytes ≡ file_room → n ≤ file_room → Consumes u v (take n bytes)
    → (n < file_room → IsAtEnd v) → P (t (take n bytes)) → IfSome u (λ file. P (t file))
of_all t fixed too_long u v bytes n P long within read end p =
    some_map u (λ file. t (take n bytes) ≡ t file) (λ file. P (t file)) (λ file e. subst P e p) (read_whole t fixed too_long u v bytes n long within read end)
