-- What the test of the layout says of a file that passes it. Assumes nothing.
use mathlib.Core.Path.{◌≡◌}
use mathlib.Core.Bool.{Bool, true, ◌&&◌}
use mathlib.Core.List.{List}
use Prim.Native.Nat.{ℕ, ◌≤◌}
use lib.Dec.{leb, eqb}
use lib.ListN.{length}
use borrow.Author.Tests.{leb-true, eqb-true}
use Rattle.clip.specs.Layout.{header_length, file_length, max_length}
use Rattle.clip.specs.Reading.{length_field, channels_field, frames_field, offsets_match, is_layout}
use Rattle.clip.specs.declared.Form.{Form}
use Rattle.clip.proofs.Each.{split}

pub record LaidOut (f : Form) (file : List ℕ) : Type 0 where
  pub short : length file ≤ max_length
  pub header : length_field file ≡ header_length f (channels_field file)
  pub some : 1 ≤ frames_field file
  pub long : length file ≡ file_length f (channels_field file) (frames_field file)
  pub offsets : offsets_match f file (channels_field file) (frames_field file) ≡ true

pub laid_out : (f : Form) (file : List ℕ) → is_layout f file ≡ true → LaidOut f file
unfolding is_layout
laid_out f file ok =
    let C = channels_field file in
    let N = frames_field file in
    let full : Bool = eqb (length file) (file_length f C N) in
    let own : Bool = eqb (length_field file) (header_length f C) in
    let one = split (leb 12 (length file)) (leb (length file) max_length && (own && (leb 1 N && (full && offsets_match f file C N)))) ok in
    let two = split (leb (length file) max_length) (own && (leb 1 N && (full && offsets_match f file C N))) one.1 in
    let three = split own (leb 1 N && (full && offsets_match f file C N)) two.1 in
    let four = split (leb 1 N) (full && offsets_match f file C N) three.1 in
    let five = split full (offsets_match f file C N) four.1 in
    record { short = leb-true _ _ two.0; header = eqb-true _ _ three.0; some = leb-true _ _ four.0; long = eqb-true _ _ five.0; offsets = five.1 }
