-- The frames of a clip that was read. Assumes nothing.
use mathlib.Core.Path.{◌≡◌, refl, ap, sym, ◌∙◌}
use mathlib.Core.List.{List, ◌++◌}
use Prim.Native.Nat.{ℕ, ◌≤◌}
use lib.ListN.{length, take, drop}
use borrow.Author.Tests.{eq-eqb, le-ltb}
use Rattle.std.proofs.lemmas.List.{length-take-le}
use Rattle.std.specs.Prelude.{Ok}
use Rattle.lists.specs.Table.{over, length_table}
use Rattle.clip.proofs.HeaderWords.{over_front}
use Rattle.clip.specs.Reading.{read_with_onset, room_checked, frames_read_with_onset, frames_out, header_read}
use Rattle.clip.specs.Statement.{frames_of}
use Rattle.clip.specs.declared.WithOnset.{WithOnset}
use Rattle.player.specs.Messages.{made, buffered}
use Rattle.player.specs.declared.Player.{Player}
use Rattle.loading.specs.Loading.{count_of, samples_of, loaded}

-- a slice of just the frames' number is not refused
pub frames_taken : (file : List ℕ) (w : WithOnset) (n : ℕ) → read_with_onset file ≡ Ok w → n ≡ count_of w.header.shape
    → frames_read_with_onset file n ≡ Ok w.header
unfolding room_checked
frames_taken file w n e full = rw (e, eq-eqb n (count_of w.header.shape) full) refl

-- what is answered, of calls that were each accepted
pub loaded_by : (file : List ℕ) (w : WithOnset) (fresh player : Player) (room : ℕ) → read_with_onset file ≡ Ok w → made w.header.shape.rate ≡ Ok fresh
    → buffered fresh w.header.shape.channels w.header.shape.frames w.header.shape.rate (count_of w.header.shape) ≡ Ok player → count_of w.header.shape ≤ room
    → Ok (player, count_of w.header.shape) ≡ loaded file room
loaded_by file w fresh player room read new given fits = rw (read, le-ltb _ _ fits, new, given) refl

-- the samples, of a clip that was read
pub samples_by : (file : List ℕ) (w : WithOnset) (out samples : List ℕ) → read_with_onset file ≡ Ok w → count_of w.header.shape ≤ length samples
    → out ≡ frames_out (frames_read_with_onset file (count_of w.header.shape)) file (take (count_of w.header.shape) samples)
    → out ++ drop (count_of w.header.shape) samples ≡ over (samples_of (header_read (read_with_onset file)) file) samples
unfolding frames_out
samples_by file w out samples read fits stored =
    let n = count_of w.header.shape in
    let long : length (take n samples) ≡ n = length-take-le n samples fits in
    let frames : out ≡ frames_of file w.header = stored ∙ rw (frames_taken file w n read refl, long) refl in
    let full : length (frames_of file w.header) ≡ n = length_table _ _ in
    rw (read, frames) (sym (over_front (frames_of file w.header) samples (rw full fits) ∙ ap (λ k. frames_of file w.header ++ drop k samples) full))
