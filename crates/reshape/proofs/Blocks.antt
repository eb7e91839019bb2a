-- The frames of a result, block by block. Assumes nothing.
use Rattle.std.specs.Prelude.{◌≡◌, T, length, take, drop, ◌^◌}
use lib.Ieee.{Float, nan}
use Rattle.buffer.specs.Limits.{valid_rate}
use Rattle.reshape.specs.Converting.{resampled, resampled_channels}
use Rattle.reshape.specs.Places.{place_frame, place_fraction, at_places}
use Rattle.reshape.proofs.Places.{read_is}
use Rattle.std.proofs.Math.Path.{refl, sym, ap}
use Rattle.std.proofs.Common.{◌∙◌, subst, mul-zero, append_assoc, append-nil, drop_of_length-le, arith, not-suc-le-zero, le_of_suc-le-suc, zero-add}
use mathlib.Core.List.{List, [], ◌∷◌, ◌++◌}
use Prim.Native.Nat.{ℕ, zero, suc, ◌+◌, ◌-◌, ◌*◌, ◌≤◌, ◌<◌}
use Rattle.lists.specs.Parts.{put, span}
use Rattle.lists.specs.Rows.{rows, length-rows, rows_same}
use Rattle.std.proofs.Math.Seq.{drop_at}
use Rattle.std.proofs.lemmas.List.{drop-drop}
use Rattle.std.proofs.Math.ListN.{take-append-drop}
use Rattle.std.proofs.Math.Nat.{mul-suc}
use Rattle.buffer.specs.Channels.{channel, length_channel, channel_rows}
use Rattle.lists.specs.Table.{table, table_same, filled, get_or_filled, length-filled, filled_all}

module _ {A : Type 0} where
  -- the first n elements of l, replaced
  filled_front : (n : ℕ) (f : ℕ → A) (l : List A) → n ≤ length l → table n f ++ drop n l ≡ filled n f l
  unfolding table filled
  filled_front zero f l h = refl
  filled_front (suc n) f [] h = absurd (not-suc-le-zero h)
  filled_front (suc n) f (x ∷ xs) h = ap (λ (r : List A). f zero ∷ r) (filled_front n (λ i. f (suc i)) xs (le_of_suc-le-suc h))

  -- n elements more are stored behind the first k
  pub filled_block : (k n : ℕ) (f : ℕ → A) (l : List A) → k + n ≤ length l → put k n (table n (λ i. f (k + i))) (filled k f l) ≡ filled (k + n) f l
  unfolding put filled
  filled_block zero n f l h =
      let first : table n (λ i. f (0 + i)) ≡ table n f = table_same n (λ i. f (0 + i)) f (λ i b. ap f (zero-add i)) in
      rw (first, zero-add n) (filled_front n f l (omega (arith, h)))
  filled_block (suc k) n f [] h = absurd (not-suc-le-zero {n = k + n} (omega (arith, h)))
  filled_block (suc k) n f (x ∷ xs) h =
      let e : (i : ℕ) → suc k + i ≡ suc (k + i) = λ i. omega arith in
      let rest : table n (λ i. f (suc k + i)) ≡ table n (λ i. f (suc (k + i))) = table_same n (λ i. f (suc k + i)) (λ i. f (suc (k + i))) (λ i b. ap f (e i)) in
      rw (rest, e n) (ap (λ (r : List A). f zero ∷ r) (filled_block k n (λ i. f (suc i)) xs (omega (arith, h))))

  -- a row that isn't written yet is as it was
  pub row_still : (size count : ℕ) (f : ℕ → List A) (out m : List A) → ((k : ℕ) → k < count → length (f k) ≡ size) → (c : ℕ) → c < count
      → m ≡ rows c f ++ drop (size * c) out → take (size * c + size - size * c) (drop (size * c) m) ≡ take size (drop (size * c) out)
  row_still size count f out m even c below made =
      let full = length-rows size c f (λ k h. even k (omega (arith, h, below))) in
      rw (span (size * c) size, made, drop_at (rows c f) (drop (size * c) out) (size * c) full) refl

-- a list is its rows
rows_all : (size c : ℕ) (out : List ℕ) → rows c (channel out size) ++ drop (size * c) out ≡ out
unfolding rows
rows_all size zero out = rw (mul-zero size) refl
rows_all size (suc c) out =
    append_assoc (rows c (channel out size)) (channel out size c) (drop (size * suc c) out)
    ∙ ap (λ (l : List ℕ). rows c (channel out size) ++ l) (rw (next, sym (drop-drop size (size * c) out)) (take-append-drop size (drop (size * c) out)))
    ∙ rows_all size c out
  where
    next : size * suc c ≡ size * c + size
    next = omega (arith, mul-suc size c)

-- a block of a channel's frames, read at the places that stand in the arrays, behind those that are stored
pub block_read : (source target : Float) (frames init frame frame_before : List ℕ) (fraction fraction_before : List Float) (last first n : ℕ) → length frames ≡ last + 1
    → T (valid_rate source) → T (valid_rate target) → last < 16777216 → first + n < 2 ^ 32 → n ≤ length frame_before → n ≤ length fraction_before → first + n ≤ length init
    → frame ≡ filled n (λ i. place_frame source target last (first + i)) frame_before
    → fraction ≡ filled n (λ i. place_fraction source target last (first + i)) fraction_before
    → put first n (table n (at_places frame fraction frames)) (filled first (resampled source target frames) init) ≡ filled (first + n) (resampled source target frames) init
block_read source target frames init frame frame_before fraction fraction_before last first n full from to few small room room' fits f g =
    let here : (i : ℕ) → i < n → at_places frame fraction frames i ≡ resampled source target frames (first + i) =
    λ i b.
    rw (
      f,
      g,
      get_or_filled n (λ k. place_frame source target last (first + k)) frame_before i 0 b (omega (arith, b, room)),
      get_or_filled n (λ k. place_fraction source target last (first + k)) fraction_before i nan b (omega (arith, b, room')),
    )
    (read_is source target frames last (first + i) full from to few (omega (arith, b, small))) in
    rw (table_same n (at_places frame fraction frames) (λ i. resampled source target frames (first + i)) here) (filled_block first n (resampled source target frames) init fits)

-- the first k frames of channel c are written into its part of the output
abbrev pub row : Float → Float → List ℕ → List ℕ → ℕ → ℕ → ℕ → ℕ → List ℕ
row source target samples out frames size k c = filled k (resampled source target (channel samples frames c)) (channel out size c)

-- ---- a loop that writes a block of each channel's frames in each turn. So far k frames of each channel are written
module _ (source target : Float) (samples out : List ℕ) (count frames size last : ℕ) (from : T (valid_rate source)) (to : T (valid_rate target))
    (ends : frames ≡ last + 1) (few : last < 16777216) (full : length samples ≡ frames * count) (whole : length out ≡ size * count) (short : size ≤ 16777216) where
  abbrev written : ℕ → ℕ → List ℕ
  written = row source target samples out frames size

  row_even : (k c : ℕ) → c < count → length (written k c) ≡ size
  row_even k c below = length-filled k (resampled source target (channel samples frames c)) (channel out size c) ∙ length_channel out size count c whole below

  pub begun : out ≡ rows count (written 0)
  unfolding filled
  begun = sym (sym (append-nil (rows count (channel out size))) ∙ ap (λ (l : List ℕ). rows count (channel out size) ++ l) (sym (drop_of_length-le out {i = size * count} (omega (arith, whole)))) ∙ rows_all size count out)

  pub more : (first n : ℕ) (frame frame_before : List ℕ) (fraction fraction_before : List Float) (m : List ℕ) → n ≤ length frame_before → n ≤ length fraction_before → first + n ≤ size
      → frame ≡ filled n (λ i. place_frame source target last (first + i)) frame_before
      → fraction ≡ filled n (λ i. place_fraction source target last (first + i)) fraction_before
      → m ≡ rows count (written first)
      → rows count (λ c. put first n (table n (at_places frame fraction (channel samples frames c))) (channel m size c)) ≡ rows count (written (first + n))
  more first n frame frame_before fraction fraction_before m room room' within f g made =
      rows_same count (λ c. put first n (table n (at_places frame fraction (channel samples frames c))) (channel m size c)) (written (first + n))
      (λ c below.
      rw (made, channel_rows size count (written first) (row_even first) c below)
      (block_read source target (channel samples frames c) (channel out size c) frame frame_before fraction fraction_before last first n
      (length_channel samples frames count c full below ∙ ends) from to few
      (omega (arith, within, short)) room room' (omega (arith, within, length_channel out size count c whole below)) f g))

  pub done : (m : List ℕ) → m ≡ rows count (written size) → m ≡ resampled_channels source target samples count frames size
  done m made =
      made
      ∙ rows_same count (written size) (λ c. table size (resampled source target (channel samples frames c)))
      (λ c below. let long = length_channel out size count c whole below in
      subst (λ k. filled k (resampled source target (channel samples frames c)) (channel out size c) ≡ table k (resampled source target (channel samples frames c))) long
      (filled_all (resampled source target (channel samples frames c)) (channel out size c)))
