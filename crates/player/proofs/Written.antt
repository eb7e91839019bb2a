-- The output as the loop over the channels makes it: its length stays, and in a turn the part that was lent comes back written. Assumes nothing.
use mathlib.Core.Path.{◌≡◌, ◌∙◌, refl}
use mathlib.Core.List.{List, ◌++◌}
use Prim.Native.Nat.{ℕ, zero, suc, ◌+◌, ◌-◌, ◌*◌, ◌≤◌, ◌<◌}
use native.Mathlib.Numerals.{add-one}
use native.Mathlib.Omega.{arith}
use lib.ListN.{length, take, drop, replicate}
use lib.Seq.{length-take-le}
use Rattle.lists.specs.Table.{table, length_table, replicate_table, table_same}
use Rattle.lists.specs.Parts.{put, length-put, span, length_part}
use Rattle.buffer.specs.Channels.{channel}
use Rattle.player.specs.Block.{written}

module _ (sample : List ℕ → ℕ → ℕ) (frames : ℕ) (samples out₀ : List ℕ) (whole : length out₀ ≡ 4096) where
  pub length_written : (count : ℕ) → count ≤ 32 → length (written 128 sample frames samples out₀ count) ≡ 4096
  unfolding written
  length_written zero h = whole
  length_written (suc c) h =
      let before : length (written 128 sample frames samples out₀ c) ≡ 4096 = length_written c (omega arith) in
      length-put (128 * c) 128 _ _ (omega arith) (length_table 128 _) ∙ before

  -- a turn of the loop: the part that was lent comes back as channel c
  pub turn : (c : ℕ) (out part : List ℕ) → c < 32 → out ≡ written 128 sample frames samples out₀ c
      → part ≡ table (length (take (128 * c + 128 - 128 * c) (drop (128 * c) out))) (sample (channel samples frames c))
      → take (128 * c) out ++ (part ++ drop (128 * c + 128 - 128 * c) (drop (128 * c) out)) ≡ written 128 sample frames samples out₀ (c + 1)
  unfolding written put
  turn c out part below so_far back =
      let full : length out ≡ 4096 = rw so_far (length_written c (omega arith)) in
      rw (back, length_part (128 * c) 128 out (omega arith), span (128 * c) 128, so_far, add-one)

-- a part of zeros is back at the start of the output
pub silence : (out part : List ℕ) → length out ≡ 4096 → (((y : ℕ) → y ≡ 0 → y ≡ 0) → part ≡ replicate (length (take 128 out)) 0)
    → part ++ drop 128 out ≡ put 0 128 (table 128 (λ i. 0)) out
unfolding put
silence out part full back = rw (back (λ y e. e), replicate_table {A = ℕ} (length (take 128 out)) 0, length-take-le 128 out (omega arith))

-- the same where the part comes back as a table of 128 samples
pub turn_of : (sample : List ℕ → ℕ → ℕ) (frames : ℕ) (samples out₀ : List ℕ) → length out₀ ≡ 4096 → (c : ℕ) (out part frames_of_c : List ℕ) → c < 32
    → out ≡ written 128 sample frames samples out₀ c → frames_of_c ≡ channel samples frames c → part ≡ table 128 (sample frames_of_c)
    → take (128 * c) out ++ (part ++ drop (128 * c + 128 - 128 * c) (drop (128 * c) out)) ≡ written 128 sample frames samples out₀ (c + 1)
turn_of sample frames samples out₀ whole c out part frames_of_c below so_far its back =
    let full : length out ≡ 4096 = rw so_far (length_written sample frames samples out₀ whole c (omega arith)) in
    turn sample frames samples out₀ whole c out part below so_far (rw (back, its, length_part (128 * c) 128 out (omega arith)) refl)

-- by two functions that agree below the block's length
pub written_same : (n : ℕ) (f g : List ℕ → ℕ → ℕ) (frames : ℕ) (samples out : List ℕ) (count : ℕ)
    → ((l : List ℕ) (i : ℕ) → i < n → f l i ≡ g l i) → written n f frames samples out count ≡ written n g frames samples out count
unfolding written
written_same n f g frames samples out zero h = refl
written_same n f g frames samples out (suc c) h =
    rw (table_same n (f (channel samples frames c)) (g (channel samples frames c)) (h (channel samples frames c)), written_same n f g frames samples out c h)
