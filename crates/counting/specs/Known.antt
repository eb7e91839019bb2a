-- Counters that can be followed by hand (docs/REFERENCE.md, 'Counting player'), in blocks of 4 samples. Definitions only.
use Rattle.std.specs.Prelude.{◌≡◌, Bool, true, false, List, [], ◌∷◌, ℕ, Ok, Err}
use Rattle.lists.specs.Table.{table}
use Rattle.buffer.specs.declared.refusals.Refusal.TheVariants as refused
use Rattle.counting.specs.Counting.{made, sample, report, rendered}
use Rattle.counting.specs.Statement.{after_blocks}
use Rattle.counting.specs.declared.Counter.{Counter}

-- one channel of l frames, before its first block
abbrev pub fresh : ℕ → Bool → Counter
fresh l looping = record { channels = 1; frames = l; next = 0; looping = looping }

-- the four samples of block k of a channel
abbrev pub block : List ℕ → Counter → ℕ → List ℕ
block channel c k = table 4 (sample (after_blocks 4 c k) channel)

-- after each of the first three blocks: whether it has ended
abbrev pub ends : Counter → List Bool
ends c = table 3 (λ k. (report 4 (after_blocks 4 c k)).ended)

-- whether each of them plays
abbrev pub plays : Counter → List Bool
plays c = table 3 (λ k. (report 4 (after_blocks 4 c k)).keep_alive)

pub record KnownCounters : Type 0 where
  -- three frames: looped, block 1 begins with frame 1
  pub looped : block (7 ∷ 8 ∷ 9 ∷ []) (fresh 3 true) 0 ≡ 7 ∷ 8 ∷ 9 ∷ 7 ∷ []
  pub looped_on : block (7 ∷ 8 ∷ 9 ∷ []) (fresh 3 true) 1 ≡ 8 ∷ 9 ∷ 7 ∷ 8 ∷ []
  pub never_ends : ends (fresh 3 true) ≡ false ∷ false ∷ false ∷ []
  -- unlooped it has ended with its first block
  pub plain : block (7 ∷ 8 ∷ 9 ∷ []) (fresh 3 false) 0 ≡ 7 ∷ 8 ∷ 9 ∷ 0 ∷ []
  pub silent : block (7 ∷ 8 ∷ 9 ∷ []) (fresh 3 false) 1 ≡ 0 ∷ 0 ∷ 0 ∷ 0 ∷ []
  pub plays : plays (fresh 3 false) ≡ true ∷ false ∷ false ∷ []
  -- four frames, an exact fit: it has ended with its first block too; five take two blocks, and looped they start over in the second
  pub fit : ends (fresh 4 false) ≡ true ∷ true ∷ true ∷ []
  pub longer : ends (fresh 5 false) ≡ false ∷ true ∷ true ∷ []
  pub around : block (5 ∷ 6 ∷ 7 ∷ 8 ∷ 9 ∷ []) (fresh 5 true) 1 ≡ 9 ∷ 5 ∷ 6 ∷ 7 ∷ []
  -- the refusals' order: 1 before 12 where it is made, 8 before 1 in a block
  pub shape_first : made 33 0 false ≡ Err refused.Shape
  pub no_frames : made 32 0 true ≡ Err refused.Empty
  pub largest : made 32 16777216 true ≡ Ok (record { channels = 32; frames = 16777216; next = 0; looping = true })
  pub too_long : made 1 16777217 true ≡ Err refused.Shape
  pub length_first : rendered 4 (fresh 3 true) 127 2 ≡ Err refused.Length
  pub samples : rendered 4 (fresh 3 true) 128 2 ≡ Err refused.Shape
