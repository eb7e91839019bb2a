-- What each index of a written output has. Assumes nothing.
use mathlib.Core.Path.{◌≡◌, ◌∙◌}
use mathlib.Core.List.{List}
use mathlib.Core.Logic.{⊎_elim}
use Prim.Native.Nat.{ℕ, zero, suc, ◌+◌, ◌*◌, ◌≤◌, ◌<◌}
use native.Mathlib.Nat.{not-suc-le-zero, eq-or-lt_of_le}
use native.Mathlib.Omega.{arith}
use lib.ListN.{length, get_or}
use Rattle.lists.specs.Table.{length_table, get_or_table}
use Rattle.lists.specs.Parts.{get_or_put_before, get_or_put_in}
use Rattle.buffer.specs.Channels.{channel}
use Rattle.player.specs.Block.{written}
use Rattle.player.proofs.Written.{length_written}

module _ (sample : List ℕ → ℕ → ℕ) (frames : ℕ) (samples out : List ℕ) (whole : length out ≡ 4096) where
  -- sample i of a written channel c
  pub written_at : (count : ℕ) → count ≤ 32 → (c : ℕ) → c < count → (i : ℕ) → i < 128 → get_or (written 128 sample frames samples out count) (128 * c + i) 0 ≡ sample (channel samples frames c) i
  unfolding written
  written_at zero h c below i b = absurd (not-suc-le-zero below)
  written_at (suc n) h c below i b =
      let before : length (written 128 sample frames samples out n) ≡ 4096 = length_written sample frames samples out whole n (omega arith) in
      ⊎_elim
      (λ (e : c ≡ n). rw e (get_or_put_in (128 * n) 128 _ _ (omega arith) (length_table 128 _) i 0 b ∙ get_or_table 128 _ i 0 b))
      (λ (l : c < n). get_or_put_before (128 * n) 128 _ _ (omega arith) (length_table 128 _) (128 * c + i) 0 (omega arith) ∙ written_at n (omega arith) c l i b)
      (eq-or-lt_of_le {n = c} {m = n} (omega arith))
