-- The frames of an aligned block are those that are counted, and where the count comes to after it. Assumes nothing.
use mathlib.Core.Path.{◌≡◌, refl, sym, ap, ◌∙◌}
use mathlib.Core.Bool.{Bool, true, false, cond, ◌&&◌}
use mathlib.Core.List.{List}
use Prim.Native.Nat.{ℕ, zero, suc, ◌+◌, ◌-◌, ◌%◌, ◌≤◌, ◌<◌}
use native.Mathlib.Nat.{le_antisymm, le_of_lt, mod_self, mod-eq_of_lt, suc-mod}
use native.Mathlib.Omega.{arith}
use Rattle.std.proofs.Math.Nat.{mod-mod}
use borrow.Author.Tests.{leb-true, leb-false, ltb-false}
use lib.Dec.{leb, ltb}
use lib.ListN.{length, get_or}
use Rattle.aligned.specs.Aligned.{played, next_frame, aligned_sample}
use Rattle.lists.specs.Parts.{put}
use Rattle.lists.specs.Table.{table, table_same}
use Rattle.player.specs.Block.{written}
use Rattle.counting.specs.declared.Counter.{Counter}
use Rattle.counting.specs.Counting.{has_ended, frame_at, sample}

-- ---- a block that doesn't turn over plays frame a + i
straight : (l a i : ℕ) → next_frame false l a i ≡ a + i
unfolding next_frame played
straight l a zero = omega arith
straight l a (suc i) = ap suc (straight l a i) ∙ omega arith

-- ---- one that does plays frame (a + i) mod l: the frame that comes next is at most l, and has that remainder
record Near (l k next : ℕ) : Type 0 where
  below : next ≤ l
  rest : next % l ≡ k % l

suc_rest : (l x y : ℕ) → x % l ≡ y % l → suc x % l ≡ suc y % l
suc_rest l x y e = suc-mod x l ∙ ap (λ (z : ℕ). suc z % l) e ∙ sym (suc-mod y l)

-- the frame that is played
turned : (l k next : ℕ) → 0 < l → Near l k next → (played true l next < l) × (played true l next ≡ k % l)
unfolding played
turned l k next some n = go (leb l next) refl
  where
    go : (b : Bool) → leb l next ≡ b → (cond b 0 next < l) × (cond b 0 next ≡ k % l)
    go true e =
        let same : next ≡ l = le_antisymm n.below (leb-true l next e) in
        (some, sym (mod_self l) ∙ ap (λ (x : ℕ). x % l) (sym same) ∙ n.rest)
    go false e =
        let under : next < l = leb-false l next e in
        (under, sym (mod-eq_of_lt under) ∙ n.rest)

near : (l a i : ℕ) → a < l → Near l (a + i) (next_frame true l a i)
unfolding next_frame
near l a zero h = record { below = le_of_lt h; rest = ap (λ (x : ℕ). x % l) (omega arith) }
near l a (suc i) h =
    let p = turned l (a + i) (next_frame true l a i) (omega arith) (near l a i h) in
    record {
      below = p.0;
      rest = suc_rest l (played true l (next_frame true l a i)) (a + i) (ap (λ (x : ℕ). x % l) p.1 ∙ mod-mod (a + i) l) ∙ ap (λ (x : ℕ). x % l) (omega arith);
    }

-- ---- the frame of each sample
played_is : (looping turns : Bool) (l a i : ℕ) → a < l → i < 128 → turns ≡ (looping && ltb (l - a) 128)
    → played turns l (next_frame turns l a i) ≡ cond looping ((a + i) % l) (a + i)
unfolding played
played_is false turns l a i h I e = rw e (straight l a i)
played_is true turns l a i h I e = rw e (go (ltb (l - a) 128) refl)
  where
    go : (b : Bool) → ltb (l - a) 128 ≡ b → played b l (next_frame b l a i) ≡ (a + i) % l
    go true t = (turned l (a + i) (next_frame true l a i) (omega arith) (near l a i h)).1
    go false t =
        let far : 128 ≤ l - a = ltb-false (l - a) 128 t in
        straight l a i ∙ sym (mod-eq_of_lt (omega arith))

pub same_frames : (c : Counter) (turns : Bool) (channel : List ℕ) → has_ended c ≡ false → length channel ≡ c.frames
    → turns ≡ (c.looping && ltb (c.frames - c.next) 128)
    → table 128 (aligned_sample turns (length channel) c.next channel) ≡ table 128 (sample c channel)
unfolding aligned_sample sample frame_at has_ended
same_frames c turns channel goes full e =
    table_same 128 _ _ (λ i I.
    rw (goes, full) (ap (λ (k : ℕ). get_or channel k 0) (played_is c.looping turns c.frames c.next i (leb-false c.frames c.next goes) I e)))

-- ---- silence, once ended
pub silence : (c : Counter) (frames : ℕ) (samples out : List ℕ) → has_ended c ≡ true
    → put 0 128 (table 128 (λ i. 0)) out ≡ written 128 (sample c) frames samples out 1
unfolding written sample put table
silence c frames samples out over = rw over refl
