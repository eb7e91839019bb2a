-- The frames of an aligned block: what one more sample adds, and that without a loop frame first + i is played. Assumes nothing.
use mathlib.Core.Path.{◌≡◌, refl, ap, sym, ◌∙◌}
use mathlib.Core.Bool.{Bool, true, false, cond}
use mathlib.Core.List.{List, [], ◌∷◌, ◌++◌}
use Prim.Native.Nat.{ℕ, zero, suc, ◌+◌, ◌-◌, ◌≤◌, ◌<◌, min}
use Rattle.std.proofs.Math.ListN.{take, drop, replicate}
use Rattle.std.proofs.Math.Seq.{get_or-drop}
use Rattle.std.proofs.Common.{take_all, length-drop}
use native.Mathlib.Numerals.{add-one}
use native.Mathlib.Omega.{arith}
use borrow.Author.Tests.{leb-true, leb-false}
use lib.Dec.{leb}
use lib.ListN.{length, get_or, get_or-eq_default}
use Rattle.aligned.specs.Aligned.{played, next_frame, aligned_sample, last_wrap}
use Rattle.lists.specs.Table.{table, table_same, replicate_table}
use Rattle.std.specs.Prelude.{Option, None, Some}

pub next_more : (turns : Bool) (frames first i next : ℕ) → next ≡ next_frame turns frames first i → played turns frames next + 1 ≡ next_frame turns frames first (i + 1)
unfolding next_frame
next_more turns frames first i next e = rw (e, add-one, add-one)

pub wrap_more : (frames first i next : ℕ) (wrap : Option ℕ) → next ≡ next_frame true frames first i → wrap ≡ last_wrap true frames first i
    → cond (leb frames next) (Some i) wrap ≡ last_wrap true frames first (i + 1)
unfolding last_wrap
wrap_more frames first i next wrap e w = rw (e, w, add-one)

pub wrap_never : (frames first i : ℕ) → None ≡ last_wrap false frames first i
unfolding last_wrap
wrap_never frames first zero = refl
wrap_never frames first (suc i) = wrap_never frames first i

next_straight : (frames first i : ℕ) → next_frame false frames first i ≡ first + i
unfolding next_frame played
next_straight frames first zero = omega arith
next_straight frames first (suc i) = ap suc (next_straight frames first i) ∙ omega arith

-- a clip that doesn't turn over is read from `first` on; the index may be cut to the clip's length
pub sample_straight : (frames first : ℕ) (channel : List ℕ) (i : ℕ) → get_or channel (min first (length channel) + i) 0 ≡ aligned_sample false frames first channel i
unfolding aligned_sample played
sample_straight frames first channel i = rw next_straight (go (leb (length channel) first) refl)
  where
    go : (t : Bool) → leb (length channel) first ≡ t → get_or channel (min first (length channel) + i) 0 ≡ get_or channel (first + i) 0
    go true e =
        let past : length channel ≤ first = leb-true (length channel) first e in
        get_or-eq_default channel 0 (omega arith) ∙ sym (get_or-eq_default channel 0 (omega arith))
    go false e =
        let within : first < length channel = leb-false (length channel) first e in
        ap (λ k. get_or channel k 0) (omega arith)

pub straight : (frames first from n : ℕ) (channel : List ℕ) → from ≡ min first (length channel)
    → table n (λ i. get_or channel (from + i) 0) ≡ table n (aligned_sample false frames first channel)
straight frames first from n channel e = rw e (table_same n _ _ (λ i b. sample_straight frames first channel i))

-- zeros follow the end of a list
past : (n m : ℕ) (l : List ℕ) → m + length l ≡ n → l ++ replicate m 0 ≡ table n (λ i. get_or l i 0)
unfolding table
past n m [] e = let all : m ≡ n = omega arith in rw all (replicate_table n 0)
past zero m (x ∷ xs) e = absurd (omega arith)
past (suc n) m (x ∷ xs) e = ap (λ (r : List ℕ). x ∷ r) (past n m xs (omega arith))

-- the clip's frames from `first` on, and m zeros
pub tail : (first n m : ℕ) (channel l : List ℕ) → l ≡ take (length channel - first) (drop first channel) → m + (length channel - first) ≡ n
    → l ++ replicate m 0 ≡ table n (λ i. get_or channel (first + i) 0)
tail first n m channel l part all =
    let whole = part ∙ take_all (length channel - first) (drop first channel) (simp length-drop (omega arith)) in
    let count = ap length whole ∙ length-drop first channel in
    past n m l (omega arith) ∙ table_same n _ _ (λ i b. ap (λ x. get_or x i 0) whole ∙ get_or-drop first channel i 0)

-- a channel of no frames is silent
pub silence : (frames first n : ℕ) (channel : List ℕ) → length channel ≡ 0 → replicate n 0 ≡ table n (aligned_sample true frames first channel)
unfolding aligned_sample
silence frames first n channel none =
    replicate_table n 0 ∙ table_same n _ _ (λ i b. sym (get_or-eq_default channel 0 (omega arith)))

-- in a loop, the frame that is played is the sample
pub sample_turning : (frames first i next frame value : ℕ) (channel : List ℕ) → next ≡ next_frame true frames first i → frame ≡ played true frames next
    → value ≡ get_or channel frame 0 → value ≡ aligned_sample true frames first channel i
unfolding aligned_sample
sample_turning frames first i next frame value channel e f v = rw (v, f, e)
