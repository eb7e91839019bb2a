-- The aligned block beside the tape: which frame each sample plays, and where the block stepped over last. `a` is the frame at which a block of n samples
-- begins. Assumes nothing.
use mathlib.Core.Path.{◌≡◌, refl, sym, ap, ◌∙◌, subst}
use mathlib.Core.Bool.{Bool, true, false, cond}
use mathlib.Core.List.{List}
use Prim.Native.Nat.{ℕ, zero, suc, ◌+◌, ◌-◌, ◌≤◌, ◌<◌}
use native.Mathlib.Omega.{arith}
use borrow.Author.Tests.{leb-true, leb-false, lt-ltb, le-ltb}
use lib.Dec.{leb}
use lib.ListN.{get_or}
use Rattle.std.specs.Prelude.{Option, None, Some}
use Rattle.aligned.specs.Aligned as aligned
use Rattle.aligned.specs.Aligned.{next_frame, last_wrap}
use Rattle.tape.specs.Tape.{Head, played, after_sample, head_at, bits_of}
use Rattle.tape.proofs.Heads.{at}

-- ---- a block that doesn't turn over goes straight on
pub straight_on : (l a i : ℕ) → next_frame false l a i ≡ a + i
unfolding next_frame aligned.played
straight_on l a zero = omega arith
straight_on l a (suc i) = let e = straight_on l a i in omega arith

pub never_wraps : (l a i : ℕ) → last_wrap false l a i ≡ None
unfolding last_wrap
never_wraps l a zero = refl
never_wraps l a (suc i) = never_wraps l a i

-- ---- in one that does, the frame that comes next is the tape's p
turn_step : (l : ℕ) (h : Head) → suc (cond (leb l h.p) 0 h.p) ≡ (after_sample l true h).p
turn_step l h = go (leb l h.p) refl
  where
    go : (b : Bool) → leb l h.p ≡ b → suc (cond b 0 h.p) ≡ (after_sample l true h).p
    go true e = simp (le-ltb h.p l (leb-true l h.p e))
    go false e = simp (lt-ltb h.p l (leb-false l h.p e))

pub next_turning : (l a i : ℕ) → next_frame true l a i ≡ (head_at l true (at a false) i).p
unfolding next_frame aligned.played head_at
next_turning l a zero = refl
next_turning l a (suc i) = ap (λ (x : ℕ). suc (cond (leb l x) 0 x)) (next_turning l a i) ∙ turn_step l (head_at l true (at a false) i)

-- and so are the frames that it plays
played_over : (l p : ℕ) (channel : List ℕ) → get_or channel (cond (leb l p) 0 p) 0 ≡ bits_of channel (played l true p)
played_over l p channel = go (leb l p) refl
  where
    go : (b : Bool) → leb l p ≡ b → get_or channel (cond b 0 p) 0 ≡ bits_of channel (played l true p)
    go true e = simp (le-ltb p l (leb-true l p e))
    go false e = simp (lt-ltb p l (leb-false l p e))

pub plays_turning : (l a i : ℕ) (channel : List ℕ) → get_or channel (aligned.played true l (next_frame true l a i)) 0 ≡ bits_of channel (played l true (head_at l true (at a false) i).p)
unfolding aligned.played
plays_turning l a i channel =
    ap (λ (x : ℕ). get_or channel (cond (leb l x) 0 x) 0) (next_turning l a i) ∙ played_over l (head_at l true (at a false) i).p channel

-- ---- where it stepped over last, and the tape then
pub data Ends (l a n : ℕ) : Option ℕ → Head → Type 0 where
  within : a + n ≤ l → Ends l a n None (at (a + n) false)
  over : (w p : ℕ) → w < n → p ≡ n - w → p ≤ l → l < a + n → Ends l a n (Some w) (at p true)

reaches_end : (l a i : ℕ) (w : Option ℕ) (h : Head) → Ends l a i w h → l ≤ h.p → l < a + suc i
reaches_end l a i None h (within m) k = omega arith
reaches_end l a i (Some w) h (over v p m e n past) k = omega arith

ends_step : (l a i : ℕ) (b : Bool) (w : Option ℕ) (h : Head) → 0 < l → leb l h.p ≡ b → Ends l a i w h → Ends l a (suc i) (cond b (Some i) w) (after_sample l true h)
ends_step l a i true w h some e before =
    rw (le-ltb h.p l (leb-true l h.p e)) (over i 1 (omega arith) (omega arith) some (reaches_end l a i w h before (leb-true l h.p e)))
ends_step l a i false None h some e (within m) =
    let k : a + i < l = leb-false l (a + i) e in
    let same : a + suc i ≡ suc (a + i) = omega arith in
    rw (lt-ltb (a + i) l k) (subst (λ (x : ℕ). Ends l a (suc i) None (at x false)) same (within (omega arith)))
ends_step l a i false (Some w) h some e (over v p m q n past) =
    let k : p < l = leb-false l p e in rw (lt-ltb p l k) (over w (suc p) (omega arith) (omega arith) k (omega arith))

pub ends : (l a n : ℕ) → 0 < l → a ≤ l → Ends l a n (last_wrap true l a n) (head_at l true (at a false) n)
unfolding last_wrap head_at
ends l a zero some h =
    let same : a + 0 ≡ a = omega arith in
    subst (λ (x : ℕ). Ends l a 0 None (at x false)) same (within (omega arith))
ends l a (suc i) some h =
    let head = head_at l true (at a false) i in
    ends_step l a i (leb l (next_frame true l a i)) (last_wrap true l a i) head some (ap (leb l) (sym (next_turning l a i))) (ends l a i some h)
