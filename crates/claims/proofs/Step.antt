-- One aligned block: where the position goes, and which frames it plays. Assumes nothing.
use mathlib.Core.Path.{◌≡◌, refl, sym, ap, ◌∙◌}
use mathlib.Core.Logic.{◌⊎◌, inl, inr}
use mathlib.Core.Bool.{Bool, true, false, ◌&&◌, cond, true≢false, false≢true}
use mathlib.Core.List.{List}
use Prim.Native.Nat.{ℕ, suc, ◌+◌, ◌-◌, ◌*◌, ◌^◌, ◌≤◌, ◌<◌}
use native.Mathlib.Nat.{le_trans, eq-or-lt_of_le}
use native.Mathlib.Omega.{arith}
use borrow.Author.Tests.{ltb-true, ltb-false, eq-eqb, ne_eqb}
use lib.Dec.{ltb, eqb, lit≤}
use lib.ListN.{get_or, take, drop, length-take, get_or-eq_default}
use lib.Ieee.{Float, binary64, add, div, rem}
use lib.Ieee.Exact.{HasValue}
use Rattle.buffer.specs.Limits.{duration}
use Rattle.buffer.specs.Channels.{channel}
use Rattle.rounding.specs.Rounding.{whole}
use Rattle.seconds.specs.Seconds.{block_seconds}
use Rattle.aligned.specs.Aligned as aligned
use Rattle.aligned.specs.Aligned.{first_frame, ends_within, next_frame, aligned_sample, last_wrap, aligned_position}
use Rattle.tape.specs.Tape as tape
use Rattle.tape.specs.Tape.{Head, head_at, at_end, bits_of}
use Rattle.tape.proofs.Heads as heads
use Rattle.tape.proofs.Heads.{at, straight}
use Rattle.std.specs.Prelude.{Option, None, Some}
use Rattle.claims.proofs.Tape.{straight_on, never_wraps, plays_turning, Ends, within, over, ends}
use Rattle.claims.proofs.Position.{Frames, frames_zero, frames_whole, frames_duration, first_frame_lem, wrap_part, wrap_whole}
use Rattle.claims.proofs.Laws.{Below, frames_more, below}

-- the position x is a frames, after `steps` blocks without a wrap
pub record Place (r : Float) (R : ℕ) (x : Float) (a : ℕ) : Type 0 where
  pub steps : ℕ
  pub few : 128 * steps ≤ a + 128
  pub near : Frames r x R steps a

module _ (r : Float) (R : ℕ) (v : HasValue r false R (2 ^ 149)) (lo : 3000 * 2 ^ 149 ≤ R) (hi : R ≤ 768000 * 2 ^ 149) (l : ℕ) (L1 : 1 ≤ l) (L2 : l ≤ 16777216) where
  -- within a clip there are few of them
  pub few_steps : (x : Float) (a : ℕ) (p : Place r R x a) → a ≤ l → p.steps ≤ 131073
  few_steps x a p h = bound p.steps a l p.few h L2
    where
      bound : (j a l : ℕ) → 128 * j ≤ a + 128 → a ≤ l → l ≤ 16777216 → j ≤ 131073
      bound j a l f h m = omega arith

  steps_small : (x : Float) (a : ℕ) (p : Place r R x a) → a ≤ l → p.steps ≤ 1048576
  steps_small x a p h = le_trans (few_steps x a p h) (lit≤ tt)

  -- on by a block
  pub on : (x : Float) (a : ℕ) → Place r R x a → a ≤ l → Place r R (add binary64 x (block_seconds 128 r)) (a + 128)
  on x a p h = record {
    steps = suc p.steps;
    few = more p.steps a p.few;
    near = frames_more r R v lo hi x p.steps a p.near (le_trans h L2) (steps_small x a p h);
  }
    where
      more : (j a : ℕ) → 128 * j ≤ a + 128 → 128 * suc j ≤ a + 128 + 128
      more j a f = omega arith

  pub first : (x : Float) (a : ℕ) → Place r R x a → a ≤ l → first_frame x r ≡ a
  first x a p h = first_frame_lem r R v lo hi x p.steps a p.near (le_trans h L2) (steps_small x a p h)

  -- the block's end held against the clip's
  few_enough : (j : ℕ) → j ≤ 131073 → 1 + suc j < 268435456
  few_enough j h = omega arith

  pub past_clip : (x : Float) (a : ℕ) → Place r R x a → a ≤ l → l < a + 128 → Below (duration l r) (add binary64 x (block_seconds 128 r))
  unfolding on
  past_clip x a p h m =
      below r R v lo hi (duration l r) (add binary64 x (block_seconds 128 r)) 1 (suc p.steps) l (a + 128) (frames_duration r R v lo hi l L2) (on x a p h).near (few_enough p.steps (few_steps x a p h)) m

  -- a looped block in which the clip doesn't end lies within it
  stays : (x : Float) (a : ℕ) → Place r R x a → a ≤ l → ends_within 128 x r (duration l r) ≡ false → a + 128 ≤ l
  unfolding ends_within
  stays x a p h e = go (ltb l (a + 128)) refl
    where
      go : (b : Bool) → ltb l (a + 128) ≡ b → a + 128 ≤ l
      go true t = absurd (true≢false (sym (past_clip x a p h (ltb-true l (a + 128) t)).lt-true ∙ e))
      go false t = ltb-false l (a + 128) t

  -- ---- where the position goes
  -- the last wrap leaves b frames
  from_wrap : (b : ℕ) → 1 ≤ b → b ≤ l → Place r R (rem binary64 (div binary64 (whole b) r) (duration l r)) (at_end l (at b true)).p
  from_wrap b B h = go (eq-or-lt_of_le h)
    where
      go : (b ≡ l) ⊎ (b < l) → Place r R (rem binary64 (div binary64 (whole b) r) (duration l r)) (cond (eqb b l) 0 b)
      go (inl e) = rw (eq-eqb b l e, e, wrap_whole r R v lo hi l L1 L2) (record { steps = 0; few = omega arith; near = frames_zero r R })
      go (inr m) = rw (ne_eqb b l (other m), wrap_part r R v lo hi b l m L2) (record { steps = 1; few = omega arith; near = frames_whole r R v lo hi b (le_trans h L2) })
        where
          other : {x y : ℕ} → x < y → x ≡ y → ⊥
          other m e = omega arith

  pub position_on : (looped : Bool) (a : ℕ) (x : Float) → Place r R x a → a ≤ l
      → Place r R (aligned_position 128 x r (duration l r) (last_wrap (looped && ends_within 128 x r (duration l r)) l (first_frame x r) 128)) (at_end l (head_at l looped (at a false) 128)).p
  unfolding aligned_position
  position_on false a x p h = rw (never_wraps l (first_frame x r) 128, straight l (at a false) 128) (on x a p h)
  position_on true a x p h = go (ends_within 128 x r (duration l r)) refl
    where
      by_wrap : (w : Option ℕ) (g : Head) → Ends l a 128 w g → Place r R (aligned_position 128 x r (duration l r) w) (at_end l g).p
      by_wrap None g (within m) = on x a p h
      by_wrap (Some w) g (over u b W e B past) = rw (sym e) (from_wrap b (some b w W e) B)
        where
          some : (b w : ℕ) → w < 128 → b ≡ 128 - w → 1 ≤ b
          some b w W e = omega arith

      go : (b : Bool) → ends_within 128 x r (duration l r) ≡ b → Place r R (aligned_position 128 x r (duration l r) (last_wrap b l (first_frame x r) 128)) (at_end l (head_at l true (at a false) 128)).p
      go true e = rw (first x a p h) (by_wrap (last_wrap true l a 128) (head_at l true (at a false) 128) (ends l a 128 L1 h))
      go false e = rw (never_wraps l (first_frame x r) 128, heads.within l (at a false) 128 (stays x a p h e)) (on x a p h)

  -- ---- which frames are played
  -- past its last frame a channel gives zero
  cut_off : (samples : List ℕ) (c i : ℕ) → l ≤ i → get_or (channel samples l c) i 0 ≡ 0
  cut_off samples c i h = get_or-eq_default (take l (drop (l * c) samples)) 0 (simp length-take (omega arith))

  straight_bits : (looped : Bool) (samples : List ℕ) (c k : ℕ) → (looped ≡ true → k < l) → get_or (channel samples l c) k 0 ≡ bits_of (channel samples l c) (tape.played l looped k)
  straight_bits looped samples c k inside = go (ltb k l) refl looped inside
    where
      go : (b : Bool) → ltb k l ≡ b → (on : Bool) → (on ≡ true → k < l) → get_or (channel samples l c) k 0 ≡ bits_of (channel samples l c) (cond b (Some k) (cond on (Some 0) None))
      go true e on m = refl
      go false e true m = absurd (over (m refl) (ltb-false k l e))
        where
          over : {x y : ℕ} → x < y → y ≤ x → ⊥
          over m n = omega arith
      go false e false m = cut_off samples c k (ltb-false k l e)

  pub plays : (looped : Bool) (a i : ℕ) (x : Float) (samples : List ℕ) (c : ℕ) → Place r R x a → a ≤ l → i < 128
      → aligned_sample (looped && ends_within 128 x r (duration l r)) l (first_frame x r) (channel samples l c) i
      ≡ bits_of (channel samples l c) (tape.played l looped (head_at l looped (at a false) i).p)
  unfolding aligned_sample aligned.played next_frame
  plays looped a i x samples c p h I = rw (first x a p h) (go looped (ends_within 128 x r (duration l r)) refl)
    where
      straight_plays : (b : Bool) → (b ≡ true → a + 128 ≤ l) → get_or (channel samples l c) (next_frame false l a i) 0 ≡ bits_of (channel samples l c) (tape.played l b (head_at l b (at a false) i).p)
      straight_plays b m =
          ap (λ (y : ℕ). get_or (channel samples l c) y 0) (straight_on l a i)
          ∙ straight_bits b samples c (a + i) (λ e. let k = m e in omega arith)
          ∙ ap (λ (g : Head). bits_of (channel samples l c) (tape.played l b g.p)) (sym (head b m))
        where
          head : (b : Bool) → (b ≡ true → a + 128 ≤ l) → head_at l b (at a false) i ≡ at (a + i) false
          head true m = heads.within l (at a false) i (let k = m refl in omega arith)
          head false m = straight l (at a false) i

      go : (b e : Bool) → ends_within 128 x r (duration l r) ≡ e → get_or (channel samples l c) (aligned.played (b && e) l (next_frame (b && e) l a i)) 0 ≡ bits_of (channel samples l c) (tape.played l b (head_at l b (at a false) i).p)
      go true true e = plays_turning l a i (channel samples l c)
      go true false e = straight_plays true (λ n. stays x a p h e)
      go false e f = straight_plays false (λ n. absurd (false≢true n))
