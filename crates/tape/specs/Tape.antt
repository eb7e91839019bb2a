-- The tape (docs/REFERENCE.md, 'The loop switch'): which frame of a clip each sample plays where the loop is switched between blocks. In
-- whole numbers alone: it knows nothing of floats, of the player or of the clock. l is the number of the clip's frames, n that of a block's
-- samples. Definitions, and a few values of them by hand.
use Rattle.std.proofs.Math.Path.{refl}
use Rattle.std.specs.Prelude.{◌≡◌, Bool, true, false, not, ◌&&◌, cond, List, [], ◌∷◌, ℕ, zero, suc, eqb, ltb, get_or, Option, None, Some}

-- where the tape stands: a number p, and whether a wrap is noted
pub record Head : Type 0 where
  pub p : ℕ
  pub wrap : Bool

-- ---- a sample: where p is below the clip's length, frame p is played, and p grows by 1; else, looped, frame 0 is played, p becomes 1, and
-- a wrap is noted; else the sample is zero, and p grows by 1

-- the frame that it plays; None is zero
abbrev pub played : ℕ → Bool → ℕ → Option ℕ
played l looped p = cond (ltb p l) (Some p) (cond looped (Some 0) None)

abbrev pub after_sample : ℕ → Bool → Head → Head
after_sample l looped h =
    cond (ltb h.p l) (record { p = suc h.p; wrap = h.wrap })
    (cond looped (record { p = 1; wrap = true })
    (record { p = suc h.p; wrap = h.wrap }))

-- before sample i of a block that begins with h
unfoldable pub head_at : ℕ → Bool → Head → ℕ → Head
head_at l looped h zero = h
head_at l looped h (suc i) = after_sample l looped (head_at l looped h i)

-- at a block's end, where a wrap is noted and p is the clip's length, p becomes 0; and the note is cleared
abbrev pub at_end : ℕ → Head → Head
at_end l h = record { p = cond (h.wrap && eqb h.p l) 0 h.p; wrap = false }

-- ---- by hand, a clip of 4 frames: looped, from p = 3 on the second sample wraps
wraps_by_hand : head_at 4 true (record { p = 3; wrap = false }) 2 ≡ record { p = 1; wrap = true }
unfolding head_at
wraps_by_hand = refl

-- at a block's end, p = 4 with a wrap noted becomes 0, and without one it stays
noted_by_hand : at_end 4 (record { p = 4; wrap = true }) ≡ record { p = 0; wrap = false }
noted_by_hand = refl

plain_by_hand : at_end 4 (record { p = 4; wrap = false }) ≡ record { p = 4; wrap = false }
plain_by_hand = refl

-- ---- a list of blocks and loop messages: a step is one of them

pub data Step : Type 0 where
  loop_is : Bool → Step
  a_block : Step

pub record Tape : Type 0 where
  pub looped : Bool
  pub head : Head
  -- the last block was an exact fit: it was unlooped, and finished with p at the clip's length
  pub exact_fit : Bool
  pub ended : Bool

-- before the first step: p is 0, and the loop is off
abbrev pub fresh : Tape
fresh = record { looped = false; head = record { p = 0; wrap = false }; exact_fit = false; ended = false }

-- what a block leaves: one that was unlooped and finished with p above the clip's length ends the tape
abbrev pub finished : ℕ → Bool → Head → Tape
finished l looped h = record { looped = looped; head = h; exact_fit = not looped && eqb h.p l; ended = not looped && ltb l h.p }

-- One step more. Once ended it stands still: its p is asked for no more.
unfoldable pub stepped : ℕ → ℕ → Tape → Step → Tape
stepped n l t (loop_is on) = record { looped = on; head = t.head; exact_fit = t.exact_fit; ended = t.ended }
stepped n l t a_block = cond t.ended t (finished l t.looped (at_end l (head_at l t.looped t.head n)))

unfoldable pub stepped_all : ℕ → ℕ → Tape → List Step → Tape
stepped_all n l t [] = t
stepped_all n l t (x ∷ xs) = stepped_all n l (stepped n l t x) xs

-- ---- what a block gives: the tape before it is t
-- once ended it gives zeros for good, whatever loop messages come
abbrev pub frame_at : ℕ → Tape → ℕ → Option ℕ
frame_at l t i = cond t.ended None (played l t.looped (head_at l t.looped t.head i).p)

-- in a channel: that frame's bits, or zero
abbrev pub bits_of : List ℕ → Option ℕ → ℕ
bits_of channel None = 0
bits_of channel (Some k) = get_or channel k 0

-- ---- the premise: between an exact fit and the next block stands no loop-on message
-- a block is still to come
unfoldable pub has_block : List Step → Bool
has_block [] = false
has_block (loop_is on ∷ xs) = has_block xs
has_block (a_block ∷ xs) = true

-- the loop stays off then, for a tape t and the steps to come
unfoldable pub stays_off : ℕ → ℕ → Tape → List Step → Bool
stays_off n l t [] = true
stays_off n l t (loop_is on ∷ xs) = not (t.exact_fit && on && has_block xs) && stays_off n l (stepped n l t (loop_is on)) xs
stays_off n l t (a_block ∷ xs) = stays_off n l (stepped n l t a_block) xs
