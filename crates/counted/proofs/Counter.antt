-- The counter beside accepted blocks: what it answers, and where it stands after so many. Assumes nothing.
use mathlib.Core.Path.{◌≡◌, refl, sym, ap, ◌∙◌}
use mathlib.Core.Bool.{Bool, true, false, not, ◌&&◌, cond}
use mathlib.Core.List.{List, [], ◌∷◌, ◌++◌}
use Prim.Native.Nat.{ℕ, zero, suc, ◌+◌, ◌*◌, ◌≤◌, ◌<◌}
use native.Mathlib.Nat.{le_trans}
use native.Mathlib.Omega.{arith}
use borrow.Author.Tests.{ltb-false}
use lib.Dec.{leb, ltb}
use lib.ListN.{length, get_or, get_or-eq_default, take, drop}
use Rattle.std.proofs.Common.{length-take}
use Rattle.std.specs.Prelude.{Result, Ok, Option, Some}
use Rattle.buffer.specs.Limits.{valid_shape}
use Rattle.buffer.specs.Channels.{channel}
use Rattle.counting.specs.declared.Counter.{Counter}
use Rattle.counting.specs.declared.Counted.{Counted}
use Rattle.counting.specs.Counting as counting
use Rattle.counting.specs.Counting.{has_ended, counted_on, sample, report, silent, playing}
use Rattle.counting.specs.Statement.{after_blocks, Counts}
use Rattle.claims.specs.Calls.{Event, Clip}
use Rattle.claims.specs.LongRun.{frame_bits}
use Rattle.claims.proofs.Written.{written_at}
use Rattle.counted.specs.Beside.{counted_by, left_by, counted_all}

-- ---- what a block answers
module _ (c : Counter) where
  by_end : (b : Bool) → has_ended c ≡ b → report 128 c ≡ cond b (silent c) (playing 128 c)
  unfolding report
  by_end b e = ap (λ (b : Bool). cond b (silent c) (playing 128 c)) e

  pub reports_alive : (report 128 c).keep_alive ≡ not (has_ended c)
  unfolding report
  reports_alive = go (has_ended c)
    where
      go : (b : Bool) → (cond b (silent c) (playing 128 c)).keep_alive ≡ not b
      go true = refl
      go false = refl

  pub reports_channels : (report 128 c).channels ≡ cond (has_ended c) 1 c.channels
  unfolding report
  reports_channels = go (has_ended c)
    where
      go : (b : Bool) → (cond b (silent c) (playing 128 c)).channels ≡ cond b 1 c.channels
      go true = refl
      go false = refl

  pub reports_ended : (report 128 c).ended ≡ has_ended (report 128 c).counter
  unfolding report
  reports_ended = go (has_ended c) refl
    where
      go : (b : Bool) → has_ended c ≡ b → (cond b (silent c) (playing 128 c)).ended ≡ has_ended (cond b (silent c) (playing 128 c)).counter
      go true e = sym e
      go false e = refl

  pub keeps_shape : ((report 128 c).counter.channels ≡ c.channels) × ((report 128 c).counter.frames ≡ c.frames)
  unfolding report counted_on
  keeps_shape = go (has_ended c)
    where
      go : (b : Bool) → ((cond b (silent c) (playing 128 c)).counter.channels ≡ c.channels) × ((cond b (silent c) (playing 128 c)).counter.frames ≡ c.frames)
      go true = (refl, refl)
      go false = (refl, refl)

  module _ (out samples : List ℕ) (whole : length out ≡ 4096) (shape : valid_shape c.channels c.frames (length samples) ≡ true) where
    pub rendered_is : counting.rendered 128 c (length out) (length samples) ≡ Ok (report 128 c)
    unfolding counting.rendered counting.checked
    rendered_is = simp (whole, shape)

    pub output_at : (report 128 c).channels ≤ 32 → (d i : ℕ) → d < (report 128 c).channels → i < 128
        → get_or (counting.output 128 c out samples) (128 * d + i) 0 ≡ sample c (channel samples c.frames d) i
    unfolding counting.output counting.checked
    output_at few d i D I = simp (whole, shape) (written_at (sample c) c.frames samples out whole (report 128 c).channels few d D i I)

-- ---- after blocks that are accepted
abbrev pub Lent : ℕ → ℕ → Event → Type 0
Lent channels frames e = (c : Counter) → c.channels ≡ channels → c.frames ≡ frames → counted_by c e.call ≡ Some (Ok (report 128 c))

shift : (c : Counter) (k : ℕ) → after_blocks 128 (report 128 c).counter k ≡ after_blocks 128 c (suc k)
unfolding after_blocks
shift c zero = refl
shift c (suc k) = ap (λ (d : Counter). (report 128 d).counter) (shift c k)

pub counted_is : (channels frames : ℕ) (c : Counter) → c.channels ≡ channels → c.frames ≡ frames → (front : List Event)
    → ((fore : List Event) (e : Event) (rest : List Event) → front ≡ fore ++ (e ∷ rest) → Lent channels frames e)
    → counted_all c front ≡ after_blocks 128 c (length front)
unfolding after_blocks
counted_is channels frames c m n [] h = refl
counted_is channels frames c m n (e ∷ front) h =
    ap (λ (r : Option (Result Counted _)). counted_all (left_by c r) front) (h [] e front refl c m n)
    ∙ counted_is channels frames (report 128 c).counter ((keeps_shape c).0 ∙ m) ((keeps_shape c).1 ∙ n) front (λ fore d rest s. h (e ∷ fore) d rest (ap (λ (l : List Event). e ∷ l) s))
    ∙ shift c (length front)

pub blocks_keep : (channels frames : ℕ) (c : Counter) → c.channels ≡ channels → c.frames ≡ frames → (k : ℕ) → ((after_blocks 128 c k).channels ≡ channels) × ((after_blocks 128 c k).frames ≡ frames)
unfolding after_blocks
blocks_keep channels frames c m n zero = (m, n)
blocks_keep channels frames c m n (suc k) =
    let b = blocks_keep channels frames c m n k in
    let s = keeps_shape (after_blocks 128 c k) in
    (s.0 ∙ b.0, s.1 ∙ b.1)

-- ---- the end, and the frames, in the long run's words
pub ends_at : (l : ℕ) (on : Bool) (k : ℕ) (c : Counter) → Counts 128 l on k c → has_ended c ≡ (not on && leb l (128 * k))
ends_at l true k c h = h.never_ends refl
ends_at l false k c h = h.ends refl

short : (n : ℕ) (xs : List ℕ) → length (take n xs) ≤ n
short n xs = rw (length-take n xs) (omega arith)

pub bits_at : (clip : Clip) (on : Bool) (k : ℕ) (c : Counter) → Counts 128 clip.frames on k c → (d i : ℕ) → sample c (channel clip.samples clip.frames d) i ≡ frame_bits 128 on clip k i d
unfolding frame_bits
bits_at clip true k c h d i = h.looped refl (channel clip.samples clip.frames d) i
bits_at clip false k c h d i = h.plain refl row i (short clip.frames (drop (clip.frames * d) clip.samples)) ∙ cut (ltb (128 * k + i) clip.frames) refl
  where
    row : List ℕ
    row = channel clip.samples clip.frames d

    cut : (b : Bool) → ltb (128 * k + i) clip.frames ≡ b → get_or row (128 * k + i) 0 ≡ cond b (get_or row (128 * k + i) 0) 0
    cut true e = refl
    cut false e = get_or-eq_default row 0 (le_trans (short clip.frames (drop (clip.frames * d) clip.samples)) (ltb-false (128 * k + i) clip.frames e))
