-- What is known of a tape between its steps, for the steps to come: no wrap is noted, and the block after an exact fit is unlooped. Assumes nothing.
use mathlib.Core.Path.{◌≡◌, refl, ap, ◌∙◌}
use mathlib.Core.Bool.{Bool, true, false, not, ◌&&◌, cond, false≢true}
use mathlib.Core.List.{List, [], ◌∷◌, ◌++◌}
use Prim.Native.Nat.{ℕ, ◌+◌, ◌<◌}
use native.Mathlib.Omega.{arith}
use borrow.Author.Tests.{eqb-true, le-ltb}
use lib.Dec.{T}
use lib.Ieee.Fits.{and_l, and_r}
use Rattle.std.specs.Prelude.{None, Some}
use Rattle.tape.specs.Tape.{Head, Tape, Step, loop_is, a_block, played, head_at, at_end, finished, stepped, stepped_all, frame_at, has_block, stays_off}
use Rattle.tape.proofs.Heads.{at, straight}
use Rattle.tape.proofs.Laws.{frame_going, no_frames, next_ends_lem}

pub stepped_on : (n l : ℕ) (t : Tape) (xs ys : List Step) → stepped_all n l t (xs ++ ys) ≡ stepped_all n l (stepped_all n l t xs) ys
unfolding stepped_all
stepped_on n l t [] ys = refl
stepped_on n l t (x ∷ xs) ys = stepped_on n l (stepped n l t x) xs ys

pub record Premised (n l : ℕ) (t : Tape) (steps : List Step) : Type 0 where
  pub cleared : t.head.wrap ≡ false
  pub fit : t.exact_fit ≡ true → (t.head.p ≡ l) × (has_block steps ≡ true → t.looped ≡ false)
  pub off : T (stays_off n l t steps)

pub head_is : (t : Tape) → t.head.wrap ≡ false → t.head ≡ at t.head.p false
head_is t e = ap (at t.head.p) e

module _ (n l : ℕ) where
  -- ---- a loop message
  off_by : (fits on block : Bool) → T (not (fits && on && block)) → fits ≡ true → block ≡ true → on ≡ false
  off_by fits false block h f b = refl
  off_by true true true h f b = absurd h
  off_by false true block h f b = absurd (false≢true f)
  off_by true true false h f b = absurd (false≢true b)

  pub premised_loop : (t : Tape) (on : Bool) (xs : List Step) → Premised n l t (loop_is on ∷ xs) → Premised n l (stepped n l t (loop_is on)) xs
  unfolding stepped stays_off has_block
  premised_loop t on xs k = record {
    cleared = k.cleared;
    fit = λ f. ((k.fit f).0, λ b. off_by t.exact_fit on (has_block xs) (and_l (not (t.exact_fit && on && has_block xs)) _ k.off) f b);
    off = and_r (not (t.exact_fit && on && has_block xs)) _ k.off;
  }

  -- ---- a block
  -- an exact fit is one of an unlooped block
  fit_of : (looped : Bool) (h : Head) → (finished l looped h).exact_fit ≡ true → (h.p ≡ l) × (looped ≡ false)
  fit_of true h e = absurd (false≢true e)
  fit_of false h e = (eqb-true h.p l e, refl)

  pub premised_block : (t : Tape) (xs : List Step) → Premised n l t (a_block ∷ xs) → Premised n l (stepped n l t a_block) xs
  unfolding stepped stays_off has_block
  premised_block t xs k = record { cleared = cleared t.ended; fit = fit t.ended; off = k.off }
    where
      after : Tape
      after = finished l t.looped (at_end l (head_at l t.looped t.head n))

      cleared : (b : Bool) → (cond b t after).head.wrap ≡ false
      cleared true = k.cleared
      cleared false = refl

      fit : (b : Bool) → (cond b t after).exact_fit ≡ true → ((cond b t after).head.p ≡ l) × (has_block xs ≡ true → (cond b t after).looped ≡ false)
      fit true f = ((k.fit f).0, λ m. (k.fit f).1 refl)
      fit false f = let q = fit_of t.looped (at_end l (head_at l t.looped t.head n)) f in (q.0, λ m. q.1)

  -- ---- the block after an exact fit gives zeros, and ends the tape
  module _ (t : Tape) (xs : List Step) (k : Premised n l t (a_block ∷ xs)) (f : t.exact_fit ≡ true) where
    fit_off : t.looped ≡ false
    unfolding has_block
    fit_off = (k.fit f).1 refl

    pub fit_frames : (i : ℕ) → frame_at l t i ≡ None
    fit_frames i = go t.ended refl
      where
        past : (p : ℕ) → p ≡ l → played l false (p + i) ≡ None
        past p e = ap (λ (b : Bool). cond b (Some (p + i)) None) (le-ltb (p + i) l (omega (arith, e)))

        go : (b : Bool) → t.ended ≡ b → frame_at l t i ≡ None
        go true e = no_frames l t i e
        go false e =
            frame_going l t i e ∙ ap (λ (b : Bool). played l b (head_at l b t.head i).p) fit_off
            ∙ ap (λ (h : Head). played l false h.p) (straight l t.head i) ∙ past t.head.p (k.fit f).0

    pub fit_ends : 0 < n → (stepped n l t a_block).ended ≡ true
    fit_ends some = next_ends_lem n l some t (k.fit f).0 fit_off k.cleared

-- ---- what is left of the premise after some of the steps
pub off_on : (n l : ℕ) (t : Tape) (xs ys : List Step) → T (stays_off n l t (xs ++ ys)) → T (stays_off n l (stepped_all n l t xs) ys)
unfolding stays_off stepped_all
off_on n l t [] ys h = h
off_on n l t (loop_is on ∷ xs) ys h = off_on n l (stepped n l t (loop_is on)) xs ys (and_r (not (t.exact_fit && on && has_block (xs ++ ys))) _ h)
off_on n l t (a_block ∷ xs) ys h = off_on n l (stepped n l t a_block) xs ys h
