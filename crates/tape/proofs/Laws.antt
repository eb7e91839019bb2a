-- The laws of `specs/Statement.antt`. Assumes nothing.
use mathlib.Core.Path.{◌≡◌, refl, ap, ap₂, ◌∙◌}
use mathlib.Core.Bool.{Bool, true, false, not, ◌&&◌, cond, false≢true}
use mathlib.Core.List.{List, [], ◌∷◌, ◌++◌}
use Prim.Native.Nat.{ℕ, ◌+◌, ◌%◌, ◌≤◌, ◌<◌}
use native.Mathlib.Omega.{arith}
use borrow.Author.Tests.{lt-ltb, ltb-true, ltb-false}
use lib.Dec.{ltb, eqb, T}
use lib.Ieee.Fits.{and_i}
use Rattle.std.specs.Prelude.{None, Some}
use Rattle.tape.specs.Tape.{Head, Tape, Step, loop_is, a_block, fresh, played, head_at, at_end, finished, stepped, stepped_all, frame_at, has_block, stays_off}
use Rattle.tape.specs.Statement.{Tapes}
use Rattle.tape.proofs.Heads.{at, straight, within, turning, played_turning, noted, end_noted, end_below, end_plain}

-- a block of a tape that goes on
pub goes : (n l : ℕ) (t : Tape) → t.ended ≡ false → stepped n l t a_block ≡ finished l t.looped (at_end l (head_at l t.looped t.head n))
unfolding stepped
goes n l t e = ap (λ (b : Bool). cond b t (finished l t.looped (at_end l (head_at l t.looped t.head n)))) e

pub stays : (n l : ℕ) (t : Tape) → t.ended ≡ true → stepped n l t a_block ≡ t
unfolding stepped
stays n l t e = ap (λ (b : Bool). cond b t (finished l t.looped (at_end l (head_at l t.looped t.head n)))) e

pub frame_going : (l : ℕ) (t : Tape) (i : ℕ) → t.ended ≡ false → frame_at l t i ≡ played l t.looped (head_at l t.looped t.head i).p
frame_going l t i e = ap (λ (b : Bool). cond b None (played l t.looped (head_at l t.looped t.head i).p)) e

-- ---- once ended
pub ended_step : (n l : ℕ) (t : Tape) (x : Step) → t.ended ≡ true → (stepped n l t x).ended ≡ true
unfolding stepped
ended_step n l t (loop_is on) e = e
ended_step n l t a_block e = ap (λ (b : Bool). (cond b t (finished l t.looped (at_end l (head_at l t.looped t.head n)))).ended) e ∙ e

pub ended_all : (n l : ℕ) (t : Tape) (xs : List Step) → t.ended ≡ true → (stepped_all n l t xs).ended ≡ true
unfolding stepped_all
ended_all n l t [] e = e
ended_all n l t (x ∷ xs) e = ended_all n l (stepped n l t x) xs (ended_step n l t x e)

pub no_frames : (l : ℕ) (t : Tape) (i : ℕ) → t.ended ≡ true → frame_at l t i ≡ None
no_frames l t i e = ap (λ (b : Bool). cond b None (played l t.looped (head_at l t.looped t.head i).p)) e

module _ (n l : ℕ) where
  pub unlooped_lem : (t : Tape) → t.ended ≡ false → t.looped ≡ false → (i : ℕ) → frame_at l t i ≡ cond (ltb (t.head.p + i) l) (Some (t.head.p + i)) None
  unlooped_lem t e off i =
      frame_going l t i e ∙ ap (λ (b : Bool). played l b (head_at l b t.head i).p) off
      ∙ ap (λ (h : Head). played l false h.p) (straight l t.head i)

  runs_out_lem : (t : Tape) → t.ended ≡ false → t.looped ≡ false → t.head.wrap ≡ false
      → ((stepped n l t a_block).head.p ≡ t.head.p + n) × ((stepped n l t a_block).ended ≡ ltb l (t.head.p + n))
  runs_out_lem t e off w =
      let is : stepped n l t a_block ≡ finished l false (at_end l (at (t.head.p + n) t.head.wrap)) =
      goes n l t e ∙ ap (λ (b : Bool). finished l b (at_end l (head_at l b t.head n))) off ∙ ap (λ (h : Head). finished l false (at_end l h)) (straight l t.head n) in
      let p = end_plain l (at (t.head.p + n) t.head.wrap) w in
      rw is (p, ap (ltb l) p)

  exact_fit_lem : (t : Tape) → t.ended ≡ false → t.looped ≡ false → t.head.wrap ≡ false → (stepped n l t a_block).exact_fit ≡ eqb (t.head.p + n) l
  exact_fit_lem t e off w =
      let is : stepped n l t a_block ≡ finished l false (at_end l (at (t.head.p + n) t.head.wrap)) =
      goes n l t e ∙ ap (λ (b : Bool). finished l b (at_end l (head_at l b t.head n))) off ∙ ap (λ (h : Head). finished l false (at_end l h)) (straight l t.head n) in
      ap (λ (u : Tape). u.exact_fit) is ∙ ap (λ (x : ℕ). eqb x l) (end_plain l (at (t.head.p + n) t.head.wrap) w)

  module _ (long : 0 < l) where
    pub looped_lem : (t : Tape) → t.ended ≡ false → t.looped ≡ true → t.head.p ≤ l → (i : ℕ) → frame_at l t i ≡ Some ((t.head.p + i) % l)
    looped_lem t e on m i =
        let k = turning l t.head i long m in
        frame_going l t i e ∙ ap (λ (b : Bool). played l b (head_at l b t.head i).p) on
        ∙ played_turning l (head_at l true t.head i).p long k.below ∙ ap Some k.rest

    goes_on_lem : (t : Tape) → t.ended ≡ false → t.looped ≡ true → t.head.p ≤ l → ((stepped n l t a_block).head.p ≤ l) × ((stepped n l t a_block).ended ≡ false)
    goes_on_lem t e on m =
        let h = head_at l true t.head n in
        let is : stepped n l t a_block ≡ finished l true (at_end l h) = goes n l t e ∙ ap (λ (b : Bool). finished l b (at_end l (head_at l b t.head n))) on in
        rw is (end_below l h (turning l t.head n long m).below, refl)

    comes_to_lem : (t : Tape) → t.ended ≡ false → t.looped ≡ true → t.head.wrap ≡ false → t.head.p ≤ l
        → (stepped n l t a_block).head.p ≡ cond (ltb l (t.head.p + n)) ((t.head.p + n) % l) (t.head.p + n)
    comes_to_lem t e on w m =
        let is : stepped n l t a_block ≡ finished l true (at_end l (head_at l true t.head n)) = goes n l t e ∙ ap (λ (b : Bool). finished l b (at_end l (head_at l b t.head n))) on in
        ap (λ (u : Tape). u.head.p) is ∙ go (ltb l (t.head.p + n)) refl
      where
        go : (b : Bool) → ltb l (t.head.p + n) ≡ b → (at_end l (head_at l true t.head n)).p ≡ cond b ((t.head.p + n) % l) (t.head.p + n)
        go true x =
            let k = turning l t.head n long m in
            end_noted l (head_at l true t.head n) (noted l t.head n m (ltb-true l (t.head.p + n) x)) k.below ∙ k.rest
        go false x = ap (λ (h : Head). (at_end l h).p) (within l t.head n (ltb-false l (t.head.p + n) x)) ∙ end_plain l (at (t.head.p + n) t.head.wrap) w

  module _ (some : 0 < n) where
    pub next_ends_lem : (t : Tape) → t.head.p ≡ l → t.looped ≡ false → t.head.wrap ≡ false → (stepped n l t a_block).ended ≡ true
    next_ends_lem t m off w = go t.ended refl
      where
        go : (b : Bool) → t.ended ≡ b → (stepped n l t a_block).ended ≡ true
        go true e = ended_step n l t a_block e
        go false e = (runs_out_lem t e off w).1 ∙ lt-ltb l (t.head.p + n) (omega arith)

-- the premise in words
record Holding (xs : List Step) : Type 0 where
  between : List Step
  back : List Step
  is : xs ≡ between ++ (a_block ∷ back)

holding : (xs : List Step) → has_block xs ≡ true → Holding xs
unfolding has_block
holding [] h = absurd (false≢true h)
holding (loop_is on ∷ xs) h = let r = holding xs h in record { between = loop_is on ∷ r.between; back = r.back; is = ap (λ (q : List Step). loop_is on ∷ q) r.is }
holding (a_block ∷ xs) h = record { between = []; back = xs; is = refl }

allowed : (fits on block : Bool) → (fits ≡ true → on ≡ true → block ≡ true → ⊥) → T (not (fits && on && block))
allowed false on block h = tt
allowed true false block h = tt
allowed true true false h = tt
allowed true true true h = h refl refl refl

in_words : (n l : ℕ) (t : Tape) (steps : List Step)
    → ((front between back : List Step) → steps ≡ front ++ (loop_is true ∷ (between ++ (a_block ∷ back))) → (stepped_all n l t front).exact_fit ≡ true → ⊥)
    → T (stays_off n l t steps)
unfolding stays_off stepped_all
in_words n l t [] h = tt
in_words n l t (loop_is on ∷ xs) h =
    and_i (not (t.exact_fit && on && has_block xs)) _
    (allowed t.exact_fit on (has_block xs) (λ f o b. let r = holding xs b in h [] r.between r.back (ap₂ (λ (q : Bool) (r : List Step). loop_is q ∷ r) o r.is) f))
    (in_words n l (stepped n l t (loop_is on)) xs (λ front between back e f. h (loop_is on ∷ front) between back (ap (λ (q : List Step). loop_is on ∷ q) e) f))
in_words n l t (a_block ∷ xs) h =
    in_words n l (stepped n l t a_block) xs (λ front between back e f. h (a_block ∷ front) between back (ap (λ (q : List Step). a_block ∷ q) e) f)

-- ---- between the steps of a list
abbrev Between : ℕ → Tape → Type 0
Between l t = (t.head.wrap ≡ false) × (t.ended ≡ false → t.head.p ≤ l)

between_block : (n l : ℕ) (t : Tape) → 0 < l → Between l t → Between l (stepped n l t a_block)
between_block n l t long h = go t.ended refl
  where
    finishes : (b : Bool) → t.head.p ≤ l → Between l (finished l b (at_end l (head_at l b t.head n)))
    finishes true m = (refl, λ e. end_below l (head_at l true t.head n) (turning l t.head n long m).below)
    finishes false m = (refl, λ e. ltb-false l (at_end l (head_at l false t.head n)).p e)

    go : (b : Bool) → t.ended ≡ b → Between l (stepped n l t a_block)
    go true e = rw (stays n l t e) h
    go false e = rw (goes n l t e) (finishes t.looped (h.1 e))

between_all : (n l : ℕ) (t : Tape) (steps : List Step) → 0 < l → Between l t → Between l (stepped_all n l t steps)
unfolding stepped_all stepped
between_all n l t [] long h = h
between_all n l t (loop_is on ∷ xs) long h = between_all n l (stepped n l t (loop_is on)) xs long (h.0, h.1)
between_all n l t (a_block ∷ xs) long h = between_all n l (stepped n l t a_block) xs long (between_block n l t long h)

pub tapes : Tapes
tapes n l some long = record {
  looped = looped_lem n l long;
  unlooped = unlooped_lem n l;
  goes_on = goes_on_lem n l long;
  comes_to = comes_to_lem n l long;
  runs_out = runs_out_lem n l;
  exact_fit = exact_fit_lem n l;
  next_ends = next_ends_lem n l some;
  between = λ steps. between_all n l fresh steps long (refl, λ e. omega arith);
  over = λ t e steps. (ended_all n l t steps e, λ i. no_frames l (stepped_all n l t steps) i (ended_all n l t steps e));
  premise = in_words n l;
}
