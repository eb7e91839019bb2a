-- The places of a track that the trials fill, and the track that a call answers. Assumes nothing.
use Rattle.std.proofs.Common.{◌≡◌, ◌∙◌, refl, ap, Bool, true, false, List, [], ◌∷◌, ℕ, zero, suc, ◌≤◌, ◌<◌, length, get_or, take, replicate, zero-lt-suc, not-suc-le-zero, le_of_suc-le-suc, arith}
use Rattle.std.specs.Prelude.{Ok}
use Rattle.std.proofs.lemmas.Bool.Decides.{nat_tests}
use Rattle.buffer.specs.Answers.{after_checks, check}
use Rattle.buffer.specs.declared.refusals.Refusal.TheVariants as refused
use Rattle.std.proofs.lemmas.List.{length-replicate}
use Rattle.lists.specs.Table.{table, filled, get_or_filled, get_or_unfilled}
use Rattle.staircase.specs.Staircase.{level, reply, track, is_accepted, staircase}
use Rattle.staircase.specs.declared.Track.{Track}

-- the first trials' places of a list with room for them
pub take_filled : {A : Type 0} (m n : ℕ) (f : ℕ → A) (l : List A) → m ≤ n → n ≤ length l → take m (filled n f l) ≡ table m f
unfolding filled table
take_filled zero n f l b h = refl
take_filled (suc m) zero f l b h = absurd (not-suc-le-zero b)
take_filled (suc m) (suc n) f [] b h = absurd (not-suc-le-zero h)
take_filled {A} (suc m) (suc n) f (x ∷ xs) b h =
    ap (λ (r : List A). f zero ∷ r) (take_filled m n (λ i. f (suc i)) xs (le_of_suc-le-suc b) (le_of_suc-le-suc h))

-- functions that agree below the count fill alike
pub filled_same : {A : Type 0} (n : ℕ) (f g : ℕ → A) (l : List A) → ((i : ℕ) → i < n → f i ≡ g i) → filled n f l ≡ filled n g l
unfolding filled
filled_same zero f g l h = refl
filled_same (suc n) f g [] h = refl
filled_same {A} (suc n) f g (x ∷ xs) h =
    rw (h zero (zero-lt-suc n))
    (ap (λ (r : List A). g zero ∷ r) (filled_same n (λ i. f (suc i)) (λ i. g (suc i)) xs (λ i b. h (suc i) (omega arith))))

-- ---- a track that a call answers
low_few : (start threshold step trials : ℕ) → is_accepted start threshold step trials ≡ true → (start ≤ 120) × (trials ≤ 1000)
low_few start threshold step trials held = (grind (arith, nat_tests), grind (arith, nat_tests))

-- it is that of the procedure, of at most 1,000 trials, from at most 120
pub record Answered (start threshold step trials : ℕ) (lapses : List ℕ) (t : Track) : Type 0 where
  pub low : start ≤ 120
  pub few : trials ≤ 1000
  pub same : t ≡ track start threshold step lapses trials

pub answered : (start threshold step trials : ℕ) (lapses : List ℕ) (t : Track) → staircase start threshold step trials lapses ≡ Ok t
    → Answered start threshold step trials lapses t
unfolding staircase
answered start threshold step trials lapses t e =
    elim (is_accepted start threshold step trials) as
    (λ b. is_accepted start threshold step trials ≡ b
    → after_checks (check b refused.Staircase) (track start threshold step lapses trials) ≡ Ok t
    → Answered start threshold step trials lapses t) [
      | true ↦ λ held k.
          let bounds = low_few start threshold step trials held in
          record { low = bounds.0; few = bounds.1; same = cc }
      | false ↦ λ no k. cc
    ] refl e

-- its places: a trial's, and after the trials 0
blank : (n k : ℕ) → get_or (replicate {A = ℕ} n zero) k zero ≡ zero
blank zero k = refl
blank (suc n) zero = refl
blank (suc n) (suc k) = blank n k

module _ (start threshold step trials : ℕ) (lapses : List ℕ) (t : Track) (a : Answered start threshold step trials lapses t) (k : ℕ) where
  pub level_here : k < trials → get_or t.levels k 0 ≡ level start threshold step lapses k
  level_here h =
      rw a.same (get_or_filled trials (level start threshold step lapses) (replicate 1000 0) k 0 h
      (rw (length-replicate {A = ℕ} 1000 0) (omega (arith, a.few))))

  pub heard_here : k < trials → get_or t.heard k false ≡ reply start threshold step lapses k
  heard_here h =
      rw a.same (get_or_filled trials (reply start threshold step lapses) (replicate 1000 false) k false h
      (rw (length-replicate {A = Bool} 1000 false) (omega (arith, a.few))))

  pub level_past : trials ≤ k → get_or t.levels k 0 ≡ 0
  level_past h = rw a.same (get_or_unfilled trials (level start threshold step lapses) (replicate 1000 0) k 0 h ∙ blank 1000 k)
