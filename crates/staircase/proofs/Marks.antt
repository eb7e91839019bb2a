-- The marks of lapse trials, entry after entry. Assumes nothing.
use Rattle.std.proofs.Common.{◌≡◌, refl, sym, ap, ◌∙◌, Bool, true, false, cond, ◌||◌, List, ◌∷◌, ℕ, zero, suc, ◌+◌, ◌<◌, ◌≤◌, eqb, length, get_or, set, take, replicate, arith}
use Rattle.std.proofs.Math.Dec.{eqb-suc-zero, eqb-zero-suc, eqb-suc-suc}
use Rattle.std.proofs.lemmas.Bool.{ne_eqb}
use Rattle.std.proofs.lemmas.List.Folds.{list_any_more}
use Rattle.lists.specs.Table.{table, table_same, replicate_table}
use Rattle.staircase.specs.Staircase.{is_lapse}

-- a table with one value replaced
set_table : (n : ℕ) (f : ℕ → Bool) (t : ℕ) (v : Bool) → set (table n f) t v ≡ table n (λ k. cond (eqb k t) v (f k))
unfolding table
set_table zero f t v = refl
set_table (suc n) f zero v =
    ap (λ (r : List Bool). v ∷ r)
    (table_same n (λ k. f (suc k)) (λ k. cond (eqb (suc k) zero) v (f (suc k))) (λ k h. sym (ap (λ b. cond b v (f (suc k))) (eqb-suc-zero k))))
set_table (suc n) f (suc t) v =
    rw (eqb-zero-suc t)
    (ap (λ (r : List Bool). f zero ∷ r)
    (set_table n (λ k. f (suc k)) t v
    ∙ table_same n (λ k. cond (eqb k t) v (f (suc k))) (λ k. cond (eqb (suc k) (suc t)) v (f (suc k)))
    (λ k h. sym (ap (λ b. cond b v (f (suc k))) (eqb-suc-suc k t)))))

-- the entries before number i are marked
abbrev pub marks : List ℕ → ℕ → List Bool
marks lapses i = table 1000 (is_lapse (take i lapses))

pub marks_none : (lapses : List ℕ) → replicate 1000 false ≡ marks lapses 0
marks_none lapses = replicate_table 1000 false

or_cond : (a b : Bool) → (a || b) ≡ cond b true a
or_cond true true = refl
or_cond true false = refl
or_cond false true = refl
or_cond false false = refl

module _ (lapses : List ℕ) (i : ℕ) (within : i < length lapses) where
  more : (k : ℕ) → is_lapse (take (i + 1) lapses) k ≡ cond (eqb k (get_or lapses i 0)) true (is_lapse (take i lapses) k)
  more k = list_any_more (eqb k) lapses i 0 within ∙ or_cond (is_lapse (take i lapses) k) (eqb k (get_or lapses i 0))

  pub marks_more : set (marks lapses i) (get_or lapses i 0) true ≡ marks lapses (i + 1)
  marks_more =
      set_table 1000 (is_lapse (take i lapses)) (get_or lapses i 0) true
      ∙ table_same 1000 (λ k. cond (eqb k (get_or lapses i 0)) true (is_lapse (take i lapses) k)) (is_lapse (take (i + 1) lapses)) (λ k h. sym (more k))

  pub marks_past : 1000 ≤ get_or lapses i 0 → marks lapses i ≡ marks lapses (i + 1)
  marks_past past =
      table_same 1000 (is_lapse (take i lapses)) (is_lapse (take (i + 1) lapses))
      (λ k h. sym (more k ∙ ap (λ b. cond b true (is_lapse (take i lapses) k)) (ne_eqb k (get_or lapses i 0) (λ e. absurd (omega arith)))))
