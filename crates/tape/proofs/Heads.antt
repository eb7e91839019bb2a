-- A tape within a block, sample by sample. Assumes nothing.
use mathlib.Core.Path.{◌≡◌, refl, sym, ap, ◌∙◌}
use mathlib.Core.Logic.{◌⊎◌, inl, inr}
use mathlib.Core.Bool.{Bool, true, false, ◌&&◌, cond}
use Prim.Native.Nat.{ℕ, zero, suc, ◌+◌, ◌%◌, ◌≤◌, ◌<◌}
use native.Mathlib.Nat.{le_of_eq, eq-or-lt_of_le, mod_self, mod-eq_of_lt, suc-mod, zero-mod}
use native.Mathlib.Omega.{arith}
use Rattle.std.proofs.Math.Nat.{le_antisymm}
use borrow.Author.Tests.{ltb-true, ltb-false, lt-ltb, le-ltb, eq-eqb, ne_eqb}
use lib.Dec.{ltb, eqb}
use Rattle.std.specs.Prelude.{Some}
use Rattle.tape.specs.Tape.{Head, played, after_sample, head_at, at_end}

abbrev pub at : ℕ → Bool → Head
at p wrap = record { p = p; wrap = wrap }

-- ---- unlooped it goes straight on
plain_step : (l : ℕ) (h : Head) → after_sample l false h ≡ at (suc h.p) h.wrap
plain_step l h = go (ltb h.p l)
  where
    go : (b : Bool) → cond b (at (suc h.p) h.wrap) (at (suc h.p) h.wrap) ≡ at (suc h.p) h.wrap
    go true = refl
    go false = refl

pub straight : (l : ℕ) (h : Head) (i : ℕ) → head_at l false h i ≡ at (h.p + i) h.wrap
unfolding head_at
straight l h zero = ap (λ (x : ℕ). at x h.wrap) (omega arith)
straight l h (suc i) =
    ap (after_sample l false) (straight l h i) ∙ plain_step l (at (h.p + i) h.wrap)
    ∙ ap (λ (x : ℕ). at x h.wrap) (omega arith)

-- ---- and so it does looped, as far as the clip reaches
pub within : (l : ℕ) (h : Head) (i : ℕ) → h.p + i ≤ l → head_at l true h i ≡ at (h.p + i) h.wrap
unfolding head_at
within l h zero m = ap (λ (x : ℕ). at x h.wrap) (omega arith)
within l h (suc i) m =
    ap (after_sample l true) (within l h i (omega arith))
    ∙ ap (λ (b : Bool). cond b (at (suc (h.p + i)) h.wrap) (at 1 true)) (lt-ltb (h.p + i) l (omega arith))
    ∙ ap (λ (x : ℕ). at x h.wrap) (omega arith)

-- ---- looped, p stays at or below l, and is where the frames begun with have come to by their remainder
pub record Inside (l a : ℕ) (h : Head) : Type 0 where
  pub below : h.p ≤ l
  pub rest : h.p % l ≡ a % l

-- the same remainder, one on
suc_rest : (l x y : ℕ) → x % l ≡ y % l → suc x % l ≡ suc y % l
suc_rest l x y e = suc-mod x l ∙ ap (λ (z : ℕ). suc z % l) e ∙ sym (suc-mod y l)

turn_step : (l a : ℕ) (h : Head) → 0 < l → Inside l a h → Inside l (suc a) (after_sample l true h)
turn_step l a h some k = go (ltb h.p l) refl
  where
    go : (b : Bool) → ltb h.p l ≡ b → Inside l (suc a) (cond b (at (suc h.p) h.wrap) (at 1 true))
    go true e = record { below = ltb-true h.p l e; rest = suc_rest l h.p a k.rest }
    go false e =
        let same : h.p ≡ l = le_antisymm k.below (ltb-false h.p l e) in
        record { below = some; rest = suc_rest l 0 a (zero-mod l ∙ sym (mod_self l) ∙ ap (λ (x : ℕ). x % l) (sym same) ∙ k.rest) }

pub turning : (l : ℕ) (h : Head) (i : ℕ) → 0 < l → h.p ≤ l → Inside l (h.p + i) (head_at l true h i)
unfolding head_at
turning l h zero some m = record { below = m; rest = ap (λ (x : ℕ). x % l) (omega arith) }
turning l h (suc i) some m = subst_sum (turn_step l (h.p + i) (head_at l true h i) some (turning l h i some m))
  where
    subst_sum : Inside l (suc (h.p + i)) (after_sample l true (head_at l true h i)) → Inside l (h.p + suc i) (after_sample l true (head_at l true h i))
    subst_sum k = record { below = k.below; rest = k.rest ∙ ap (λ (x : ℕ). x % l) (omega arith) }

-- the frame that it then plays
pub played_turning : (l p : ℕ) → 0 < l → p ≤ l → played l true p ≡ Some (p % l)
played_turning l p some m = go (eq-or-lt_of_le m)
  where
    go : (p ≡ l) ⊎ (p < l) → played l true p ≡ Some (p % l)
    go (inl e) = ap (λ (b : Bool). cond b (Some p) (Some 0)) (le-ltb p l (le_of_eq (sym e))) ∙ ap Some (sym (mod_self l) ∙ ap (λ (x : ℕ). x % l) (sym e))
    go (inr s) = ap (λ (b : Bool). cond b (Some p) (Some 0)) (lt-ltb p l s) ∙ ap Some (sym (mod-eq_of_lt s))

-- ---- past the clip's end a wrap is noted
pub noted : (l : ℕ) (h : Head) (i : ℕ) → h.p ≤ l → l < h.p + i → (head_at l true h i).wrap ≡ true
unfolding head_at
noted l h zero m k = absurd (no m k)
  where
    no : {x y : ℕ} → x ≤ y → y < x + 0 → ⊥
    no p q = omega arith
noted l h (suc i) m k = go (ltb l (h.p + i)) refl (noted l h i m)
  where
    g : Head
    g = head_at l true h i

    keeps : (b : Bool) → g.wrap ≡ true → (cond b (at (suc g.p) g.wrap) (at 1 true)).wrap ≡ true
    keeps true w = w
    keeps false w = refl

    last : {x y z : ℕ} → x ≤ y → y < z → z ≡ suc x → x ≡ y
    last p q r = omega (arith, r)

    full : {x y : ℕ} → x ≡ y → y ≤ x
    full e = omega (arith, e)

    go : (b : Bool) → ltb l (h.p + i) ≡ b → (l < h.p + i → g.wrap ≡ true) → (after_sample l true g).wrap ≡ true
    go true e before = keeps (ltb g.p l) (before (ltb-true l (h.p + i) e))
    go false e before =
        let below : h.p + i ≤ l = ltb-false l (h.p + i) e in
        let same : h.p + i ≡ l = last below k (omega arith) in
        ap (λ (x : Head). (after_sample l true x).wrap) (within l h i below)
        ∙ ap (λ (b : Bool). (cond b (at (suc (h.p + i)) h.wrap) (at 1 true)).wrap) (le-ltb (h.p + i) l (full same))

-- ---- where the block ends
-- with a wrap noted
pub end_noted : (l : ℕ) (h : Head) → h.wrap ≡ true → h.p ≤ l → (at_end l h).p ≡ h.p % l
end_noted l h w m = ap (λ (b : Bool). (at_end l (at h.p b)).p) w ∙ go (eq-or-lt_of_le m)
  where
    other : {x y : ℕ} → x < y → x ≡ y → ⊥
    other m e = omega arith

    go : (h.p ≡ l) ⊎ (h.p < l) → (at_end l (at h.p true)).p ≡ h.p % l
    go (inl e) = rw (eq-eqb h.p l e) (sym (ap (λ (x : ℕ). x % l) e ∙ mod_self l))
    go (inr s) = rw (ne_eqb h.p l (other s)) (sym (mod-eq_of_lt s))

pub end_below : (l : ℕ) (h : Head) → h.p ≤ l → (at_end l h).p ≤ l
end_below l h m = go (h.wrap && eqb h.p l)
  where
    go : (b : Bool) → cond b 0 h.p ≤ l
    go true = omega arith
    go false = m

pub end_plain : (l : ℕ) (h : Head) → h.wrap ≡ false → (at_end l h).p ≡ h.p
end_plain l h e = ap (λ (b : Bool). (at_end l (at h.p b)).p) e
