-- The exact position, block by block: looped, it goes on by n frames, or starts over as the block's last wrap says; so does the tape. Assumes nothing.
use mathlib.Core.Path.{◌≡◌, refl, sym, ap, ◌∙◌}
use mathlib.Core.Logic.{◌⊎◌, inl, inr, ⊎_elim}
use mathlib.Core.Bool.{Bool, true, false, ◌&&◌, ◌||◌, cond}
use Prim.Native.Nat.{ℕ, zero, suc, ◌+◌, ◌*◌, ◌%◌, ◌≤◌, ◌<◌}
use native.Mathlib.Nat.{le_of_lt, le_of_eq, lt_of_le_of_lt, eq-or-lt_of_le, mod-lt, mod_self, mod-eq_of_lt, mod-add-mod, mul-suc, mul-mod_right, mul-zero, zero-mod}
use native.Mathlib.Omega.{arith}
use Rattle.std.proofs.Math.Bool.{and-false}
use borrow.Author.Tests.{ltb-true, ltb-false, le-ltb, eq-eqb, ne_eqb, eqb-true}
use lib.Dec.{eqb, ltb}
use Rattle.std.specs.Prelude.{Option, None, Some}
use Rattle.aligned.specs.Aligned.{last_wrap}
use Rattle.tape.specs.Tape.{Head, head_at, at_end}
use Rattle.tape.proofs.Heads.{at, turning, end_noted}
use Rattle.claims.specs.LongRun.{exact_frames}
use Rattle.claims.proofs.Tape.{Ends, within, over, ends}

-- whether remainder 0 counts as l
abbrev counts : ℕ → ℕ → ℕ → Bool
counts n l k = ltb n l || eqb l n && eqb (k % 2) 1

abbrev pick : ℕ → ℕ → ℕ → ℕ → ℕ
pick n l k rest = cond (eqb rest 0 && counts n l k) l rest

-- the remainder itself, where it is not 0
pick_some : (n l k rest : ℕ) → 0 < rest → pick n l k rest ≡ rest
pick_some n l k rest h = ap (λ (b : Bool). cond (b && counts n l k) l rest) (ne_eqb rest 0 (no rest h))
  where
    no : (x : ℕ) → 0 < x → x ≡ 0 → ⊥
    no x h e = omega arith

pick-none : (n l k rest : ℕ) → rest ≡ 0 → pick n l k rest ≡ cond (counts n l k) l rest
pick-none n l k rest e = ap (λ (b : Bool). cond (b && counts n l k) l rest) (eq-eqb rest 0 e)

either : (b : Bool) (l rest : ℕ) → rest ≡ 0 → cond b l rest % l ≡ rest
either true l rest e = mod_self l ∙ sym e
either false l rest e = ap (λ (x : ℕ). x % l) e ∙ zero-mod l ∙ sym e

pick_mod : (n l k rest : ℕ) → 0 < l → rest < l → pick n l k rest % l ≡ rest
pick_mod n l k rest some h = go rest refl
  where
    go : (x : ℕ) → rest ≡ x → pick n l k rest % l ≡ rest
    go zero e = ap (λ (x : ℕ). x % l) (pick-none n l k rest e) ∙ either (counts n l k) l rest e
    go (suc x) e = ap (λ (x : ℕ). x % l) (pick_some n l k rest (omega arith)) ∙ mod-eq_of_lt h

choose : (b : Bool) (l rest : ℕ) → rest ≤ l → cond b l rest ≤ l
choose true l rest h = le_of_eq refl
choose false l rest h = h

module _ (n l : ℕ) (some : 0 < l) where
  pub exact_le : (k : ℕ) → exact_frames n true l k ≤ l
  unfolding exact_frames
  exact_le zero = le_of_lt some
  exact_le (suc k) = choose (eqb (n * suc k % l) 0 && counts n l (suc k)) l (n * suc k % l) (le_of_lt (mod-lt (n * suc k) some))

  pub exact_mod : (k : ℕ) → exact_frames n true l k % l ≡ n * k % l
  unfolding exact_frames
  exact_mod zero = ap (λ (x : ℕ). x % l) (sym (mul-zero n))
  exact_mod (suc k) = pick_mod n l (suc k) (n * suc k % l) some (mod-lt (n * suc k) some)

  -- the remainder after one more block
  pub exact_rest : (k : ℕ) → (exact_frames n true l k + n) % l ≡ n * suc k % l
  exact_rest k =
      let a = exact_frames n true l k in
      sym (mod-add-mod a l n) ∙ ap (λ (x : ℕ). (x + n) % l) (exact_mod k) ∙ mod-add-mod (n * k) l n ∙ ap (λ (x : ℕ). x % l) (sym (mul-suc n k))

  -- a clip of one block's length: after an odd number of blocks the position is its end, after an even number its start
  even_start : (k : ℕ) → l ≡ n → k % 2 ≡ 0 → exact_frames n true l k ≡ 0
  unfolding exact_frames
  even_start zero e h = refl
  even_start (suc k) e h =
      let r : n * suc k % l ≡ 0 = ap (λ (x : ℕ). n * suc k % x) e ∙ mul-mod_right n (suc k) in
      pick-none n l (suc k) (n * suc k % l) r ∙ ap (λ (b : Bool). cond b l (n * suc k % l)) test ∙ r
    where
      odd : (x : ℕ) → x % 2 ≡ 0 → x % 2 ≡ 1 → ⊥
      odd x p q = omega arith

      test : counts n l (suc k) ≡ false
      test = ap (λ (b : Bool). b || eqb l n && eqb (suc k % 2) 1) (le-ltb n l (le_of_eq e)) ∙ ap (λ (b : Bool). eqb l n && b) (ne_eqb (suc k % 2) 1 (odd (suc k) h)) ∙ and-false (eqb l n)

  odd_end : (k : ℕ) → l ≡ n → k % 2 ≡ 1 → exact_frames n true l k ≡ l
  unfolding exact_frames
  odd_end zero e h = absurd (no h)
    where
      no : ◌≡◌ {A = ℕ} (0 % 2) 1 → ⊥
      no h = omega arith
  odd_end (suc k) e h =
      let r : n * suc k % l ≡ 0 = ap (λ (x : ℕ). n * suc k % x) e ∙ mul-mod_right n (suc k) in
      pick-none n l (suc k) (n * suc k % l) r ∙ ap (λ (b : Bool). cond b l (n * suc k % l)) test
    where
      test : counts n l (suc k) ≡ true
      test = ap (λ (b : Bool). b || eqb l n && eqb (suc k % 2) 1) (le-ltb n l (le_of_eq e)) ∙ ap (λ (b : Bool). b && eqb (suc k % 2) 1) (eq-eqb l n e) ∙ eq-eqb (suc k % 2) 1 h

  parity : (k : ℕ) → (k % 2 ≡ 0) ⊎ (k % 2 ≡ 1)
  parity k = go (k % 2) refl (mod-lt k {m = 2} (omega arith))
    where
      go : (x : ℕ) → k % 2 ≡ x → k % 2 < 2 → (k % 2 ≡ 0) ⊎ (k % 2 ≡ 1)
      go zero e h = inl e
      go (suc zero) e h = inr e
      go (suc (suc x)) e h = absurd (big (k % 2) x e h)
        where
          big : (y x : ℕ) → y ≡ suc (suc x) → y < 2 → ⊥
          big y x e h = omega arith

  -- straight on
  pub exact_on : (k : ℕ) → 0 < n → exact_frames n true l k + n ≤ l → exact_frames n true l (suc k) ≡ exact_frames n true l k + n
  unfolding exact_frames
  exact_on k N h = go (eq-or-lt_of_le h)
    where
      go : (exact_frames n true l k + n ≡ l) ⊎ (exact_frames n true l k + n < l) → pick n l (suc k) (n * suc k % l) ≡ exact_frames n true l k + n
      go (inr m) =
          let e : n * suc k % l ≡ exact_frames n true l k + n = sym (exact_rest k) ∙ mod-eq_of_lt m in
          pick_some n l (suc k) (n * suc k % l) (omega arith) ∙ e
      go (inl e) =
          let r : n * suc k % l ≡ 0 = sym (exact_rest k) ∙ ap (λ (x : ℕ). x % l) e ∙ mod_self l in
          pick-none n l (suc k) (n * suc k % l) r ∙ ap (λ (b : Bool). cond b l (n * suc k % l)) (test (ltb n l) refl (parity k)) ∙ sym e
        where
          odd_next : (k : ℕ) → k % 2 ≡ 0 → suc k % 2 ≡ 1
          odd_next k e = omega arith

          no : (a n l : ℕ) → 0 < n → a + n ≡ l → a ≡ l → ⊥
          no a n l s p q = omega arith

          test : (b : Bool) → ltb n l ≡ b → (k % 2 ≡ 0) ⊎ (k % 2 ≡ 1) → counts n l (suc k) ≡ true
          test true t o = ap (λ (b : Bool). b || eqb l n && eqb (suc k % 2) 1) t
          test false t o =
              let m : l ≤ n = ltb-false n l t in
              let same : l ≡ n = omega arith in
              ap (λ (b : Bool). b || eqb l n && eqb (suc k % 2) 1) t ∙ ap (λ (b : Bool). b && eqb (suc k % 2) 1) (eq-eqb l n same)
              ∙ eq-eqb (suc k % 2) 1 (⊎_elim (odd_next k) (λ (odd : k % 2 ≡ 1). absurd (no (exact_frames n true l k) n l N e (odd_end k same odd))) o)

  -- past the end: b is where the block's last wrap leaves off
  pub exact_over : (k b : ℕ) → l < exact_frames n true l k + n → 0 < b → b ≤ n → b ≤ l → b % l ≡ (exact_frames n true l k + n) % l → exact_frames n true l (suc k) ≡ b % l
  unfolding exact_frames
  exact_over k b past B bn bl e = go (ltb n l) refl (eqb l n) refl
    where
      r : n * suc k % l ≡ b % l
      r = sym (exact_rest k) ∙ sym e

      go : (x : Bool) → ltb n l ≡ x → (y : Bool) → eqb l n ≡ y → pick n l (suc k) (n * suc k % l) ≡ b % l
      go true t y u =
          let m : b < l = lt_of_le_of_lt bn (ltb-true n l t) in
          let z : b % l ≡ b = mod-eq_of_lt m in
          pick_some n l (suc k) (n * suc k % l) (omega (arith, r)) ∙ r
      go false t true u =
          let same : l ≡ n = eqb-true l n u in
          let zero_rest : n * suc k % l ≡ 0 = ap (λ (x : ℕ). n * suc k % x) same ∙ mul-mod_right n (suc k) in
          pick-none n l (suc k) (n * suc k % l) zero_rest ∙ ap (λ (x : Bool). cond x l (n * suc k % l)) (test same (parity k)) ∙ r
        where
          no : (a n l : ℕ) → l < a + n → l ≡ n → a ≡ 0 → ⊥
          no a n l p q s = omega arith

          odd_next : (k : ℕ) → k % 2 ≡ 1 → suc k % 2 ≡ 1 → ⊥
          odd_next k p q = omega arith

          test : l ≡ n → (k % 2 ≡ 0) ⊎ (k % 2 ≡ 1) → counts n l (suc k) ≡ false
          test same (inl even) = absurd (no (exact_frames n true l k) n l past same (even_start k same even))
          test same (inr odd) = ap (λ (x : Bool). x || eqb l n && eqb (suc k % 2) 1) t ∙ ap (λ (x : Bool). eqb l n && x) (ne_eqb (suc k % 2) 1 (odd_next k odd)) ∙ and-false (eqb l n)
      go false t false u =
          let c : counts n l (suc k) ≡ false = ap (λ (x : Bool). x || eqb l n && eqb (suc k % 2) 1) t ∙ ap (λ (x : Bool). x && eqb (suc k % 2) 1) u in
          ap (λ (x : Bool). cond (eqb (n * suc k % l) 0 && x) l (n * suc k % l)) c ∙ keep (eqb (n * suc k % l) 0) ∙ r
        where
          keep : (x : Bool) → cond (x && false) l (n * suc k % l) ≡ n * suc k % l
          keep true = refl
          keep false = refl

  -- ---- and so goes the tape's block
  pub exact_next : (k : ℕ) → 0 < n → (at_end l (head_at l true (at (exact_frames n true l k) false) n)).p ≡ exact_frames n true l (suc k)
  exact_next k N = go (last_wrap true l a n) (head_at l true (at a false) n) (ends l a n some (exact_le k)) (turning l (at a false) n some (exact_le k)).rest
    where
      a : ℕ
      a = exact_frames n true l k

      go : (w : Option ℕ) (h : Head) → Ends l a n w h → h.p % l ≡ (a + n) % l → (at_end l h).p ≡ exact_frames n true l (suc k)
      go None h (within m) r = sym (exact_on k N m)
      go (Some w) h (over v p W e B past) r = end_noted l (at p true) refl B ∙ sym (exact_over k p past (omega arith) (omega arith) B r)
