-- The tape without a switch during playback: it has the frames and the positions that the long run's statement names. Assumes nothing.
use mathlib.Core.Path.{◌≡◌, refl, sym, ap, ap₂, ◌∙◌, subst}
use mathlib.Core.Bool.{Bool, true, false, not, ◌&&◌, cond, true≢false, false≢true}
use mathlib.Core.List.{List}
use Prim.Native.Nat.{ℕ, zero, suc, ◌+◌, ◌*◌, ◌%◌, ◌≤◌, ◌<◌}
use native.Mathlib.Nat.{le_of_lt, add-zero, mod-add-mod, mul-suc, mul-zero}
use native.Mathlib.Omega.{arith}
use Rattle.std.proofs.Math.Bool.{and-false}
use borrow.Author.Tests.{ltb-true, ltb-false, le-ltb, lt-ltb, eqb-true}
use lib.Dec.{ltb, eqb}
use lib.ListN.{get_or, replicate}
use Rattle.std.specs.Prelude.{None, Some}
use Rattle.buffer.specs.Channels.{channel}
use Rattle.tape.specs.Tape.{Head, Tape, a_block, head_at, at_end, finished, stepped, stepped_all, frame_at, bits_of}
use Rattle.tape.proofs.Heads.{at, straight}
use Rattle.tape.proofs.Laws.{goes, stays, no_frames, looped_lem, unlooped_lem}
use Rattle.tape.proofs.Premise.{head_is}
use Rattle.claims.specs.Calls.{Clip}
use Rattle.claims.specs.LongRun.{frame_bits, exact_frames}
use Rattle.claims.specs.LoopSwitch.{unswitched, NoSwitch}
use Rattle.claims.proofs.Exact.{exact_le, exact_mod, exact_next}

pub exact_plain : (n l k : ℕ) → exact_frames n false l k ≡ n * k
unfolding exact_frames
exact_plain n l zero = sym (mul-zero n)
exact_plain n l (suc k) = refl

-- the tape after k blocks, the loop as it was before them
pub record Unswitched (n l : ℕ) (looped : Bool) (k : ℕ) (t : Tape) : Type 0 where
  pub loop : t.looped ≡ looped
  pub cleared : t.head.wrap ≡ false
  pub number : t.ended ≡ false → t.head.p ≡ exact_frames n looped l k
  pub inside : t.ended ≡ false → looped ≡ false → n * k ≤ l
  pub fit_by : t.exact_fit ≡ true → (looped ≡ false) × (l ≤ n * k)
  pub ended_by : t.ended ≡ true → (looped ≡ false) × (l ≤ n * k)
  pub ends : t.ended ≡ (not looped && ltb l (n * k))

-- the loop before the first block
abbrev pub begun : Bool → Tape
begun looped = record { looped = looped; head = at 0 false; exact_fit = false; ended = false }

pub unswitched_none : (n l : ℕ) (looped : Bool) → Unswitched n l looped 0 (begun looped)
unfolding exact_frames
unswitched_none n l looped = record {
  loop = refl;
  cleared = refl;
  number = λ e. refl;
  inside = λ e f. omega arith;
  fit_by = λ e. absurd (false≢true e);
  ended_by = λ e. absurd (false≢true e);
  ends = sym (ap (λ (b : Bool). not looped && b) (le-ltb l (n * 0) (omega (arith, mul-zero n))) ∙ and-false (not looped));
}

further : (n k l : ℕ) → l ≤ n * k → l ≤ n * suc k
further n k l h = omega (arith, mul-suc n k)

past : (n k l : ℕ) → 0 < n → l ≤ n * k → l < n * suc k
past n k l s h = omega (arith, mul-suc n k)

module _ (n l : ℕ) (some : 0 < n) (long : 0 < l) where
  -- the block of a tape that goes on
  abbrev block_of : Bool → ℕ → Tape
  block_of looped k = finished l looped (at_end l (head_at l looped (at (exact_frames n looped l k) false) n))

  on_block : (looped : Bool) (k : ℕ) → (looped ≡ false → n * k ≤ l) → Unswitched n l looped (suc k) (block_of looped k)
  on_block true k h = record {
    loop = refl;
    cleared = refl;
    number = λ e. exact_next n l long k some;
    inside = λ e f. absurd (true≢false f);
    fit_by = λ e. absurd (false≢true e);
    ended_by = λ e. absurd (false≢true e);
    ends = refl;
  }
  on_block false k h =
      let p : (at_end l (head_at l false (at (exact_frames n false l k) false) n)).p ≡ n * suc k =
      ap (λ (g : Head). (at_end l g).p) (straight l (at (exact_frames n false l k) false) n) ∙ ap (λ (x : ℕ). x + n) (exact_plain n l k) ∙ sym (mul-suc n k) in
      record {
        loop = refl;
        cleared = refl;
        number = λ e. p ∙ sym (exact_plain n l (suc k));
        inside = λ e f. ltb-false l (n * suc k) (ap (ltb l) (sym p) ∙ e);
        fit_by = λ e. (refl, at_least (eqb-true (n * suc k) l (ap (λ (x : ℕ). eqb x l) (sym p) ∙ e)));
        ended_by = λ e. (refl, le_of_lt (ltb-true l (n * suc k) (ap (ltb l) (sym p) ∙ e)));
        ends = ap (ltb l) p;
      }
    where
      at_least : {x y : ℕ} → x ≡ y → y ≤ x
      at_least e = omega (arith, e)

  pub unswitched_block : (looped : Bool) (k : ℕ) (t : Tape) → Unswitched n l looped k t → Unswitched n l looped (suc k) (stepped n l t a_block)
  unswitched_block looped k t u = go t.ended refl
    where
      go : (b : Bool) → t.ended ≡ b → Unswitched n l looped (suc k) (stepped n l t a_block)
      go true e = subst (Unswitched n l looped (suc k)) (sym (stays n l t e)) (record {
        loop = u.loop;
        cleared = u.cleared;
        number = λ f. absurd (true≢false (sym e ∙ f));
        inside = λ f g. absurd (true≢false (sym e ∙ f));
        fit_by = λ f. ((u.fit_by f).0, further n k l (u.fit_by f).1);
        ended_by = λ f. ((u.ended_by f).0, further n k l (u.ended_by f).1);
        ends = e ∙ sym (ap₂ (λ (b c : Bool). not b && c) (u.ended_by e).0 (lt-ltb l (n * suc k) (past n k l some (u.ended_by e).1)));
      })
      go false e =
          let head : t.head ≡ at (exact_frames n looped l k) false = head_is t u.cleared ∙ ap (λ (x : ℕ). at x false) (u.number e) in
          subst (Unswitched n l looped (suc k))
          (sym (goes n l t e ∙ ap₂ (λ (b : Bool) (h : Head). finished l b (at_end l (head_at l b h n))) u.loop head))
          (on_block looped k (u.inside e))

  unswitched_all : (looped : Bool) (j k : ℕ) (t : Tape) → Unswitched n l looped j t → Unswitched n l looped (k + j) (stepped_all n l t (replicate k a_block))
  unfolding stepped_all
  unswitched_all looped j zero t u = subst (λ (m : ℕ). Unswitched n l looped m t) (omega arith) u
  unswitched_all looped j (suc k) t u =
      subst (λ (m : ℕ). Unswitched n l looped m (stepped_all n l (stepped n l t a_block) (replicate k a_block))) (shift k j)
      (unswitched_all looped (suc j) k (stepped n l t a_block) (unswitched_block looped j t u))
    where
      shift : (k j : ℕ) → k + suc j ≡ suc k + j
      shift k j = omega arith

  pub unswitched_after : (looped : Bool) (k : ℕ) (t : Tape) → Unswitched n l looped 0 t → Unswitched n l looped k (stepped_all n l t (replicate k a_block))
  unswitched_after looped k t u = subst (λ (m : ℕ). Unswitched n l looped m (stepped_all n l t (replicate k a_block))) (add-zero k) (unswitched_all looped 0 k t u)

  -- ---- the frames
  pub same_bits : (looped : Bool) (k : ℕ) (t : Tape) (clip : Clip) (i c : ℕ) → clip.frames ≡ l → Unswitched n l looped k t
      → bits_of (channel clip.samples l c) (frame_at l t i) ≡ frame_bits n looped clip k i c
  unfolding frame_bits
  same_bits looped k t clip i c is u = rw is (go t.ended refl looped u)
    where
      row : List ℕ
      row = channel clip.samples l c

      cut : (b : Bool) (x : ℕ) → bits_of row (cond b (Some x) None) ≡ cond b (get_or row x 0) 0
      cut true x = refl
      cut false x = refl

      go : (b : Bool) → t.ended ≡ b → (on : Bool) → Unswitched n l on k t
          → bits_of row (frame_at l t i) ≡ cond on (get_or row ((n * k + i) % l) 0) (cond (ltb (n * k + i) l) (get_or row (n * k + i) 0) 0)
      go true e true w = absurd (true≢false (w.ended_by e).0)
      go true e false w =
          ap (bits_of row) (no_frames l t i e) ∙ ap (λ (b : Bool). cond b (get_or row (n * k + i) 0) 0) (sym (le-ltb (n * k + i) l (beyond (n * k) (w.ended_by e).1)))
        where
          beyond : (x : ℕ) → l ≤ x → l ≤ x + i
          beyond x h = omega arith
      go false e true w =
          let p = w.number e in
          ap (bits_of row) (looped_lem n l long t e w.loop (subst (λ (x : ℕ). x ≤ l) (sym p) (exact_le n l long k)) i)
          ∙ ap (λ (x : ℕ). get_or row x 0) (ap (λ (x : ℕ). (x + i) % l) p ∙ sym (mod-add-mod (exact_frames n true l k) l i) ∙ ap (λ (x : ℕ). (x + i) % l) (exact_mod n l long k) ∙ mod-add-mod (n * k) l i)
      go false e false w =
          ap (bits_of row) (unlooped_lem n l t e w.loop i) ∙ cut (ltb (t.head.p + i) l) (t.head.p + i)
          ∙ ap (λ (x : ℕ). cond (ltb (x + i) l) (get_or row (x + i) 0) 0) (w.number e ∙ exact_plain n l k)

-- ---- the law of the statement
pub no_switch : (n : ℕ) (looped : Bool) (clip : Clip) (k : ℕ) → 0 < n → 0 < clip.frames → NoSwitch n looped clip k
unfolding stepped_all stepped
no_switch n looped clip k some long = record {
  bits = λ i c. same_bits n clip.frames some long looped k (unswitched n clip.frames looped k) clip i c refl are;
  position = are.number;
  ended = are.ends;
}
  where
    are : Unswitched n clip.frames looped k (stepped_all n clip.frames (begun looped) (replicate k a_block))
    are = unswitched_after n clip.frames some long looped k (begun looped) (unswitched_none n clip.frames looped)
