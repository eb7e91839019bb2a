-- Where a counter stands after k blocks, and what follows. Assumes nothing.
use mathlib.Core.Path.{◌≡◌, refl, sym, ap, ◌∙◌, subst}
use mathlib.Core.Bool.{Bool, true, false, not, cond, true≢false, false≢true}
use mathlib.Core.List.{List}
use Prim.Native.Nat.{ℕ, zero, suc, ◌+◌, ◌*◌, ◌/◌, ◌%◌, ◌≤◌, ◌<◌, min}
use native.Mathlib.Nat.{le_of_lt, le_trans, mod-lt, mod-add-mod, mul-suc, mul-zero, zero-mod}
use native.Mathlib.Omega.{arith}
use borrow.Author.Tests.{leb-true, leb-false, eqb-false}
use Rattle.std.proofs.lemmas.Bool.{le-leb, lt-leb}
use lib.Dec.{leb, eqb}
use lib.ListN.{length, get_or, get_or-eq_default}
use Rattle.std.specs.Prelude.{Result, Ok, Err}
use Rattle.buffer.specs.Limits.{valid_shape}
use Rattle.buffer.specs.declared.refusals.Refusal.{Refusal}
use Rattle.buffer.specs.declared.refusals.Refusal.TheVariants as refused
use Rattle.counting.specs.declared.Counter.{Counter}
use Rattle.counting.specs.Counting.{made, has_ended, frame_at, sample, counted_on, silent, playing, report}
use Rattle.counting.specs.Statement.{after_blocks, Counts, TheCounter}

-- the frame that comes next after k blocks: looped the remainder, else at most frame l
abbrev stands_at : ℕ → ℕ → Bool → ℕ → ℕ
stands_at n l looping k = cond looping (n * k % l) (min (n * k) l)

abbrev at : ℕ → ℕ → Bool → ℕ → Counter
at channels l looping next = record { channels = channels; frames = l; next = next; looping = looping }

least : {a b : ℕ} → a ≤ b → min a b ≡ a
least h = omega arith

some_left : (x l : ℕ) → 0 < l → leb l (x % l) ≡ false
some_left x l s = lt-leb l (x % l) (mod-lt x s)

one_more : (n channels l k : ℕ) (looping : Bool) → 0 < l
    → (report n (at channels l looping (stands_at n l looping k))).counter ≡ at channels l looping (stands_at n l looping (suc k))
unfolding report counted_on frame_at has_ended
one_more n channels l k true s =
    let c = at channels l true (n * k % l) in
    ap (λ (b : Bool). (cond b (silent c) (playing n c)).counter) (some_left (n * k) l s)
    ∙ ap (at channels l true) (least (le_of_lt (mod-lt (n * k % l + n) s)) ∙ mod-add-mod (n * k) l n ∙ ap (λ (x : ℕ). x % l) (sym (mul-suc n k)))
one_more n channels l k false s = go (leb l (min (n * k) l)) refl
  where
    c : Counter
    c = at channels l false (min (n * k) l)

    over : (x y : ℕ) → l ≤ min x l → min x l ≡ min (x + y) l
    over x y h = omega arith

    under : (x y : ℕ) → min x l < l → min (min x l + y) l ≡ min (x + y) l
    under x y h = omega arith

    go : (b : Bool) → leb l (min (n * k) l) ≡ b → (cond b (silent c) (playing n c)).counter ≡ at channels l false (min (n * suc k) l)
    go true e = ap (at channels l false) (over (n * k) n (leb-true l (min (n * k) l) e) ∙ ap (λ (x : ℕ). min x l) (sym (mul-suc n k)))
    go false e = ap (at channels l false) (under (n * k) n (leb-false l (min (n * k) l) e) ∙ ap (λ (x : ℕ). min x l) (sym (mul-suc n k)))

stands : (n channels l : ℕ) (looping : Bool) → 0 < l → (k : ℕ) → after_blocks n (at channels l looping 0) k ≡ at channels l looping (stands_at n l looping k)
unfolding after_blocks
stands n channels l true s zero = ap (at channels l true) (sym (zero-mod l) ∙ ap (λ (x : ℕ). x % l) (sym (mul-zero n)))
stands n channels l false s zero = ap (at channels l false) (none l ∙ ap (λ (x : ℕ). min x l) (sym (mul-zero n)))
  where
    none : (l : ℕ) → 0 ≡ min 0 l
    none l = omega arith
stands n channels l looping s (suc k) = ap (λ (c : Counter). (report n c).counter) (stands n channels l looping s k) ∙ one_more n channels l k looping s

counts_at : (n channels l : ℕ) (looping : Bool) → 0 < l → (k : ℕ) → Counts n l looping k (at channels l looping (stands_at n l looping k))
unfolding sample frame_at has_ended
counts_at n channels l true s k = record {
  looped = λ on channel i.
      ap (λ (b : Bool). cond b 0 (get_or channel ((n * k % l + i) % l) 0)) (some_left (n * k) l s)
      ∙ ap (λ (x : ℕ). get_or channel x 0) (mod-add-mod (n * k) l i);
  never_ends = λ on. some_left (n * k) l s;
  plain = λ off. absurd (true≢false off);
  ends = λ off. absurd (true≢false off);
}
counts_at n channels l false s k = record {
  looped = λ on. absurd (false≢true on);
  never_ends = λ on. absurd (false≢true on);
  plain = λ off channel i full. bits channel i full (leb l (min (n * k) l)) refl;
  ends = λ off. same (n * k) (leb l (n * k)) refl;
}
  where
    past : (x i : ℕ) → l ≤ min x l → l ≤ x + i
    past x i h = omega arith

    before : (x : ℕ) → min x l < l → min x l ≡ x
    before x h = omega arith

    bits : (channel : List ℕ) (i : ℕ) → length channel ≤ l → (b : Bool) → leb l (min (n * k) l) ≡ b
        → cond b 0 (get_or channel (min (n * k) l + i) 0) ≡ get_or channel (n * k + i) 0
    bits channel i full true e = sym (get_or-eq_default channel 0 (le_trans full (past (n * k) i (leb-true l (min (n * k) l) e))))
    bits channel i full false e = ap (λ (x : ℕ). get_or channel (x + i) 0) (before (n * k) (leb-false l (min (n * k) l) e))

    same : (x : ℕ) (b : Bool) → leb l x ≡ b → leb l (min x l) ≡ leb l x
    same x true e = let h = leb-true l x e in le-leb l (min x l) (omega arith) ∙ sym e
    same x false e = let h = leb-false l x e in lt-leb l (min x l) (omega arith) ∙ sym e

-- ---- what was made
is_ok : Result Counter Refusal → Bool
is_ok (Ok c) = true
is_ok (Err refused) = false

err-ok : {e : Refusal} {c : Counter} → ◌≡◌ {A = Result Counter Refusal} (Err e) (Ok c) → ⊥
unfolding is_ok
err-ok h = false≢true (ap is_ok h)

record Made (none : Bool) (x c : Counter) : Type 0 where
  some : none ≡ false
  is : x ≡ c

made_is : (bad none : Bool) (x c : Counter) → cond bad (Err refused.Shape) (cond none (Err refused.Empty) (Ok x)) ≡ Ok c → Made none x c
made_is true none x c e = absurd (err-ok e)
made_is false true x c e = absurd (err-ok e)
made_is false false x c e = record { some = refl; is = cc }

pub the_counter : TheCounter
unfolding made
the_counter = record {
  counts = λ n channels l looping c some e k.
      let m = made_is (not (valid_shape channels l (channels * l))) (eqb l 0) (at channels l looping 0) c e in
      let long : 0 < l = positive l (eqb-false l 0 m.some) in
      subst (λ (d : Counter). Counts n l looping k (after_blocks n d k)) m.is
      (subst (Counts n l looping k) (sym (stands n channels l looping long k)) (counts_at n channels l looping long k));
  rounded_up = λ l k. go l k (leb l (128 * k)) refl;
}
  where
    positive : (l : ℕ) → (l ≡ 0 → ⊥) → 0 < l
    positive zero h = absurd (h refl)
    positive (suc l) h = omega arith

    go : (l k : ℕ) (b : Bool) → leb l (128 * k) ≡ b → leb l (128 * k) ≡ leb ((l + 127) / 128) k
    go l k true e = let h = leb-true l (128 * k) e in e ∙ sym (le-leb ((l + 127) / 128) k (omega arith))
    go l k false e = let h = leb-false l (128 * k) e in e ∙ sym (lt-leb ((l + 127) / 128) k (omega arith))
