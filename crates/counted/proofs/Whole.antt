-- The statement: the counting player beside the first, block by block. Assumes nothing.
use mathlib.Core.Path.{◌≡◌, refl, sym, ap, ap₂, ◌∙◌, subst}
use mathlib.Core.Bool.{Bool, true, false, not, ◌&&◌, ◌||◌, cond, false≢true}
use mathlib.Core.List.{List, [], ◌∷◌, ◌++◌}
use Prim.Native.Nat.{ℕ, suc, ◌+◌, ◌*◌, ◌%◌, ◌≤◌}
use native.Mathlib.Omega.{arith}
use borrow.Author.Tests.{eqb-true, eq-eqb, ne_eqb}
use lib.Dec.{T, leb, eqb, lit<}
use lib.ListN.{length, get_or}
use lib.Ieee.{Float, binary32, fits}
use Rattle.std.proofs.Common.{append_assoc}
use Rattle.std.proofs.lemmas.Bool.{le-leb}
use Rattle.std.specs.Prelude.{Ok, Some}
use Rattle.buffer.specs.Limits.{valid_rate, valid_shape}
use Rattle.buffer.specs.Channels.{channel}
use Rattle.detune.specs.Statement.{Exact}
use Rattle.player.specs.Record.{fresh_with}
use Rattle.player.specs.declared.Player.{Player}
use Rattle.player.specs.declared.PlayerOptions.{PlayerOptions}
use Rattle.counting.specs.Counting as counting
use Rattle.counting.specs.Counting.{has_ended, report}
use Rattle.counting.specs.Statement.{after_blocks, Counts, TheCounter}
use Rattle.counting.specs.declared.Counter.{Counter}
use Rattle.claims.specs.Calls.{Call, all_typed, Event, after, after_all, is_ended, opening, playing, stop_in, switch_in, gathered}
use Rattle.claims.specs.LongRun.{Premises, Block, is_before, end_of, switched_on, LongRun}
use Rattle.claims.specs.LoopSwitch.{LoopSwitch}
use Rattle.claims.specs.Longer.{replaced}
use Rattle.claims.proofs.Begin.{sound}
use Rattle.claims.proofs.Opening.{Sound}
use Rattle.claims.proofs.Longer.{all_typed_lem}
use Rattle.claims.proofs.Whole.{begins_of}
use Rattle.counted.specs.Beside.{counted_by, counted_output, counted_all, is_fit, Beside, AllBeside, CountsBeside, taken}
use Rattle.counted.proofs.Lists.{after_both, one_more, length_more}
use Rattle.counted.proofs.Ends.{moment}
use Rattle.counted.proofs.Alive.{Accepted, accepted_block}
use Rattle.counted.proofs.Counter.{reports_alive, reports_channels, reports_ended, rendered_is, output_at, Lent, counted_is, blocks_keep, ends_at, bits_at}

module _ (run : LongRun) (switch : LoopSwitch) (counts : TheCounter) (rate : Float) (options : PlayerOptions) (quiet : options.ramp ≡ 0) (f : T (fits binary32 rate)) (ok : T (valid_rate rate)) (calls : List Call)
    (ty : T (all_typed calls)) (h : Premises rate (taken rate options calls)) (none : gathered stop_in (opening (taken rate options calls)) ≡ []) where
  abbrev es : List Event
  es = taken rate options calls

  abbrev on : Bool
  on = switched_on (gathered switch_in (opening es))

  abbrev channels : ℕ
  channels = h.clip.channels

  abbrev l : ℕ
  l = h.clip.frames

  abbrev counter : Counter
  counter = record { channels = channels; frames = l; next = 0; looping = on }

  -- the player before the first block
  abbrev start : Player
  start = after_all (fresh_with rate options) (opening es)

  within : Sound channels l rate
  within = sound rate options quiet f ok calls ty (begins_of rate es h)

  made : counting.made channels l on ≡ Ok counter
  unfolding counting.made valid_shape
  made =
      simp (
        le-leb 1 channels within.some,
        le-leb channels 32 within.few,
        le-leb l 16777216 within.short,
        eq-eqb (channels * l) (channels * l) refl,
        ne_eqb l 0 (positive within.long),
      )
    where
      positive : {n : ℕ} → 1 ≤ n → n ≡ 0 → ⊥
      positive m e = omega (arith, e)

  -- the counter after k blocks
  abbrev at : ℕ → Counter
  at k = after_blocks 128 counter k

  so : (k : ℕ) → Counts 128 l on k (at k)
  so k = counts.counts 128 channels l on counter (lit< tt) made k

  kept : (k : ℕ) → ((at k).channels ≡ channels) × ((at k).frames ≡ l)
  kept k = blocks_keep channels l counter refl refl k

  few_of : (b : Bool) (n : ℕ) → n ≤ 32 → cond b 1 n ≤ 32
  few_of true n m = omega arith
  few_of false n m = m

  -- an accepted block is one of the counter's
  lent : (p : Player) (e : Event) → Accepted rate channels l h.clip.samples p e → Lent channels l e
  lent p e a c m n =
      ap (counted_by c) a.is
      ∙ ap Some (rendered_is c a.out h.clip.samples a.whole (ap₂ (λ (x y : ℕ). valid_shape x y (length h.clip.samples)) m n ∙ a.shape))

  module _ (front : List Event) (e : Event) (back : List Event) (split : playing es ≡ front ++ (e ∷ back)) where
    abbrev k : ℕ
    k = length front

    taken_block : Accepted rate channels l h.clip.samples (after_all start front) e
    taken_block = accepted_block rate options quiet f ok calls ty h front e back split

    stands : counted_all counter front ≡ at k
    stands =
        counted_is channels l counter refl refl front
        (λ fore d rest s. lent (after_all start fore) d (accepted_block rate options quiet f ok calls ty h fore d (rest ++ (e ∷ back)) (split ∙ ap (λ (r : List Event). r ++ (e ∷ back)) s ∙ append_assoc fore (d ∷ rest) (e ∷ back))))

    held : Block rate on h.clip (gathered stop_in (opening es)) front e back
    held = (run rate options quiet f ok calls ty h).each front e back split

    -- whether each has ended before the block
    ended_before : is_fit on l k ≡ false → is_ended e.before ≡ has_ended (at k)
    ended_before n =
        ap is_ended taken_block.before ∙ moment switch rate options quiet f ok calls ty h none front (e ∷ back) split n
        ∙ sym (ends_at l on k (at k) (so k))

    -- and after it
    ended_after : is_fit on l (suc k) ≡ false → (report 128 (at k)).ended ≡ is_ended (after e)
    unfolding after_blocks
    ended_after n =
        let more = length_more front e in
        reports_ended (at k) ∙ ends_at l on (suc k) (at (suc k)) (so (suc k))
        ∙ ap (λ (j : ℕ). not on && leb l (128 * j)) (sym more)
        ∙ sym (moment switch rate options quiet f ok calls ty h none (front ++ (e ∷ [])) back (split ∙ one_more front e back) (ap (is_fit on l) more ∙ n))
        ∙ ap is_ended (after_both start front (e ∷ []))

    beside : Beside on l k (at k) e
    beside = record {
      report = report 128 (at k);
      accepted = lent (after_all start front) e taken_block (at k) (kept k).0 (kept k).1;
      samples = λ d i D E I.
          held.plays (subst (λ (s : List Float). T (is_before (end_of rate e) s)) (sym none) tt) d i D I
          ∙ sym (ap (λ (c : Call). get_or (counted_output (at k) c) (128 * d + i) 0) taken_block.is
          ∙ output_at (at k) taken_block.out h.clip.samples taken_block.whole
          (ap₂ (λ (x y : ℕ). valid_shape x y (length h.clip.samples)) (kept k).0 (kept k).1 ∙ taken_block.shape)
          (subst (λ (x : ℕ). x ≤ 32) (sym (reports_channels (at k))) (few_of (has_ended (at k)) (at k).channels (subst (λ (x : ℕ). x ≤ 32) (sym (kept k).0) within.few))) d i E I
          ∙ ap (λ (x : ℕ). counting.sample (at k) (channel h.clip.samples x d) i) (kept k).1
          ∙ bits_at h.clip on k (at k) (so k) d i);
      ended = ended_after;
      keep_alive = λ n. reports_alive (at k) ∙ ap not (sym (ended_before n)) ∙ sym taken_block.alive;
      channels = λ n.
          reports_channels (at k) ∙ ap₂ (λ (b : Bool) (x : ℕ). cond b 1 x) (sym (ended_before n)) (kept k).0 ∙ sym held.channels;
    }

    beside_counted : Beside on l k (counted_all counter front) e
    beside_counted = subst (λ (c : Counter). Beside on l k c e) (sym stands) beside

  all_beside : AllBeside on h.clip (playing es)
  all_beside = record { counter = counter; made = made; each = beside_counted }

-- ---- no fit
never_fits : (looped : Bool) (l k : ℕ) → (looped || not (eqb (l % 128) 0)) ≡ true → is_fit looped l k ≡ false
never_fits true l k h = refl
never_fits false l k h = go (eqb l (128 * k)) refl
  where
    go : (b : Bool) → eqb l (128 * k) ≡ b → b ≡ false
    go true e =
        let same : l ≡ 128 * k = eqb-true l (128 * k) e in
        let whole : l % 128 ≡ 0 = omega arith in
        absurd (false≢true (sym (ap not (eq-eqb (l % 128) 0 whole)) ∙ h))
    go false e = refl

pub counts_beside : LongRun → LoopSwitch → TheCounter → Exact → CountsBeside
counts_beside run switch counts exact = record {
  beside = λ rate options quiet f ok calls ty h none. all_beside run switch counts rate options quiet f ok calls ty h none;
  longer = λ rate options quiet f ok calls ty h none.
      all_beside run switch counts rate options quiet f ok (replaced (fresh_with rate options) calls) (all_typed_lem exact.held (fresh_with rate options) calls ty) h none;
  no_fit = never_fits;
}
