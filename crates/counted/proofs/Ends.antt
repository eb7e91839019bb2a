-- Whether the first player has ended after so many blocks, by the statement about the loop switch, with no switch during playback. Assumes nothing.
use mathlib.Core.Path.{◌≡◌, refl, sym, ap, ap₂, ◌∙◌, subst}
use mathlib.Core.Bool.{Bool, true, false, not, ◌&&◌, true≢false, false≢true}
use mathlib.Core.List.{List, [], ◌∷◌, ◌++◌}
use Prim.Native.Nat.{ℕ, ◌*◌, ◌≤◌, ◌<◌}
use native.Mathlib.Nat.{le_antisymm}
use borrow.Author.Tests.{leb-true, eq-eqb}
use lib.Dec.{T, leb, eqb, lit<}
use lib.ListN.{length, replicate}
use lib.Ieee.{Float, binary32, fits}
use Rattle.std.proofs.Common.{append_assoc}
use Rattle.std.proofs.lemmas.Bool.{le-leb}
use Rattle.buffer.specs.Limits.{valid_rate}
use Rattle.player.specs.Record.{fresh_with}
use Rattle.player.specs.declared.Player.{Player}
use Rattle.player.specs.declared.PlayerOptions.{PlayerOptions}
use Rattle.tape.specs.Tape as tape
use Rattle.tape.specs.Tape.{Tape, Step, a_block, stepped_all}
use Rattle.tape.proofs.Premise.{stepped_on}
use Rattle.claims.specs.Calls.{Call, all_typed, Event, after_all, is_ended, opening, playing, Clip, clip_in, stop_in, switch_in, gathered}
use Rattle.claims.specs.LongRun.{OnlyBlocks, Premises, switched_on}
use Rattle.claims.specs.LoopSwitch as switch
use Rattle.claims.specs.LoopSwitch.{LoopSwitch, SwitchPremises, step_in, tape_after}
use Rattle.claims.proofs.Begin.{Begins, loop_of_switch, tape_is, got, sound}
use Rattle.claims.proofs.Unswitched.{Unswitched, begun, unswitched_none, unswitched_after}
use Rattle.claims.proofs.Whole.{begins_of, steps_of}
use Rattle.counted.specs.Beside.{taken, is_fit}
use Rattle.counted.proofs.Lists.{both_parts, after_both, gathered_both, only_front}

-- what the tape says of the end
ends_by : (rate : Float) (looped : Bool) (l k : ℕ) (t : Tape) (p : Player) → Unswitched 128 l looped k t → switch.Beside rate t p → is_fit looped l k ≡ false
    → is_ended p ≡ (not looped && leb l (128 * k))
ends_by rate looped l k t p u b n = go t.ended refl t.exact_fit refl
  where
    over : (x : Bool) → looped ≡ x → l ≤ 128 * k → x ≡ false → (not looped && leb l (128 * k)) ≡ true
    over x e m f = ap₂ (λ (a c : Bool). not a && c) (e ∙ f) (le-leb l (128 * k) m)

    under : (x : Bool) → looped ≡ x → (x ≡ false → 128 * k ≤ l) → (not x && eqb l (128 * k)) ≡ false → (not x && leb l (128 * k)) ≡ false
    under true e m f = refl
    under false e m f = half (leb l (128 * k)) refl
      where
        half : (q : Bool) → leb l (128 * k) ≡ q → leb l (128 * k) ≡ false
        half true q = absurd (false≢true (sym f ∙ eq-eqb l (128 * k) (le_antisymm (leb-true l (128 * k) q) (m refl))))
        half false q = q

    go : (a : Bool) → t.ended ≡ a → (c : Bool) → t.exact_fit ≡ c → is_ended p ≡ (not looped && leb l (128 * k))
    go true e c f = let d = u.ended_by e in b.has_ended e ∙ sym (over looped refl d.1 d.0)
    go false e true f =
        let d = u.fit_by f in
        let fit : is_fit looped l k ≡ true = ap₂ (λ (a c : Bool). not a && c) d.0 (eq-eqb l (128 * k) (le_antisymm d.1 (u.inside e d.0))) in
        absurd (true≢false (sym fit ∙ n))
    go false e false f = b.not_before e f ∙ sym (under looped refl (λ off. u.inside e off) n)

module _ (stated : LoopSwitch) (rate : Float) (options : PlayerOptions) (quiet : options.ramp ≡ 0) (f : T (fits binary32 rate)) (ok : T (valid_rate rate)) (calls : List Call) (ty : T (all_typed calls)) (h : Premises rate (taken rate options calls)) (none : gathered stop_in (opening (taken rate options calls)) ≡ []) where
  abbrev es : List Event
  es = taken rate options calls

  abbrev on : Bool
  on = switched_on (gathered switch_in (opening es))

  abbrev b : Begins rate es
  b = begins_of rate es h

  long : 0 < h.clip.frames
  long = (sound rate options quiet f ok calls ty b).long

  clip_is : (c : Clip) → gathered clip_in (opening es) ≡ c ∷ [] → c ≡ h.clip
  clip_is c e = same (sym e ∙ h.one_clip)
    where
      same : {x y : Clip} → (x ∷ []) ≡ (y ∷ []) → x ≡ y
      same e = cc

  -- the tape after the opening and so many blocks
  tape_at : (front back : List Event) → playing es ≡ front ++ back → Unswitched 128 h.clip.frames on (length front) (tape_after h.clip.frames (opening es ++ front))
  tape_at front back split =
      subst (Unswitched 128 h.clip.frames on (length front)) (sym steps)
      (unswitched_after 128 h.clip.frames (lit< tt) long on (length front) (begun (got rate options quiet f ok calls ty b).looped)
      (subst (λ (c : Bool). Unswitched 128 h.clip.frames on 0 (begun c)) (sym (loop_of_switch (opening es) h.few_switches)) (unswitched_none 128 h.clip.frames on)))
    where
      only : OnlyBlocks h.clip.samples front
      only = only_front h.clip.samples front back (subst (OnlyBlocks h.clip.samples) split h.only_blocks)

      steps : tape_after h.clip.frames (opening es ++ front) ≡ stepped_all 128 h.clip.frames (begun (got rate options quiet f ok calls ty b).looped) (replicate (length front) a_block)
      steps =
          ap (stepped_all 128 h.clip.frames tape.fresh) (gathered_both step_in (opening es) front)
          ∙ stepped_on 128 h.clip.frames tape.fresh (gathered step_in (opening es)) (gathered step_in front)
          ∙ ap (λ (t : Tape). stepped_all 128 h.clip.frames t (gathered step_in front)) (tape_is rate options quiet f ok calls ty b 128)
          ∙ ap (stepped_all 128 h.clip.frames (begun (got rate options quiet f ok calls ty b).looped)) (steps_of h.clip.samples front only)

  pub moment : (front back : List Event) → playing es ≡ front ++ back → is_fit on h.clip.frames (length front) ≡ false
      → is_ended (after_all (after_all (fresh_with rate options) (opening es)) front) ≡ (not on && leb h.clip.frames (128 * length front))
  moment front back split n =
      let premises : SwitchPremises rate es = stated.older rate options calls h none in
      let parts : es ≡ (opening es ++ front) ++ back = both_parts es ∙ ap (λ (r : List Event). opening es ++ r) split ∙ sym (append_assoc (opening es) front back) in
      let side = (stated.switched rate options quiet f ok calls ty premises).beside (opening es ++ front) back parts in
      ap is_ended (sym (after_both (fresh_with rate options) (opening es) front))
      ∙ ends_by rate on h.clip.frames (length front) (tape_after h.clip.frames (opening es ++ front)) (after_all (fresh_with rate options) (opening es ++ front)) (tape_at front back split)
      (subst (λ (c : Clip). switch.Beside rate (tape_after c.frames (opening es ++ front)) (after_all (fresh_with rate options) (opening es ++ front))) (clip_is premises.clip premises.one_clip) side) n
