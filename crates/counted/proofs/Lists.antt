-- Lists of accepted calls: their parts, and the player after each. Assumes nothing.
use mathlib.Core.Path.{◌≡◌, refl, sym, ap, ◌∙◌}
use mathlib.Core.Bool.{Bool, true, false, cond}
use mathlib.Core.List.{List, [], ◌∷◌, ◌++◌}
use Prim.Native.Nat.{ℕ, suc}
use lib.ListN.{length}
use Rattle.std.proofs.Common.{append_assoc}
use Rattle.player.specs.declared.Player.{Player}
use Rattle.claims.specs.Calls.{Call, Event, after, after_all, is_block_call, opening, playing, gathered}
use Rattle.claims.specs.LongRun.{PlainBlock, OnlyBlocks}

-- the opening, and from the first block on
pub both_parts : (es : List Event) → es ≡ opening es ++ playing es
unfolding opening playing
both_parts [] = refl
both_parts (e ∷ es) = go (is_block_call e.call) (both_parts es)
  where
    go : (b : Bool) → es ≡ opening es ++ playing es → e ∷ es ≡ cond b [] (e ∷ opening es) ++ cond b (e ∷ es) (playing es)
    go true h = refl
    go false h = ap (λ (r : List Event). e ∷ r) h

pub after_both : (p : Player) (front back : List Event) → after_all p (front ++ back) ≡ after_all (after_all p front) back
after_both p [] back = refl
after_both p (e ∷ front) back = after_both (after e) front back

pub gathered_both : {A : Type 0} (held : Call → List A) (front back : List Event) → gathered held (front ++ back) ≡ gathered held front ++ gathered held back
gathered_both held [] back = refl
gathered_both {A = A} held (e ∷ front) back =
    ap (λ (r : List A). held e.call ++ r) (gathered_both held front back) ∙ sym (append_assoc (held e.call) (gathered held front) (gathered held back))

pub only_front : (samples : List ℕ) (front back : List Event) → OnlyBlocks samples (front ++ back) → OnlyBlocks samples front
only_front samples [] back h = tt
only_front samples (e ∷ front) back h = (h.0, only_front samples front back h.1)

pub only_at : (samples : List ℕ) (front : List Event) (e : Event) (back : List Event) → OnlyBlocks samples (front ++ (e ∷ back)) → PlainBlock samples e.call
only_at samples [] e back h = h.0
only_at samples (f ∷ front) e back h = only_at samples front e back h.1

-- one more
pub one_more : (front : List Event) (e : Event) (back : List Event) → front ++ (e ∷ back) ≡ (front ++ (e ∷ [])) ++ back
one_more [] e back = refl
one_more (f ∷ front) e back = ap (λ (r : List Event). f ∷ r) (one_more front e back)

pub length_more : (front : List Event) (e : Event) → length (front ++ (e ∷ [])) ≡ suc (length front)
length_more [] e = refl
length_more (f ∷ front) e = ap suc (length_more front e)
