-- The accepted calls of a list follow one another: each gets the player that the one before it left. Assumes nothing.
use mathlib.Core.Path.{◌≡◌, refl, sym, ap, subst}
use mathlib.Core.Bool.{Bool, true, false, cond}
use mathlib.Core.List.{List, [], ◌∷◌}
use lib.Dec.{T}
use lib.Ieee.Fits.{and_l, and_r}
use Rattle.player.specs.declared.Player.{Player}
use Rattle.claims.specs.Calls.{Call, typed, all_typed, accepts, next, Event, accepted, after, after_all, is_block_call, opening, playing}

pub record Link (p : Player) (e : Event) : Type 0 where
  pub got : e.before ≡ p
  pub taken : accepts p e.call ≡ true
  pub fits : T (typed e.call)

abbrev pub Chain : Player → List Event → Type 0
Chain p [] = Unit {0}
Chain p (e ∷ es) = Link p e × Chain (next p e.call) es

pub chain : (p : Player) (cs : List Call) → T (all_typed cs) → Chain p (accepted p cs)
unfolding accepted
chain p [] h = tt
chain p (c ∷ cs) h = go (accepts p c) refl (chain (next p c) cs (and_r (typed c) (all_typed cs) h)) (chain p cs (and_r (typed c) (all_typed cs) h))
  where
    go : (b : Bool) → accepts p c ≡ b → Chain (next p c) (accepted (next p c) cs) → Chain p (accepted p cs) → Chain p (cond b (record { before = p; call = c } ∷ accepted (next p c) cs) (accepted p cs))
    go true e on stay = (record { got = refl; taken = e; fits = and_l (typed c) (all_typed cs) h }, on)
    go false e on stay = stay

-- ---- the calls before the first block are none
abbrev pub NoBlocks : List Event → Type 0
NoBlocks [] = Unit {0}
NoBlocks (e ∷ es) = (is_block_call e.call ≡ false) × NoBlocks es

pub no_blocks : (es : List Event) → NoBlocks (opening es)
unfolding opening
no_blocks [] = tt
no_blocks (e ∷ es) = go (is_block_call e.call) refl (no_blocks es)
  where
    go : (b : Bool) → is_block_call e.call ≡ b → NoBlocks (opening es) → NoBlocks (cond b [] (e ∷ opening es))
    go true h rest = tt
    go false h rest = (h, rest)

pub chain_opening : (p : Player) (es : List Event) → Chain p es → Chain p (opening es)
unfolding opening
chain_opening p [] h = tt
chain_opening p (e ∷ es) h = go (is_block_call e.call) (chain_opening (next p e.call) es h.1)
  where
    go : (b : Bool) → Chain (next p e.call) (opening es) → Chain p (cond b [] (e ∷ opening es))
    go true rest = tt
    go false rest = (h.0, rest)

same_next : (p : Player) (e : Event) → Link p e → next p e.call ≡ after e
same_next p e h = ap (λ (q : Player). next q e.call) (sym h.got)

pub chain_playing : (p : Player) (es : List Event) → Chain p es → Chain (after_all p (opening es)) (playing es)
unfolding opening playing
chain_playing p [] h = tt
chain_playing p (e ∷ es) h = go (is_block_call e.call) (chain_playing (after e) es (subst (λ (q : Player). Chain q es) (same_next p e h.0) h.1))
  where
    go : (b : Bool) → Chain (after_all (after e) (opening es)) (playing es) → Chain (after_all p (cond b [] (e ∷ opening es))) (cond b (e ∷ es) (playing es))
    go true rest = h
    go false rest = rest
