-- `protocol::words::Words::word`: `position` finds the first space.
-- By hand: it was not proved that what the function ensures holds when it returns, in any of the four cases.
use Rattle.std.proofs.Common.{◌≡◌, refl, ◌+◌, take, drop, ◌∷◌, [], rules, tests}
use Rattle.std.proofs.lemmas.Iterator.{YieldsList-from_slice}
use Rattle.std.proofs.lemmas.Iterator.Search.{position_from_yields_List}
use Rattle.protocol.specs.Words.{words, words_of_rest, behind, one}
use Rattle.protocol.proofs.Cuts.{space_at, cut_at, uncut, take_behind}
use Rattle.protocol.proofs.words.Words.word.Goals.{In-None, In-Some}
use Rattle.protocol.proofs.words.Words.word.Goals as goal

cut : (c : In-Some) → words c.in_ok-rest.rest.now ≡ take c.in-Some.end c.in_ok-rest.rest.now ∷ words (drop (c.in-Some.end + 1) c.in_ok-rest.rest.now)
cut c =
    let found : c.position.result ≡ space_at c.in_ok-rest.rest.now =
    position_from_yields_List _ _ _ c.position.result c.position.ensures.ran (YieldsList-from_slice _ c.iter.ensures.rest) (λ x b q k. search (rules, tests)) in
    cut_at c.in_ok-rest.rest.now c.in-Some.end c.position.result found c.in-Some.is

only : (c : In-None) → words c.in_ok-rest.rest.now ≡ c.in_ok-rest.rest.now ∷ []
only c =
    let found : c.position.result ≡ space_at c.in_ok-rest.rest.now =
    position_from_yields_List _ _ _ c.position.result c.position.ensures.ran (YieldsList-from_slice _ c.iter.ensures.rest) (λ x b q k. search (rules, tests)) in
    uncut c.in_ok-rest.rest.now c.position.result found c.in-None.is

pub returns-in-Some : goal.returns-in-Some
unfolding words_of_rest one behind
returns-in-Some c =
    let e = cut (goal.at.returns-in-Some c).In-Some in (
      rw (c.in_ok-rest.was, e, take_behind) refl,
      rw (c.in_ok-rest.was, e, take_behind) refl,
    )

pub returns-in-None : goal.returns-in-None
unfolding words_of_rest one behind
returns-in-None c = let e = only (goal.at.returns-in-None c).In-None in (rw (c.in_ok-rest.was, e) refl, rw (c.in_ok-rest.was, e) refl)
