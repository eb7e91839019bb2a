-- `reshape::parting::split` meets its contract: what is known of the two parts (`Partings.antt`) makes them the definition's. Assumes nothing.
-- By hand: with these laws named on the function, `returns` is not proved.
use Rattle.std.proofs.Common.{refl, sym, ap, ◌∙◌, mul_comm, eq-eqb}
use Rattle.reshape.specs.Parting.{both_fitted}
use Rattle.reshape.proofs.Partings.{splits, rest_is}
use Rattle.reshape.proofs.parting.split.Goals as goal

pub returns : goal.returns
unfolding both_fitted
returns c =
    let s = splits _ _ _ _ _ (sym c.in_ok-before.ensures) in
    let made = c.in_ok-channels.ensures.made in
    let at = sym (ap (λ t. t.frames) s.is_first) in
    let size = sym (ap (λ t. t.frames) s.is_rest) in (
      rw (← c.in_ok-before.ensures) (simp (eq-eqb _ _ c.in_ok-check_length.ensures.fits, eq-eqb _ _ c.in_ok-check_length-2.ensures.fits)),
      c.cut_channels.ensures ∙ rw (made.0, made.1, made.2, at) refl,
      c.cut_channels-2.ensures ∙ rw (made.0, made.1, made.2, at, size) (rest_is _ _ _ _ s.within (s.whole.full ∙ mul_comm _ _)),
    )
