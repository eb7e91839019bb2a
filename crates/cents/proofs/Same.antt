-- A block at good cents is the block with their factor; at bad ones it is refused, by 8, 13 or 16. Assumes nothing.
use mathlib.Core.Path.{◌≡◌, refl}
use mathlib.Core.Bool.{Bool, true, false, not, cond}
use mathlib.Core.List.{List}
use Prim.Native.Nat.{ℕ, ◌*◌}
use lib.Dec.{eqb}
use lib.IntN.{ℤ}
use lib.ListN.{length}
use lib.Ieee.{Float}
use Rattle.buffer.specs.declared.refusals.Refusal.{Refusal}
use Rattle.std.specs.Prelude.{Ok, Err}
use Rattle.detune.specs.Detune.{bad_cents, factor_of}
use Rattle.player.specs.Block.{checks, checked, bad_block_time, rendered, output}
use Rattle.player.specs.declared.Player.{Player}
use Rattle.cents.specs.Cents.{checked_cents, rendered_cents, output_cents}

-- three checks in turn refuse where the last one does
refuses : (a b : Bool) (x y z : Refusal) → cond a (Err x) (cond b (Err y) (Err z)) ≡ Ok (tt {0}) → ⊥
refuses true b x y z h = cc
refuses false true x y z h = cc
refuses false false x y z h = cc

module _ (n : ℕ) (p : Player) (time rate : Float) where
  pub never : (outLength samplesLength : ℕ) (factor : Float) → checks n p outLength samplesLength time true rate factor ≡ Ok tt → ⊥
  never outLength samplesLength factor = refuses (not (eqb outLength (32 * n))) (bad_block_time p time) _ _ _

module _ (n : ℕ) (p : Player) (time rate : Float) (cents : ℤ) where
  module _ (good : bad_cents cents ≡ false) where
    pub same_answer : (outLength samplesLength : ℕ) → rendered_cents n p outLength samplesLength time rate cents ≡ rendered n p outLength samplesLength time rate (factor_of cents)
    unfolding rendered_cents checked_cents rendered checked
    same_answer outLength samplesLength = rw good

    pub same_output : (out samples : List ℕ) → output_cents n p out samples time rate cents ≡ output n p out samples time rate (factor_of cents)
    unfolding output_cents checked_cents output checked
    same_output out samples = rw good

  -- no factor is looked at
  pub refused : (out samples : List ℕ) (factor : Float) (first : Refusal) → bad_cents cents ≡ true → checks n p (length out) (length samples) time true rate factor ≡ Err first
      → (rendered_cents n p (length out) (length samples) time rate cents ≡ Err first) × (output_cents n p out samples time rate cents ≡ out)
  unfolding rendered_cents output_cents checked_cents
  refused out samples factor first bad h = rw (bad, h) (refl, refl)
