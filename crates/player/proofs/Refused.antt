-- A block by a factor's answer: with a factor it is that factor's block, and without one it is refused as a block with a bad factor is. Assumes nothing.
use mathlib.Core.Path.{◌≡◌, refl, subst, ◌∙◌}
use mathlib.Core.Bool.{Bool, true, false, not, ◌||◌, cond}
use mathlib.Core.List.{List}
use Prim.Native.Nat.{ℕ, ◌*◌}
use lib.Dec.{eqb}
use lib.ListN.{length}
use lib.Ieee.{Float}
use lib.Ieee.Scale.{finite}
use Rattle.std.specs.Prelude.{Result, Ok, Err, IfOk}
use Rattle.buffer.specs.Answers.{check, passed}
use Rattle.buffer.specs.declared.refusals.Refusal.TheVariants as rows
use Rattle.buffer.specs.declared.refusals.Refusal.{Refusal}
use Rattle.player.specs.Factor.{is_factor}
use Rattle.player.specs.Block.{bad_rate, bad_block_time, checked, without_factor, rendered, output}
use Rattle.player.specs.declared.Player.{Player}
use Rattle.player.specs.declared.BlockReport.{BlockReport}

or_true : (b : Bool) → (b || true) ≡ true
or_true true = refl
or_true false = refl

abbrev pub the_refusal : Refusal → Result Unit Refusal
the_refusal x = Err x

pub first_of : (a b : Bool) (x y z : Refusal) → cond a (Err x) (cond b (Err y) (Err z)) ≡ the_refusal (cond a x (cond b y z))
first_of true b x y z = refl
first_of false true x y z = refl
first_of false false x y z = refl

module _ (p : Player) (time rate factor : Float) (bad : is_factor factor ≡ false) where
  speed : bad_rate rate factor ≡ true
  unfolding bad_rate
  speed = rw bad (or_true (not (finite rate)))

  -- a factor outside the limits
  pub turned_down : (outLength samplesLength : ℕ) → checked 128 p outLength samplesLength time rate factor ≡ Err (without_factor 128 p outLength time rows.Speed)
  unfolding checked without_factor
  turned_down outLength samplesLength = rw speed (first_of (not (eqb outLength (32 * 128))) (bad_block_time p time) rows.Length rows.Time rows.Speed)

module _ {A : Type 0} (value : A → Float) (p : Player) (r : Result A Refusal) (result : Result BlockReport Refusal) (out after samples : List ℕ) (time rate factor : Float)
    (accepted : (it : A) → r ≡ Ok it
    → (result ≡ rendered 128 p (length out) (length samples) time rate (value it)) × (after ≡ output 128 p out samples time rate (value it)))
    (refused : (refusal : Refusal) → r ≡ Err refusal → (result ≡ Err (without_factor 128 p (length out) time refusal)) × (after ≡ out)) where
  abbrev pub Block : Type 0
  Block = (result ≡ rendered 128 p (length out) (length samples) time rate factor) × (after ≡ output 128 p out samples time rate factor)

  without : is_factor factor ≡ false → r ≡ Err rows.Speed → Block
  unfolding rendered output
  without bad e =
      let none = turned_down p time rate factor bad (length out) (length samples) in
      rw none (refused rows.Speed e)

  go : (q : Result A Refusal) → r ≡ q → (b : Bool) → is_factor factor ≡ b → passed q ≡ check b rows.Speed → IfOk q (λ it. value it ≡ factor) → Block
  go (Ok it) e b is found made = subst (λ (x : Float). (result ≡ rendered 128 p (length out) (length samples) time rate x) × (after ≡ output 128 p out samples time rate x)) made (accepted it e)
  go (Err x) e true is found made = cc
  go (Err x) e false is found made = without is (e ∙ cc)

  pub by_factor : passed r ≡ check (is_factor factor) rows.Speed → IfOk r (λ it. value it ≡ factor) → Block
  by_factor found made = go r refl (is_factor factor) refl found made
