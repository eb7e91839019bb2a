-- A block by the answer for its cents: with accepted cents it is the block with their factor, and with others it is refused. Assumes nothing.
use mathlib.Core.Path.{◌≡◌, refl, subst, ◌∙◌}
use mathlib.Core.Bool.{Bool, true, false, not}
use mathlib.Core.List.{List}
use Prim.Native.Nat.{ℕ, ◌*◌}
use lib.Dec.{eqb}
use lib.IntN.{ℤ}
use lib.ListN.{length}
use lib.Ieee.{Float}
use Rattle.std.specs.Prelude.{Result, Ok, Err, IfOk}
use Rattle.buffer.specs.Answers.{check, passed}
use Rattle.buffer.specs.declared.refusals.Refusal.TheVariants as rows
use Rattle.buffer.specs.declared.refusals.Refusal.{Refusal}
use Rattle.detune.specs.Detune.{bad_cents, factor_of}
use Rattle.player.specs.Block.{checks, bad_block_time, without_factor, rendered, output}
use Rattle.player.specs.declared.Player.{Player}
use Rattle.player.specs.declared.BlockReport.{BlockReport}
use Rattle.player.proofs.Refused.{first_of}
use Rattle.cents.specs.Cents.{rendered_cents, output_cents}
use Rattle.cents.proofs.Same as own

-- refused cents stand where a refused factor stands
turned_down : (p : Player) (outLength samplesLength : ℕ) (time rate factor : Float)
    → checks 128 p outLength samplesLength time true rate factor ≡ Err (without_factor 128 p outLength time rows.Cents)
unfolding without_factor
turned_down p outLength samplesLength time rate factor = first_of (not (eqb outLength (32 * 128))) (bad_block_time p time) rows.Length rows.Time rows.Cents

module _ {A : Type 0} (whole : A → ℤ) (p : Player) (r : Result A Refusal) (result : Result BlockReport Refusal) (out after samples : List ℕ) (time rate : Float) (cents : ℤ)
    (accepted : (it : A) → r ≡ Ok it
    → (result ≡ rendered 128 p (length out) (length samples) time rate (factor_of (whole it))) × (after ≡ output 128 p out samples time rate (factor_of (whole it))))
    (refused : (refusal : Refusal) → r ≡ Err refusal → (result ≡ Err (without_factor 128 p (length out) time refusal)) × (after ≡ out)) where
  abbrev pub Block : Type 0
  Block = (result ≡ rendered_cents 128 p (length out) (length samples) time rate cents) × (after ≡ output_cents 128 p out samples time rate cents)

  with : (it : A) → r ≡ Ok it → bad_cents cents ≡ false → whole it ≡ cents → Block
  with it e good same =
      rw (own.same_answer 128 p time rate cents good (length out) (length samples), own.same_output 128 p time rate cents good out samples)
      (subst (λ (z : ℤ). (result ≡ rendered 128 p (length out) (length samples) time rate (factor_of z)) × (after ≡ output 128 p out samples time rate (factor_of z))) same (accepted it e))

  without : r ≡ Err rows.Cents → bad_cents cents ≡ true → Block
  without e bad =
      let none = own.refused 128 p time rate cents out samples (factor_of cents) _ bad (turned_down p (length out) (length samples) time rate (factor_of cents)) in
      rw (none.0, none.1) (refused rows.Cents e)

  go : (q : Result A Refusal) → r ≡ q → (b : Bool) → bad_cents cents ≡ b → passed q ≡ check (not b) rows.Cents → IfOk q (λ it. whole it ≡ cents) → Block
  go (Ok it) e true bad found made = cc
  go (Ok it) e false good found made = with it e good made
  go (Err x) e true bad found made = without (e ∙ cc) bad
  go (Err x) e false good found made = cc

  pub by_cents : passed r ≡ check (not (bad_cents cents)) rows.Cents → IfOk r (λ it. whole it ≡ cents) → Block
  by_cents found made = go r refl (bad_cents cents) refl found made
