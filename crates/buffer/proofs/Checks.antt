-- A row of checks, `cond t refusal (cond t' refusal' .. result)`, backwards from its result. Assumes nothing.
use Rattle.std.proofs.Common.{◌≡◌, Bool, true, false, cond, sym, refl, ap, ◌∙◌}
use Rattle.std.specs.Prelude.{Result, Ok, Err}
use Rattle.buffer.specs.Answers.{after_checks}
use Rattle.buffer.specs.declared.refusals.Refusal.{Refusal}
use Rattle.buffer.specs.declared.refusals.Refusal.TheVariants as refused

-- a result comes out only where the first check passes; `done` tells results from refusals
pub passed : {A : Type 0} (done : A → Bool) (t : Bool) (r m x : A) → cond t r m ≡ x → done r ≡ false → done x ≡ true → (t ≡ false) × (m ≡ x)
passed done true r m x h refused result =
    let bad : true ≡ false = sym result ∙ sym (ap done h) ∙ refused in
    (bad, cc)
passed done false r m x h refused result = (refl, h)

-- an answer after checks is accepted only where they pass
pub after_passed : {A : Type 0} (checks : Result Unit Refusal) (values given : A) → after_checks checks values ≡ Ok given → (checks ≡ Ok tt) × (values ≡ given)
after_passed (Ok tt) values given h = (refl, cc)
after_passed (Err refused) values given h = (cc, cc)

-- the checks of a block, by what each finds, and what they say where all pass
abbrev pub block_checks : Bool → Bool → Bool → Bool → Bool → Result Unit Refusal
block_checks a b c d e =
    cond a (Err refused.Length) (cond b (Err refused.Time) (cond c (Err refused.Cents) (cond d (Err refused.Speed) (cond e (Err refused.Shape) (Ok tt)))))

pub record Passed (a b c d e : Bool) : Type 0 where
  pub length : a ≡ false
  pub time : b ≡ false
  pub cents : c ≡ false
  pub speed : d ≡ false
  pub samples : e ≡ false

pub all_passed : (a b c d e : Bool) → block_checks a b c d e ≡ Ok tt → Passed a b c d e
all_passed true b c d e h = absurd cc
all_passed false true c d e h = absurd cc
all_passed false false true d e h = absurd cc
all_passed false false false true e h = absurd cc
all_passed false false false false true h = absurd cc
all_passed false false false false false h = record { length = refl; time = refl; cents = refl; speed = refl; samples = refl }
