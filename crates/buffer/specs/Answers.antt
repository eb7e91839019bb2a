-- What a call answers: its values, or one number of docs/REFERENCE.md, 'Refusals'; and what a lent output then holds.
use Rattle.std.specs.Prelude.{Bool, cond, ℕ, List, Result, Ok, Err}
use Rattle.buffer.specs.Refusals.{number}
use Rattle.buffer.specs.declared.refusals.Refusal.{Refusal}

-- values, or the number of a refusal of the table
pub data Answer (A : Type 0) : Type 0 where
  accepted : A → Answer A
  refusal : ℕ → Answer A

-- the answer that each case of a call's result is: the values as they stand, and each refusal by its number
abbrev pub answer_of : {A : Type 0} → Result A Refusal → Answer A
answer_of (Ok values) = accepted values
answer_of (Err refused) = refusal (number refused)

-- a lent output holds what the call stores, and is unchanged where the call is refused
abbrev pub stored : {A : Type 0} → Answer A → List ℕ → List ℕ → List ℕ
stored (accepted values) samples out = samples
stored (refusal number) samples out = out

-- a call whose checks stand before its values: the refusal of the checks, else the values
abbrev pub after_checks : {A : Type 0} → Result Unit Refusal → A → Result A Refusal
after_checks (Ok passed) values = Ok values
after_checks (Err refused) values = Err refused

-- a check of one row of the table: it passes, or the call is refused
abbrev pub check : Bool → Refusal → Result Unit Refusal
check passes refused = cond passes (Ok tt) (Err refused)

-- whether a call passed, or its refusal
abbrev pub passed : {A : Type 0} → Result A Refusal → Result Unit Refusal
passed (Ok values) = Ok tt
passed (Err refused) = Err refused
