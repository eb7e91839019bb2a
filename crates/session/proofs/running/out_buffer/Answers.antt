-- `session::running::out_buffer` is safe and ends and meets its contract. Assumes nothing.
-- By hand: without this law the check runs out of stack.
use mathlib.Core.Path.{sym}
use Prim.Native.Nat.{ℕ}
use lib.ListN.{length-replicate}
use Rattle.session.proofs.running.out_buffer.Goals as goal

pub returns : goal.returns
returns c = sym (length-replicate {A = ℕ} 600000 0)
