-- What a block more makes of the player and the output, and what the run then answers. Assumes nothing.
use mathlib.Core.Path.{◌≡◌, refl}
use mathlib.Core.Bool.{false, not}
use mathlib.Core.List.{List}
use Prim.Native.Nat.{ℕ, ◌+◌, ◌≤◌}
use native.Mathlib.Omega.{arith}
use native.Mathlib.Numerals.{add-one}
use lib.ListN.{length}
use lib.Ieee.{Float}
use Rattle.seconds.specs.Seconds.{one}
use Rattle.player.specs.Block.{rendered, output}
use Rattle.player.specs.declared.Player.{Player}
use Rattle.buffer.specs.declared.refusals.Refusal.{Refusal}
use Rattle.std.specs.Prelude.{Result, Ok, Err}
use Rattle.player_c.specs.Playing.{block_time, left, next, played, goes_on, output_after}

-- q and `held` are the player and the output after n blocks
pub record After (p : Player) (out samples : List ℕ) (rate : Float) (n : ℕ) (q : Player) (held : List ℕ) : Type 0 where
  pub is : q ≡ (played p out samples rate n).player
  pub holds : held ≡ (played p out samples rate n).out

module _ (p : Player) (out samples : List ℕ) (rate : Float) where
  pub after_none : (n : ℕ) → n ≡ 0 → After p out samples rate n p out
  unfolding played
  after_none n none = rw none record { is = refl; holds = refl }

  module _ (n : ℕ) (q : Player) (held : List ℕ) (is : q ≡ (played p out samples rate n).player) (holds : held ≡ (played p out samples rate n).out) where
    pub next_player : (q' : Player) → q' ≡ left q (rendered 128 q (length held) (length samples) (block_time n) rate one) → q' ≡ (played p out samples rate (n + 1)).player
    unfolding played next
    next_player q' made = rw (made, is, holds, add-one) refl

    pub next_output : (held' : List ℕ) → held' ≡ output 128 q held samples (block_time n) rate one → held' ≡ (played p out samples rate (n + 1)).out
    unfolding played next
    next_output held' wrote = rw (wrote, is, holds, add-one) refl

-- what the run answers and leaves, by its beginning
module _ (r h : Result Player Refusal) (out samples : List ℕ) (rate : Float) (blocks : ℕ) where
  module _ (p : Player) (n : ℕ) (of : r ≡ h) (begins : r ≡ Ok p) (few : n ≤ blocks) (all : blocks ≤ n) where
    pub all_answer : (q : Player) → q ≡ (played p out samples rate n).player → not q.render_state.ended ≡ goes_on h out samples rate blocks
    unfolding goes_on
    all_answer q is = let e : n ≡ blocks = omega (arith, few, all) in rw (← of, begins, is, e) refl

    pub all_output : (held : List ℕ) → held ≡ (played p out samples rate n).out → held ≡ output_after h out samples rate blocks
    unfolding output_after
    all_output held holds = let e : n ≡ blocks = omega (arith, few, all) in rw (← of, begins, holds, e) refl

  pub refused_answer : (refusal : Refusal) → r ≡ h → r ≡ Err refusal → false ≡ goes_on h out samples rate blocks
  unfolding goes_on
  refused_answer refusal of is = rw (← of, is) refl

  pub refused_output : (refusal : Refusal) → r ≡ h → r ≡ Err refusal → out ≡ output_after h out samples rate blocks
  unfolding output_after
  refused_output refusal of is = rw (← of, is) refl
