-- A player with a buffer of no channels keeps it, and its blocks are refused.
use mathlib.Core.Path.{◌≡◌, refl, sym}
use mathlib.Core.Bool.{Bool, true, false, not, ◌||◌, cond, true≢false}
use Prim.Native.Nat.{ℕ, ◌*◌, ◌≤◌}
use native.Mathlib.Omega.{arith}
use lib.Ieee.{Float}
use lib.Dec.{eqb}
use lib.Ieee.Scale.{finite}
use Rattle.buffer.specs.Limits.{valid_shape, valid_rate}
use Rattle.buffer.specs.declared.refusals.Refusal.TheVariants as refused
use Rattle.player.specs.Messages.{handled, buffered, clamped, bad_time, on_start, on_stop, on_loop, on_loop_start, on_loop_end}
use Rattle.player.specs.Block.{rendered, checked, checks, bad_samples, bad_block_time, bad_rate}
use Rattle.detune.specs.Detune.{bad_cents, factor_of}
use Rattle.cents.specs.Cents.{rendered_cents, checked_cents}
use Rattle.player.specs.declared.Player.{Player}
use Rattle.player.specs.declared.ControlMessage.{ControlMessage}
use Rattle.player.specs.declared.ControlMessage.TheVariants.{Start, Stop, Loop, LoopStart, LoopEnd}
use Rattle.buffer.specs.declared.refusals.Refusal.{Refusal}
use Rattle.buffer.specs.Refusals.{number}
use Rattle.buffer.specs.Answers.{after_checks}
use Rattle.player.specs.declared.BlockReport.{BlockReport}
use Rattle.std.specs.Prelude.{Result, Ok, Err}
use Rattle.lent.specs.Lent.{after_call}
use Rattle.std.proofs.lemmas.Bool.{cond_both}
use Rattle.lent.specs.Nobody.{nobody, Mute, StaysMute, Refuses, IsRefused, NobodyPlays}

mute_nobody : Mute nobody
mute_nobody = (refl, refl)

-- ---- messages and the buffer call

mute_clamped : (p : Player) → Mute p → Mute (clamped p)
unfolding clamped
mute_clamped p h = cond_both p.has_buffer _ p Mute (λ _. h) (λ _. h)

-- the player that an answer leaves is mute
record Leaves (p : Player) (a : Result Player Refusal) : Type 0 where
  mute : Mute (after_call p a).player

turned_down : (p : Player) (k : Refusal) → Mute p → Leaves p (Err k)
turned_down p k h = record { mute = h }

done : (p q : Player) → Mute q → Leaves p (Ok q)
done p q h = record { mute = h }

either_leaves : (p : Player) (b : Bool) (k : Refusal) (a : Result Player Refusal) → Mute p → Leaves p a → Leaves p (cond b (Err k) a)
either_leaves p b k a h other = cond_both b (Err k) a (Leaves p) (λ _. turned_down p k h) (λ _. other)

message_leaves : (p : Player) (m : ControlMessage) → Mute p → Leaves p (handled p m)
unfolding handled on_start on_stop on_loop on_loop_start on_loop_end
message_leaves p (Start when offset duration) h = either_leaves p (bad_time when || bad_time offset || bad_time duration) refused.Value _ h (either_leaves p p.has_start refused.Second _ h (done p _ (mute_clamped _ (h.0, h.1))))
message_leaves p (Stop when) h = either_leaves p (bad_time when) refused.Value _ h (either_leaves p (not p.has_start) refused.Early _ h (done p _ (mute_clamped _ (h.0, h.1))))
message_leaves p (Loop on) h = done p _ (mute_clamped _ (h.0, h.1))
message_leaves p (LoopStart at) h = either_leaves p (not (finite at)) refused.Value _ h (done p _ (mute_clamped _ (h.0, h.1)))
message_leaves p (LoopEnd at) h = either_leaves p (not (finite at)) refused.Value _ h (done p _ (mute_clamped _ (h.0, h.1)))

-- the buffer call of a player that has one is refused
second : (p : Player) (b : Bool) (k : Refusal) (a : Result Player Refusal) → b ≡ true → Mute p → Leaves p (cond b (Err k) a)
second p true k a is h = turned_down p k h
second p false k a is h = absurd (true≢false (sym is))

buffer_leaves : (p : Player) (channels frames : ℕ) (rate : Float) (length : ℕ) → Mute p → Leaves p (buffered p channels frames rate length)
unfolding buffered
buffer_leaves p channels frames rate length h =
    either_leaves p (not (valid_shape channels frames length)) refused.Shape _ h
    (either_leaves p (not (valid_rate rate)) refused.Rate _ h
    (second p p.has_buffer refused.Second _ h.0 h))

stays_mute : StaysMute
stays_mute = ((λ p m h. (message_leaves p m h).mute), (λ p channels frames rate length h. (buffer_leaves p channels frames rate length h).mute))

-- ---- blocks

bad_samples_lem : (p : Player) (n : ℕ) → Mute p → bad_samples p n ≡ true
unfolding bad_samples valid_shape
bad_samples_lem p n h = simp (h.0, h.1)

-- the last of five tests holds
fifth : (a b c d e : Bool) (v w x y z : Refusal) → e ≡ true → cond a (Err v) (cond b (Err w) (cond c (Err x) (cond d (Err y) (cond e (Err z) (Ok (tt {0})))))) ≡ Ok tt → ⊥
fifth true b c d e v w x y z is h = cc
fifth false true c d e v w x y z is h = cc
fifth false false true d e v w x y z is h = cc
fifth false false false true e v w x y z is h = cc
fifth false false false false true v w x y z is h = cc
fifth false false false false false v w x y z is h = cc

never : (p : Player) (m n : ℕ) (time : Float) (bad : Bool) (rate factor : Float) → Mute p → checks 128 p m n time bad rate factor ≡ Ok tt → ⊥
never p m n time bad rate factor h =
    fifth (not (eqb m (32 * 128))) (bad_block_time p time) bad (bad_rate rate factor) (bad_samples p n) _ _ _ _ _ (bad_samples_lem p n h)

-- each refusal has a number
some : (r : Refusal) → 1 ≤ number r
some refused.Shape = omega arith
some refused.Rate = omega arith
some refused.Channel = omega arith
some refused.Unlike = omega arith
some refused.Point = omega arith
some refused.Long = omega arith
some refused.Length = omega arith
some refused.Value = omega arith
some refused.Second = omega arith
some refused.Early = omega arith
some refused.Empty = omega arith
some refused.Time = omega arith
some refused.Speed = omega arith
some refused.Layout = omega arith
some refused.Cents = omega arith
some refused.Onset = omega arith
some refused.Tolerance = omega arith
some refused.Ramp = omega arith
some refused.NothingLeft = omega arith
some refused.Staircase = omega arith

refuses : (p : Player) (passed : Result Unit Refusal) (r : BlockReport) → (passed ≡ Ok tt → ⊥) → Refuses p (after_checks passed r)
refuses p (Ok tt) r never = absurd (never refl)
refuses p (Err first) r never = (some first, refl)

is_refused : IsRefused
unfolding rendered checked rendered_cents checked_cents
is_refused = (
  (λ p m n time rate factor h. refuses p _ _ (never p m n time false rate factor h)),
  (λ p m n time rate cents h. refuses p _ _ (never p m n time (bad_cents cents) rate (factor_of cents) h)),
)

pub nobody_plays : NobodyPlays
nobody_plays = (mute_nobody, stays_mute, is_refused)
