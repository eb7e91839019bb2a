-- An accepted block of a player from its first block on: what its acceptance says, and what it gave. Assumes nothing.
use mathlib.Core.Path.{◌≡◌, refl, ap, ap₂, ◌∙◌}
use mathlib.Core.Bool.{Bool, true, false, not, ◌&&◌, ◌||◌, true≢false, false≢true}
use mathlib.Core.List.{List}
use Prim.Native.Nat.{ℕ, ◌+◌, ◌*◌, ◌≤◌, ◌<◌}
use borrow.Author.Tests.{eqb-true, not-false}
use lib.Dec.{T, eqb}
use lib.ListN.{length, get_or}
use lib.Ieee.{Float, binary32, binary64, fits, lt, le}
use lib.Ieee.Fits.{and_l}
use lib.Ieee.Scale.{finite}
use Rattle.seconds.specs.Seconds.{float_zero, one}
use Rattle.buffer.specs.Channels.{channel}
use Rattle.player.specs.Block.{Plan, plan, latest, bad_block_time, bad_rate, bad_samples, checked, rendered, output, written, report_of}
use Rattle.buffer.specs.declared.refusals.Refusal.{Refusal}
use Rattle.std.specs.Prelude.{Result, Ok, Err}
use Rattle.buffer.specs.Answers.{answer_of, stored, after_checks}
use Rattle.buffer.proofs.Checks.{all_passed}
use Rattle.player.specs.declared.BlockReport.{BlockReport}
use Rattle.claims.specs.Calls.{Call, buffer, message, block, is_block, moved, answered, accepts, next, typed, channels_by, output_by}
use Rattle.claims.specs.LongRun.{PlainBlock}
use Rattle.claims.proofs.Laws.{Time}
use Rattle.claims.proofs.States.{Setup, State, standing}
use Rattle.claims.proofs.Written.{written_at}

-- ---- a block of the premises is one call
pub record Plain (samples : List ℕ) (c : Call) : Type 0 where
  pub out : List ℕ
  pub time : Float
  pub is : c ≡ block out samples time one one

pub plain : (samples : List ℕ) (c : Call) → PlainBlock samples c → Plain samples c
plain samples (buffer channels frames rate s) h = absurd h
plain samples (message m) h = absurd h
plain samples (block out s time rate factor) h =
    record { out = out; time = time; is = ap₂ (λ (a : List ℕ) (b : Float). block out a time b factor) h.0 h.1 ∙ ap (λ (b : Float). block out samples time one b) h.2 }

-- ---- what acceptance says
pub record Times (f n l o : Bool) : Type 0 where
  pub finite : f ≡ true
  pub some : n ≡ false
  pub early : l ≡ false
  pub later : o ≡ false

times : (f n l o : Bool) → (not f || n || l || o) ≡ false → Times f n l o
times true false false false h = record { finite = refl; some = refl; early = refl; later = refl }
times true false false true h = absurd (true≢false h)
times true false true o h = absurd (true≢false h)
times true true l o h = absurd (true≢false h)
times false n l o h = absurd (true≢false h)

block_taken : (checks : Result Unit Refusal) (r : BlockReport) → is_block (after_checks checks r) ≡ true → checks ≡ Ok tt
block_taken (Ok tt) r h = refl
block_taken (Err refused) r h = absurd (false≢true h)

-- by the plan
pub record Taken (s : Setup) (x : State) (out samples : List ℕ) (t : Float) : Type 0 where
  pub whole : length out ≡ 4096
  pub time : Time t
  pub fresh : (x.has_block && le t x.time) ≡ false
  pub next_is : next (standing s x) (block out samples t one one) ≡ (plan 128 (standing s x) t one one).player
  pub channels_is : channels_by (standing s x) (block out samples t one one) ≡ (plan 128 (standing s x) t one one).channels
  pub output_is : output_by (standing s x) (block out samples t one one) ≡ written 128 (plan 128 (standing s x) t one one).sample s.frames samples out (plan 128 (standing s x) t one one).channels

pub taken : (s : Setup) (x : State) (out samples : List ℕ) (t : Float) → accepts (standing s x) (block out samples t one one) ≡ true → T (typed (block out samples t one one)) → Taken s x out samples t
unfolding accepts next rendered output checked bad_block_time
taken s x out samples t h f =
    let p = standing s x in
    let passed : checked 128 p (length out) (length samples) t one one ≡ Ok tt = block_taken _ (report_of (plan 128 p t one one)) h in
    let all = all_passed (not (eqb (length out) 4096)) (bad_block_time p t) false (bad_rate one one) (bad_samples p (length samples)) passed in
    let w = times (finite t) (lt t float_zero) (lt latest t) (x.has_block && le t x.time) all.time in
    record {
      whole = eqb-true (length out) 4096 (not-false (eqb (length out) 4096) all.length);
      time = record { single = and_l (fits binary64 t) (fits binary32 one && fits binary64 one) f; whole = w.finite; some = w.some; early = w.early };
      fresh = w.later;
      next_is = ap (λ (k : Result Unit Refusal). moved (after_checks k (report_of (plan 128 p t one one))) p) passed;
      channels_is = ap (λ (k : Result Unit Refusal). answered (after_checks k (report_of (plan 128 p t one one)))) passed;
      output_is = ap (λ (k : Result Unit Refusal). stored (answer_of k) (written 128 (plan 128 p t one one).sample s.frames samples out (plan 128 p t one one).channels) out) passed;
    }

-- ---- what it gave, by a plan that it is known to have
pub record Gave (s : Setup) (x : State) (out samples : List ℕ) (t : Float) (q : Plan) : Type 0 where
  pub player : next (standing s x) (block out samples t one one) ≡ q.player
  pub channels : channels_by (standing s x) (block out samples t one one) ≡ q.channels
  pub sample : q.channels ≤ 32 → (c i : ℕ) → c < q.channels → i < 128 → get_or (output_by (standing s x) (block out samples t one one)) (128 * c + i) 0 ≡ q.sample (channel samples s.frames c) i

pub gave : (s : Setup) (x : State) (out samples : List ℕ) (t : Float) (q : Plan) → Taken s x out samples t → plan 128 (standing s x) t one one ≡ q → Gave s x out samples t q
gave s x out samples t q h e = record {
  player = h.next_is ∙ ap (λ (u : Plan). u.player) e;
  channels = h.channels_is ∙ ap (λ (u : Plan). u.channels) e;
  sample = λ few c i C I.
      ap (λ (o : List ℕ). get_or o (128 * c + i) 0) (h.output_is ∙ ap (λ (u : Plan). written 128 u.sample s.frames samples out u.channels) e)
      ∙ written_at q.sample s.frames samples out h.whole q.channels few c C i I;
}
