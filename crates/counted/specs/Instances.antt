-- Lists of calls that meet the premises, and what each of the two players answers in them (docs/REFERENCE.md, 'Counting player'): looped,
-- with a length that is no multiple of 128, with blocks in cents and previews, and the two ways in which an exact fit ends the first player.
-- Definitions only.
use Rattle.std.specs.Prelude.{◌≡◌, Bool, true, false, List, [], ◌∷◌, ℕ, ◌*◌, T, negsuc, map, take, replicate, Float, Result, Ok, Err, Option, None, Some}
use Rattle.std.specs.Float.{fin, binary32}
use Rattle.std.specs.Float.Ieee.{fits}
use Rattle.buffer.specs.Limits.{valid_rate}
use Rattle.buffer.specs.declared.refusals.Refusal.{Refusal}
use Rattle.seconds.specs.Seconds.{float_zero, one}
use Rattle.player.specs.Record.{fresh_with}
use Rattle.player.specs.declared.PlayerOptions.{PlayerOptions}
use Rattle.tolerances.specs.declared.Tolerances.{Tolerances}
use Rattle.counting.specs.declared.Counter.{Counter}
use Rattle.counting.specs.declared.Counted.{Counted}
use Rattle.claims.specs.Calls.{Call, buffer, block, all_typed, Event, after, channels_of, is_ended, opening, playing, stop_in, gathered}
use Rattle.claims.specs.LongRun.{Premises}
use Rattle.claims.specs.Instances.{unramped, rate, start, tick, tock, looped_calls, plain_calls, longer_calls, previewed_calls, all_heard}
use Rattle.claims.specs.Longer.{replaced}
use Rattle.counted.specs.Beside.{counted_by, left_by, counted_output, keep_alive_of, taken}

-- ---- two channels of l frames, and blocks at these times
abbrev pub frames : ℕ → List ℕ
frames l = replicate (2 * l) 0x3f80_0000

abbrev pub block_at : ℕ → Float → Call
block_at l time = block (replicate 4096 7) (frames l) time one one

abbrev pub calls_at : ℕ → List Float → List Call
calls_at l times = start ∷ buffer 2 l rate (frames l) ∷ map (block_at l) times

-- at every 256th of a second, from 0 on
abbrev pub two_times : List Float
two_times = float_zero ∷ tick ∷ []

abbrev pub seven_times : List Float
seven_times =
    float_zero ∷ tick ∷ tock ∷ fin false 3 (negsuc 7) ∷ fin false 1 (negsuc 5) ∷ fin false 5 (negsuc 7) ∷ fin false 3 (negsuc 6) ∷ []

-- the premises are met by a player made with these options
pub record Met (options : PlayerOptions) (calls : List Call) : Type 0 where
  pub single : T (fits binary32 rate)
  pub valid : T (valid_rate rate)
  pub typed : T (all_typed calls)
  pub premises : Premises rate (taken rate options calls)
  pub no_stop : gathered stop_in (opening (taken rate options calls)) ≡ []

-- ---- what a block answered: ended, keep-alive, and the channel count
pub record Seen : Type 0 where
  pub ended : Bool
  pub keep_alive : Bool
  pub channels : ℕ

abbrev pub seen : Bool → Bool → ℕ → Seen
seen ended keep channels = record { ended = ended; keep_alive = keep; channels = channels }

-- in the blocks of a list, the first player
abbrev pub first_seen : PlayerOptions → List Call → List Seen
first_seen options calls = map (λ e. seen (is_ended (after e)) (keep_alive_of e) (channels_of e)) (playing (taken rate options calls))

-- and the counter
abbrev pub seen_by : Option (Result Counted Refusal) → Seen
seen_by None = seen false false 0
seen_by (Some (Err refused)) = seen false false 0
seen_by (Some (Ok report)) = seen report.ended report.keep_alive report.channels

abbrev pub counted_seen : Counter → List Event → List Seen
counted_seen c [] = []
counted_seen c (e ∷ es) = seen_by (counted_by c e.call) ∷ counted_seen (left_by c (counted_by c e.call)) es

-- and the samples of its first channel
abbrev pub counted_heard : Counter → List Event → List (List ℕ)
counted_heard c [] = []
counted_heard c (e ∷ es) = take 128 (counted_output c e.call) ∷ counted_heard (left_by c (counted_by c e.call)) es

abbrev pub counter_of : ℕ → ℕ → Bool → Counter
counter_of channels l looping = record { channels = channels; frames = l; next = 0; looping = looping }

-- a block that plays; one that plays, and ends; a silent one
abbrev pub plays : ℕ → Seen
plays channels = seen false true channels

abbrev pub ends : ℕ → Seen
ends channels = seen true true channels

abbrev pub over : Seen
over = seen true false 1

-- both players in the blocks of a list
pub record Both (options : PlayerOptions) (calls : List Call) (counter : Counter) (first counted : List Seen) : Type 0 where
  pub met : Met options calls
  pub first_is : first_seen options calls ≡ first
  pub counted_is : counted_seen counter (playing (taken rate options calls)) ≡ counted

-- whatever tolerances the player is made with, without a ramp
pub record Instances : Type 0 where
  -- looped, and unlooped with three frames: the same in every block, and the same samples
  pub looped : (t : Tolerances) → Both (unramped t) looped_calls (counter_of 1 3 true) (plays 1 ∷ plays 1 ∷ []) (plays 1 ∷ plays 1 ∷ [])
  pub plain : (t : Tolerances) → Both (unramped t) plain_calls (counter_of 1 3 false) (ends 1 ∷ over ∷ []) (ends 1 ∷ over ∷ [])
  pub looped_heard : (t : Tolerances) → counted_heard (counter_of 1 3 true) (playing (taken rate (unramped t) looped_calls))
      ≡ all_heard (playing (taken rate (unramped t) looped_calls))
  pub plain_heard : (t : Tolerances) → counted_heard (counter_of 1 3 false) (playing (taken rate (unramped t) plain_calls))
      ≡ all_heard (playing (taken rate (unramped t) plain_calls))
  -- with blocks in cents and previews, which the counter passes over
  pub in_cents : (t : Tolerances) → Both (unramped t) (replaced (fresh_with rate (unramped t)) longer_calls) (counter_of 1 3 true)
      (plays 1 ∷ plays 1 ∷ []) (plays 1 ∷ plays 1 ∷ [])
  pub previewed : (t : Tolerances) → Both (unramped t) (replaced (fresh_with rate (unramped t)) previewed_calls) (counter_of 1 3 false)
      (ends 1 ∷ over ∷ []) (ends 1 ∷ over ∷ [])
  -- 640 frames, five blocks exactly: the counter ends with the fifth, the first player with the sixth
  pub fit_later : (t : Tolerances) → Both (unramped t) (calls_at 640 seven_times) (counter_of 2 640 false)
      (plays 2 ∷ plays 2 ∷ plays 2 ∷ plays 2 ∷ plays 2 ∷ ends 2 ∷ over ∷ [])
      (plays 2 ∷ plays 2 ∷ plays 2 ∷ plays 2 ∷ ends 2 ∷ over ∷ over ∷ [])
  -- 128 frames, one block exactly: both end with it
  pub fit_at_once : (t : Tolerances) → Both (unramped t) (calls_at 128 two_times) (counter_of 2 128 false) (ends 2 ∷ over ∷ [])
      (ends 2 ∷ over ∷ [])
