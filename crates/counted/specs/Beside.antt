-- The counting player beside the first one (docs/REFERENCE.md, 'Counting player'): one claim about the lists of calls of the long run in
-- which no stop is sent. Definitions, and fits by hand.
use Rattle.std.specs.Prelude.{◌≡◌, Bool, true, false, not, ◌&&◌, ◌||◌, List, [], ◌∷◌, ◌++◌, ℕ, suc, ◌+◌, ◌*◌, ◌%◌, ◌<◌, eqb, T, length, get_or, Float, Result, Ok, Err, Option, None, Some}
use Rattle.std.specs.Float.{binary32}
use Rattle.std.specs.Float.Ieee.{fits}
use Rattle.std.proofs.Math.Path.{refl}
use Rattle.buffer.specs.Limits.{valid_rate}
use Rattle.buffer.specs.declared.refusals.Refusal.{Refusal}
use Rattle.player.specs.Block.{rendered}
use Rattle.player.specs.Record.{fresh_with}
use Rattle.player.specs.declared.Player.{Player}
use Rattle.player.specs.declared.PlayerOptions.{PlayerOptions}
use Rattle.player.specs.declared.BlockReport.{BlockReport}
use Rattle.counting.specs.Counting as counting
use Rattle.counting.specs.declared.Counter.{Counter}
use Rattle.counting.specs.declared.Counted.{Counted}
use Rattle.claims.specs.Calls.{Call, buffer, message, block, all_typed, Event, accepted, after, channels_of, sample_of, is_ended, opening, playing, Clip, stop_in, switch_in, gathered}
use Rattle.claims.specs.LongRun.{Premises, switched_on}
use Rattle.claims.specs.Longer.{LongerCall, all_typed_longer, replaced}

-- ---- the counter's calls: each accepted block is one of its blocks too, lent the same output and samples; it gets no other call
abbrev pub counted_by : Counter → Call → Option (Result Counted Refusal)
counted_by c (buffer channels frames rate samples) = None
counted_by c (message m) = None
counted_by c (block out samples time rate factor) = Some (counting.rendered 128 c (length out) (length samples))

-- the counter that it leaves; a refused one leaves it as it was
abbrev pub left_by : Counter → Option (Result Counted Refusal) → Counter
left_by c None = c
left_by c (Some (Ok report)) = report.counter
left_by c (Some (Err refused)) = c

abbrev pub counted_all : Counter → List Event → Counter
counted_all c [] = c
counted_all c (e ∷ es) = counted_all (left_by c (counted_by c e.call)) es

-- sample i of channel d in the output as the counter leaves it
abbrev pub counted_output : Counter → Call → List ℕ
counted_output c (buffer channels frames rate samples) = []
counted_output c (message m) = []
counted_output c (block out samples time rate factor) = counting.output 128 c out samples

abbrev pub counted_sample : Counter → Event → ℕ → ℕ → ℕ
counted_sample c e d i = get_or (counted_output c e.call) (128 * d + i) 0

-- ---- the keep-alive of an accepted block of the first player
abbrev pub keep_alive_or : Result BlockReport Refusal → Bool
keep_alive_or (Ok report) = report.keep_alive
keep_alive_or (Err refused) = false

abbrev pub keep_alive_by : Player → Call → Bool
keep_alive_by p (buffer channels frames rate samples) = false
keep_alive_by p (message m) = false
keep_alive_by p (block out samples time rate factor) = keep_alive_or (rendered 128 p (length out) (length samples) time rate factor)

abbrev pub keep_alive_of : Event → Bool
keep_alive_of e = keep_alive_by e.before e.call

-- ---- the conclusions
-- an exact fit: unlooped, k blocks hold the clip's l frames, and not a sample more
abbrev pub is_fit : Bool → ℕ → ℕ → Bool
is_fit looped l k = not looped && eqb l (128 * k)

-- by hand: 640 frames are five blocks, and 128 are one; looped there is no fit
fit_by_hand : is_fit false 640 5 ≡ true
fit_by_hand = refl

one_by_hand : is_fit false 128 1 ≡ true
one_by_hand = refl

looped_by_hand : is_fit true 640 5 ≡ false
looped_by_hand = refl

-- accepted block e, which k others precede, and the block of the counter c
pub record Beside (looped : Bool) (l k : ℕ) (c : Counter) (e : Event) : Type 0 where
  pub report : Counted
  pub accepted : counted_by c e.call ≡ Some (Ok report)
  -- in the channels that both answer
  pub samples : (d i : ℕ) → d < channels_of e → d < report.channels → i < 128 → sample_of e d i ≡ counted_sample c e d i
  -- except after the block that makes the fit, and in the one after that
  pub ended : is_fit looped l (suc k) ≡ false → report.ended ≡ is_ended (after e)
  pub keep_alive : is_fit looped l k ≡ false → report.keep_alive ≡ keep_alive_of e
  pub channels : is_fit looped l k ≡ false → report.channels ≡ channels_of e

pub record AllBeside (looped : Bool) (clip : Clip) (es : List Event) : Type 0 where
  pub counter : Counter
  pub made : counting.made clip.channels clip.frames looped ≡ Ok counter
  pub each : (front : List Event) (e : Event) (back : List Event) → es ≡ front ++ (e ∷ back)
      → Beside looped clip.frames (length front) (counted_all counter front) e

-- ---- the claim
-- the accepted calls of a list, on a fresh player; and of a longer one, where each block in cents is the block with its factor, and
-- previews are left out
abbrev pub taken : Float → PlayerOptions → List Call → List Event
taken rate options calls = accepted (fresh_with rate options) calls

abbrev pub taken_longer : Float → PlayerOptions → List LongerCall → List Event
taken_longer rate options calls = taken rate options (replaced (fresh_with rate options) calls)

-- beside each block of these accepted calls
abbrev pub BesideAll : (es : List Event) → Clip → Type 0
BesideAll es clip = AllBeside (switched_on (gathered switch_in (opening es))) clip (playing es)

pub record CountsBeside : Type 0 where
  -- under the premises of the long run, without a ramp, where no stop is sent
  pub beside : (rate : Float) (options : PlayerOptions) → options.ramp ≡ 0 → T (fits binary32 rate) → T (valid_rate rate)
      → (calls : List Call) → T (all_typed calls) → (h : Premises rate (taken rate options calls))
      → gathered stop_in (opening (taken rate options calls)) ≡ []
      → BesideAll (taken rate options calls) h.clip
  -- with blocks in cents and previews beside the other calls
  pub longer : (rate : Float) (options : PlayerOptions) → options.ramp ≡ 0 → T (fits binary32 rate) → T (valid_rate rate)
      → (calls : List LongerCall) → T (all_typed_longer calls) → (h : Premises rate (taken_longer rate options calls))
      → gathered stop_in (opening (taken_longer rate options calls)) ≡ [] → BesideAll (taken_longer rate options calls) h.clip
  -- looped, and with a length that is no multiple of 128, there is no fit: all is equal in every block
  pub no_fit : (looped : Bool) (l k : ℕ) → (looped || not (eqb (l % 128) 0)) ≡ true → is_fit looped l k ≡ false
