-- Lists of calls that meet the premises of the statement about the long run (docs/REFERENCE.md, 'The long run'): looped, unlooped, and with
-- a stop, at a block's start, at a block's end, and within a block; one with blocks in cents, and one with previews. Definitions only.
use Rattle.std.specs.Prelude.{◌≡◌, Bool, true, false, List, [], ◌∷◌, ◌++◌, ℕ, ◌+◌, T, ℤ, pos, negsuc, length, map, take, replicate, Float}
use Rattle.std.specs.Float.{fin, binary32}
use Rattle.std.specs.Float.Ieee.{fits}
use Rattle.buffer.specs.Limits.{valid_rate}
use Rattle.buffer.specs.declared.refusals.Refusal.TheVariants as refused
use Rattle.lists.specs.Table.{table}
use Rattle.seconds.specs.Seconds.{float_zero, never, one, instant, block_end}
use Rattle.player.specs.Record.{fresh_with, default_options}
use Rattle.tolerances.specs.declared.Tolerances.{Tolerances}
use Rattle.player.specs.declared.PlayerOptions.{PlayerOptions}
use Rattle.player.specs.declared.ControlMessage.TheVariants.{Start, Stop, Loop}
use Rattle.claims.specs.Calls.{Call, buffer, message, block, all_typed, Event, accepted, after, output_by, is_ended, playing, Clip}
use Rattle.claims.specs.LongRun.{Premises, frame_bits, is_at, reaches, end_of}
use Rattle.claims.specs.Longer.{LongerCall, plain, in_cents, preview, preview_in_cents, all_typed_longer, replaced, unlooked}
use Rattle.preview.specs.Preview.{previewed, previewed_cents}
use Rattle.std.specs.Prelude.{Err}

-- 48,000 = 375 × 2 ^ 7, and three frames: 1.0, 2.0, 3.0
abbrev pub rate : Float
rate = fin false 375 (pos 7)

abbrev pub frames : List ℕ
frames = 0x3f80_0000 ∷ 0x4000_0000 ∷ 0x4040_0000 ∷ []

abbrev pub clip : Call
clip = buffer 1 3 rate frames

abbrev pub start : Call
start = message (Start float_zero float_zero never)

-- a block lent an output of 4,096 words
abbrev pub block_at : Float → Call
block_at time = block (replicate 4096 7) frames time one one

-- 1/256 s and 1/128 s; the first block ends before both, at 1/375 s
abbrev pub tick : Float
tick = fin false 1 (negsuc 7)

abbrev pub tock : Float
tock = fin false 1 (negsuc 6)

-- refused calls are strewn in: a stop before the start, a second start, a second clip, a block at the last block's time
abbrev pub looped_calls : List Call
looped_calls =
    message (Stop float_zero) ∷ clip ∷ start ∷ start ∷ message (Loop true) ∷ clip ∷ block_at float_zero ∷ block_at float_zero
    ∷ block_at tick ∷ []

abbrev pub plain_calls : List Call
plain_calls = start ∷ clip ∷ block_at float_zero ∷ block_at tick ∷ []

abbrev pub stopped_calls : List Call
stopped_calls = start ∷ message (Stop tick) ∷ clip ∷ block_at float_zero ∷ block_at tick ∷ block_at tock ∷ []

-- a stop exactly at the first block's end, and one within that block, at 1/512 s: 93 3/4 samples after its start
abbrev pub stop_calls : Float → List Call
stop_calls stop = start ∷ message (Stop stop) ∷ clip ∷ message (Loop true) ∷ block_at float_zero ∷ block_at tick ∷ []

abbrev pub first_end : Float
first_end = block_end 128 float_zero rate

abbrev pub within : Float
within = fin false 1 (negsuc 8)

-- ---- what the player gives in a block, in the one channel of these lists; and what the statement says of block b of their clip
abbrev pub heard : Event → List ℕ
heard e = take 128 (output_by e.before e.call)

abbrev pub all_heard : List Event → List (List ℕ)
all_heard es = map heard es

abbrev pub the_clip : Clip
the_clip = record { channels = 1; frames = 3; rate = rate; samples = frames }

abbrev pub said : Bool → ℕ → List ℕ
said looped b = table 128 (λ i. frame_bits 128 looped the_clip b i 0)

-- whether each block ends exactly at the stop, whether it reaches it, and whether the player has ended after it
abbrev pub ends_at : Float → List Event → List Bool
ends_at stop es = map (λ e. is_at (end_of rate e) (stop ∷ [])) es

abbrev pub all_reach : Float → List Event → List Bool
all_reach stop es = map (λ e. reaches (end_of rate e) (stop ∷ [])) es

abbrev pub all_ended : List Event → List Bool
all_ended es = map (λ e. is_ended (after e)) es

-- a block in cents
abbrev pub cents_at : Float → ℤ → LongerCall
cents_at time cents = in_cents (replicate 4096 7) frames time one cents

-- Of its blocks in cents two are accepted, and two are refused, so left out: by 16 for 12,001 cents, and by 13 at the last block's time.
-- The plain block at that time is refused too, and stays.
abbrev pub longer_calls : List LongerCall
longer_calls =
    plain start ∷ plain clip ∷ plain (message (Loop true)) ∷ cents_at float_zero (pos 0) ∷ cents_at tick (pos 12001)
    ∷ cents_at float_zero (pos 0)
    ∷ plain (block_at float_zero) ∷ cents_at tick (pos 0) ∷ []

-- previews, of a block and of one in cents, lent a second output of as many words; and one lent too short an output
abbrev pub look_at : Float → LongerCall
look_at time = preview (replicate 4096 9) frames time one one

abbrev pub look_in_cents : Float → ℤ → LongerCall
look_in_cents time cents = preview_in_cents (replicate 4096 9) frames time one cents

abbrev pub short_look : Float → LongerCall
short_look time = preview (replicate 128 9) frames time one one

-- previews at every place: before the clip and the start, before a block and after it at its time (refused by 13), with 12,001 cents (16),
-- with a short output (8). All seven are left out.
abbrev pub previewed_calls : List LongerCall
previewed_calls =
    look_at float_zero ∷ plain start ∷ plain clip ∷ look_in_cents float_zero (pos 50) ∷ plain (block_at float_zero) ∷ look_at float_zero
    ∷ look_at tick ∷ look_in_cents tick (pos 12001)
    ∷ short_look tick ∷ cents_at tick (pos 0) ∷ look_at tock ∷ []

-- previews alone, as they may stand between a preview and the block that it shows
abbrev pub between_calls : List LongerCall
between_calls = look_at tick ∷ look_in_cents float_zero (pos 50) ∷ short_look tock ∷ []

-- options without a ramp
abbrev pub unramped : Tolerances → PlayerOptions
unramped t = record { tolerances = t; ramp = 0 }

-- the premises are met by a player made with these options, and this many blocks are accepted
pub record Met (options : PlayerOptions) (calls : List Call) (blocks : ℕ) : Type 0 where
  pub single : T (fits binary32 rate)
  pub valid : T (valid_rate rate)
  pub typed : T (all_typed calls)
  pub premises : Premises rate (accepted (fresh_with rate options) calls)
  pub played : length (playing (accepted (fresh_with rate options) calls)) ≡ blocks

-- the premises of `long_run` for longer lists are met: this many calls are left out, and this many blocks are accepted
pub record MetLonger (options : PlayerOptions) (calls : List LongerCall) (left blocks : ℕ) : Type 0 where
  pub typed : T (all_typed_longer calls)
  pub left_out : length calls ≡ left + length (replaced (fresh_with rate options) calls)
  pub met : Met options (replaced (fresh_with rate options) calls) blocks

-- the premises of the claim about previews are met: previews alone, two outputs of one length that held other words, and refused previews,
-- by 8 and 16
pub record MetPreviews (options : PlayerOptions) : Type 0 where
  pub between : unlooked between_calls ≡ []
  pub lengths : length {A = ℕ} (replicate 4096 9) ≡ length {A = ℕ} (replicate 4096 7)
  pub short : previewed 128 (fresh_with rate options) 128 3 float_zero one one ≡ Err refused.Length
  pub far : previewed_cents 128 (fresh_with rate options) 4096 3 float_zero one (pos 12001) ≡ Err refused.Cents

-- The premises of what is said of a block that ends exactly at the stop are met, by the first of two; all of its samples play, and it ends
-- the player.
pub record MetAtStop (options : PlayerOptions) : Type 0 where
  pub met : Met options (stop_calls first_end) 2
  pub at : ends_at first_end (playing (accepted (fresh_with rate options) (stop_calls first_end))) ≡ true ∷ false ∷ []
  pub plays : all_heard (playing (accepted (fresh_with rate options) (stop_calls first_end))) ≡ said true 0 ∷ replicate 128 0 ∷ []
  pub ended : all_ended (playing (accepted (fresh_with rate options) (stop_calls first_end))) ≡ true ∷ true ∷ []

-- Where the stop lies within the first block, no block ends at it, and that one reaches it and ends the player. Its samples from number 94
-- on have instants at or after the stop.
pub record MetWithin (options : PlayerOptions) : Type 0 where
  pub met : Met options (stop_calls within) 2
  pub at : ends_at within (playing (accepted (fresh_with rate options) (stop_calls within))) ≡ false ∷ false ∷ []
  pub reach : all_reach within (playing (accepted (fresh_with rate options) (stop_calls within))) ≡ true ∷ true ∷ []
  pub instants : table 128 (λ i. reaches (instant float_zero rate i) (within ∷ [])) ≡ replicate 94 false ++ replicate 34 true
  pub ended : all_ended (playing (accepted (fresh_with rate options) (stop_calls within))) ≡ true ∷ true ∷ []

-- and that whatever the player is made with; where samples are told, without a ramp
pub record Instances : Type 0 where
  pub looped : (options : PlayerOptions) → Met options looped_calls 2
  pub plain : (options : PlayerOptions) → Met options plain_calls 2
  pub stopped : (options : PlayerOptions) → Met options stopped_calls 3
  pub at_stop : (t : Tolerances) → MetAtStop (unramped t)
  pub within_stop : (options : PlayerOptions) → MetWithin options
  -- with the defaults, the samples before a stop within the block play too, and from the stop on they are zero
  pub zero_from_stop : all_heard (playing (accepted (fresh_with rate default_options) (stop_calls within)))
      ≡ (take 94 (said true 0) ++ replicate 34 0) ∷ replicate 128 0 ∷ []
  pub longer : (options : PlayerOptions) → MetLonger options longer_calls 2 2
  pub previewed : (options : PlayerOptions) → MetLonger options previewed_calls 7 2
  pub previews : (options : PlayerOptions) → MetPreviews options
