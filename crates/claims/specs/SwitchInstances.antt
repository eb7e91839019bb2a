-- Lists of calls that meet the premises of the statement about the loop switched during playback (docs/REFERENCE.md, 'The loop switch').
-- Definitions only.
use Rattle.std.specs.Prelude.{◌≡◌, Bool, true, false, List, [], ◌∷◌, ℕ, T, negsuc, length, replicate, Float}
use Rattle.std.specs.Float.{fin, binary32}
use Rattle.std.specs.Float.Ieee.{fits}
use Rattle.buffer.specs.Limits.{valid_rate}
use Rattle.seconds.specs.Seconds.{float_zero, one}
use Rattle.player.specs.Record.{fresh_with}
use Rattle.player.specs.declared.PlayerOptions.{PlayerOptions}
use Rattle.player.specs.declared.ControlMessage.TheVariants.{Loop}
use Rattle.tape.specs.Tape.{Tape}
use Rattle.claims.specs.Calls.{Call, buffer, message, block, all_typed, accepted}
use Rattle.claims.specs.LoopSwitch.{SwitchPremises, tape_after}
use Rattle.claims.specs.Instances.{rate, start, tick, tock}

-- l frames of one bit pattern, and a block lent them
abbrev pub frames : ℕ → List ℕ
frames l = replicate l 0x3f80_0000

abbrev pub clip : ℕ → Call
clip l = buffer 1 l rate (frames l)

abbrev pub block_at : ℕ → Float → Call
block_at l time = block (replicate 4096 7) (frames l) time one one

abbrev pub switch : Bool → Call
switch on = message (Loop on)

-- 3/256 s
abbrev pub third : Float
third = fin false 3 (negsuc 7)

-- 600 frames: on and off twice within the clip. A block at the last one's time and a second clip are refused.
abbrev pub within_calls : List Call
within_calls =
    start ∷ clip 600 ∷ switch true ∷ block_at 600 float_zero ∷ switch false ∷ block_at 600 float_zero ∷ block_at 600 tick ∷ switch true
    ∷ clip 600
    ∷ block_at 600 tock ∷ switch false ∷ block_at 600 third ∷ []

-- 192 frames: off after a wrap in the second block, p = 64. The third is an exact fit, so the fourth ends it.
abbrev pub wrapped_calls : List Call
wrapped_calls =
    clip 192 ∷ start ∷ switch true ∷ block_at 192 float_zero ∷ block_at 192 tick ∷ switch false ∷ block_at 192 tock ∷ block_at 192 third
    ∷ []

-- 128 frames: an exact fit by the first block, unlooped, and a loop-off message before the next one
abbrev pub fitting_calls : List Call
fitting_calls = clip 128 ∷ start ∷ block_at 128 float_zero ∷ switch false ∷ block_at 128 tick ∷ []

-- 100 frames: on after the end, and off again
abbrev pub ended_calls : List Call
ended_calls = clip 100 ∷ start ∷ block_at 100 float_zero ∷ switch true ∷ block_at 100 tick ∷ switch false ∷ block_at 100 tock ∷ []

-- 128 frames: on, off and on after an exact fit, with no block to come
abbrev pub last_calls : List Call
last_calls = clip 128 ∷ start ∷ block_at 128 float_zero ∷ switch true ∷ switch false ∷ switch true ∷ []

-- 128 frames: on, off and on before the first block, at first before the clip. That block, looped, comes to p = 128 without a wrap: off and
-- on there, and the next one wraps, so p is 0. On and off, and the third is an exact fit; off twice, and the fourth ends it.
abbrev pub many_calls : List Call
many_calls =
    switch true ∷ start ∷ switch false ∷ clip 128 ∷ switch true ∷ block_at 128 float_zero ∷ switch false ∷ switch true ∷ block_at 128 tick
    ∷ switch true ∷ switch false ∷ block_at 128 tock ∷ switch false ∷ switch false ∷ block_at 128 third ∷ []

-- the premises are met by the accepted calls of a player made with these options, so many, and after them this is the tape
pub record MetSwitch (options : PlayerOptions) (l : ℕ) (calls : List Call) (count : ℕ) (t : Tape) : Type 0 where
  pub single : T (fits binary32 rate)
  pub valid : T (valid_rate rate)
  pub typed : T (all_typed calls)
  pub premises : SwitchPremises rate (accepted (fresh_with rate options) calls)
  pub count_is : length (accepted (fresh_with rate options) calls) ≡ count
  pub tape_is : tape_after l (accepted (fresh_with rate options) calls) ≡ t

-- and that whatever the player is made with
pub record SwitchInstances : Type 0 where
  pub within : (options : PlayerOptions) → MetSwitch options 600 within_calls 10
      (record { looped = false; head = record { p = 512; wrap = false }; exact_fit = false; ended = false })
  pub wrapped : (options : PlayerOptions) → MetSwitch options 192 wrapped_calls 8
      (record { looped = false; head = record { p = 320; wrap = false }; exact_fit = false; ended = true })
  pub fitting : (options : PlayerOptions) → MetSwitch options 128 fitting_calls 5
      (record { looped = false; head = record { p = 256; wrap = false }; exact_fit = false; ended = true })
  pub after_end : (options : PlayerOptions) → MetSwitch options 100 ended_calls 7
      (record { looped = false; head = record { p = 128; wrap = false }; exact_fit = false; ended = true })
  pub many : (options : PlayerOptions) → MetSwitch options 128 many_calls 15
      (record { looped = false; head = record { p = 256; wrap = false }; exact_fit = false; ended = true })
  pub at_last : (options : PlayerOptions) → MetSwitch options 128 last_calls 6
      (record { looped = true; head = record { p = 128; wrap = false }; exact_fit = true; ended = false })
