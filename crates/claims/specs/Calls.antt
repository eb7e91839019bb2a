-- Lists of calls on one fresh player, and what each accepted one gave (docs/REFERENCE.md, 'Player and messages' and 'The long run').
-- Definitions only.
use Rattle.std.specs.Prelude.{Bool, true, false, ◌&&◌, cond, List, [], ◌∷◌, ◌++◌, ℕ, ◌+◌, ◌*◌, length, get_or, Float}
use Rattle.std.specs.Float.{binary32, binary64}
use Rattle.std.specs.Float.Ieee.{fits}
use Rattle.seconds.specs.Seconds.{float_zero}
use Rattle.player.specs.Messages.{handled, buffered}
use Rattle.player.specs.Block.{rendered, output}
use Rattle.player.specs.declared.Player.{Player}
use Rattle.player.specs.declared.ControlMessage.{ControlMessage}
use Rattle.player.specs.declared.ControlMessage.TheVariants.{Start, Stop, Loop, LoopStart, LoopEnd}
use Rattle.buffer.specs.Answers as answers
use Rattle.buffer.specs.Answers.{Answer}
use Rattle.buffer.specs.Answers.{answer_of}
use Rattle.player.specs.declared.BlockReport.{BlockReport}
use Rattle.buffer.specs.declared.refusals.Refusal.{Refusal}
use Rattle.std.specs.Prelude.{Result}

-- A call with all that is handed in: `buffer` has channels, frames, rate and samples; `block` has the output, the samples, time, rate and
-- factor.
pub data Call : Type 0 where
  buffer : ℕ → ℕ → Float → List ℕ → Call
  message : ControlMessage → Call
  block : List ℕ → List ℕ → Float → Float → Float → Call

-- ---- the numbers handed in are f32 and f64 values
abbrev pub typed_message : ControlMessage → Bool
typed_message (Start when offset duration) = fits binary64 when && (fits binary64 offset && fits binary64 duration)
typed_message (Stop when) = fits binary64 when
typed_message (Loop on) = true
typed_message (LoopStart at) = fits binary64 at
typed_message (LoopEnd at) = fits binary64 at

abbrev pub typed : Call → Bool
typed (buffer channels frames rate samples) = fits binary32 rate
typed (message m) = typed_message m
typed (block out samples time rate factor) = fits binary64 time && (fits binary32 rate && fits binary64 factor)

abbrev pub all_typed : List Call → Bool
all_typed [] = true
all_typed (c ∷ cs) = typed c && all_typed cs

-- ---- what a call does to the player: accepted means that no row of the table refuses it, and a refused call leaves the player as it was
abbrev pub is_accepted : {A : Type 0} → Answer A → Bool
is_accepted (answers.accepted value) = true
is_accepted (answers.refusal number) = false

abbrev pub value_or : Answer Player → Player → Player
value_or (answers.accepted q) p = q
value_or (answers.refusal number) p = p

abbrev pub player_or : Answer BlockReport → Player → Player
player_or (answers.accepted report) p = report.player
player_or (answers.refusal number) p = p

abbrev pub channels_or : Answer BlockReport → ℕ
channels_or (answers.accepted report) = report.channels
channels_or (answers.refusal number) = 0

abbrev pub is_done : Result Player Refusal → Bool
is_done h = is_accepted (answer_of h)

abbrev pub left : Result Player Refusal → Player → Player
left h p = value_or (answer_of h) p

abbrev pub is_block : Result BlockReport Refusal → Bool
is_block r = is_accepted (answer_of r)

abbrev pub moved : Result BlockReport Refusal → Player → Player
moved r p = player_or (answer_of r) p

abbrev pub answered : Result BlockReport Refusal → ℕ
answered r = channels_or (answer_of r)

unfoldable pub accepts : Player → Call → Bool
accepts p (buffer channels frames rate samples) = is_done (buffered p channels frames rate (length samples))
accepts p (message m) = is_done (handled p m)
accepts p (block out samples time rate factor) = is_block (rendered 128 p (length out) (length samples) time rate factor)

unfoldable pub next : Player → Call → Player
next p (buffer channels frames rate samples) = left (buffered p channels frames rate (length samples)) p
next p (message m) = left (handled p m) p
next p (block out samples time rate factor) = moved (rendered 128 p (length out) (length samples) time rate factor) p

-- ---- the accepted calls of a list, each with the player that it got
pub record Event : Type 0 where
  pub before : Player
  pub call : Call

unfoldable pub accepted : Player → List Call → List Event
accepted p [] = []
accepted p (c ∷ cs) = cond (accepts p c) (record { before = p; call = c } ∷ accepted (next p c) cs) (accepted p cs)

abbrev pub after : Event → Player
after e = next e.before e.call

abbrev pub after_all : Player → List Event → Player
after_all p [] = p
after_all p (e ∷ es) = after_all (after e) es

-- ---- what an accepted block gave: its time, the answered channels, and sample i of channel c in the output as it then stands
abbrev pub time_of : Call → Float
time_of (buffer channels frames rate samples) = float_zero
time_of (message m) = float_zero
time_of (block out samples time rate factor) = time

abbrev pub channels_by : Player → Call → ℕ
channels_by p (buffer channels frames rate samples) = 0
channels_by p (message m) = 0
channels_by p (block out samples time rate factor) = answered (rendered 128 p (length out) (length samples) time rate factor)

abbrev pub output_by : Player → Call → List ℕ
output_by p (buffer channels frames rate samples) = []
output_by p (message m) = []
output_by p (block out samples time rate factor) = output 128 p out samples time rate factor

abbrev pub channels_of : Event → ℕ
channels_of e = channels_by e.before e.call

abbrev pub sample_of : Event → ℕ → ℕ → ℕ
sample_of e c i = get_or (output_by e.before e.call) (128 * c + i) 0

abbrev pub is_ended : Player → Bool
is_ended p = p.render_state.ended

-- ---- the accepted calls before the first block, and those from it on
abbrev pub is_block_call : Call → Bool
is_block_call (buffer channels frames rate samples) = false
is_block_call (message m) = false
is_block_call (block out samples time rate factor) = true

unfoldable pub opening : List Event → List Event
opening [] = []
opening (e ∷ es) = cond (is_block_call e.call) [] (e ∷ opening es)

unfoldable pub playing : List Event → List Event
playing [] = []
playing (e ∷ es) = cond (is_block_call e.call) (e ∷ es) (playing es)

-- ---- what the opening holds, by kind
pub record Clip : Type 0 where
  pub channels : ℕ
  pub frames : ℕ
  pub rate : Float
  pub samples : List ℕ

pub record Started : Type 0 where
  pub when : Float
  pub offset : Float
  pub duration : Float

abbrev pub clip_in : Call → List Clip
clip_in (buffer channels frames rate samples) = record { channels = channels; frames = frames; rate = rate; samples = samples } ∷ []
clip_in (message m) = []
clip_in (block out samples time rate factor) = []

abbrev pub start_in : Call → List Started
start_in (buffer channels frames rate samples) = []
start_in (message (Start when offset duration)) = record { when = when; offset = offset; duration = duration } ∷ []
start_in (message (Stop when)) = []
start_in (message (Loop on)) = []
start_in (message (LoopStart at)) = []
start_in (message (LoopEnd at)) = []
start_in (block out samples time rate factor) = []

abbrev pub stop_in : Call → List Float
stop_in (buffer channels frames rate samples) = []
stop_in (message (Start when offset duration)) = []
stop_in (message (Stop when)) = when ∷ []
stop_in (message (Loop on)) = []
stop_in (message (LoopStart at)) = []
stop_in (message (LoopEnd at)) = []
stop_in (block out samples time rate factor) = []

abbrev pub switch_in : Call → List Bool
switch_in (buffer channels frames rate samples) = []
switch_in (message (Start when offset duration)) = []
switch_in (message (Stop when)) = []
switch_in (message (Loop on)) = on ∷ []
switch_in (message (LoopStart at)) = []
switch_in (message (LoopEnd at)) = []
switch_in (block out samples time rate factor) = []

abbrev pub point_in : Call → List Float
point_in (buffer channels frames rate samples) = []
point_in (message (Start when offset duration)) = []
point_in (message (Stop when)) = []
point_in (message (Loop on)) = []
point_in (message (LoopStart at)) = at ∷ []
point_in (message (LoopEnd at)) = at ∷ []
point_in (block out samples time rate factor) = []

-- all that the events hold of one kind, in order
abbrev pub gathered : {A : Type 0} → (Call → List A) → List Event → List A
gathered held [] = []
gathered held (e ∷ es) = held e.call ++ gathered held es
