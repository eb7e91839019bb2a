-- Lists in which blocks in cents and previews stand beside the other calls (docs/REFERENCE.md, 'Detune in cents' and 'Preview').
-- Definitions only. A longer list is brought, call by call, to a list of the calls that the statement about the long run speaks of.
use Rattle.std.specs.Prelude.{◌≡◌, Bool, true, false, not, ◌&&◌, cond, List, [], ◌∷◌, ℕ, ◌+◌, ◌*◌, ◌<◌, T, ℤ, pos, length, get_or, Float}
use Rattle.std.specs.Float.{binary32, binary64}
use Rattle.std.specs.Float.Ieee.{fits}
use Rattle.seconds.specs.Seconds.{one}
use Rattle.buffer.specs.Answers as answers
use Rattle.buffer.specs.Answers.{Answer}
use Rattle.buffer.specs.Limits.{valid_rate}
use Rattle.detune.specs.Detune.{factor_of}
use Rattle.player.specs.Record.{fresh_with}
use Rattle.player.specs.Messages.{handled, buffered}
use Rattle.player.specs.Block.{rendered}
use Rattle.buffer.specs.Answers.{answer_of}
use Rattle.player.specs.declared.Player.{Player}
use Rattle.player.specs.declared.PlayerOptions.{PlayerOptions}
use Rattle.player.specs.declared.BlockReport.{BlockReport}
use Rattle.cents.specs.Cents.{rendered_cents, output_cents}
use Rattle.preview.specs.Preview.{previewed, previewed_cents}
use Rattle.preview.specs.declared.Coming.{Coming}
use Rattle.std.specs.Prelude.{Err}
use Rattle.buffer.specs.declared.refusals.Refusal.{Refusal}
use Rattle.claims.specs.Calls.{Call, buffer, message, block, typed, channels_or, is_block, moved, next, accepted, output_by}
use Rattle.claims.specs.LongRun.{Premises, Holds}
use Rattle.claims.specs.LoopSwitch.{SwitchPremises, Switched}

-- A call of the long run's statement; or a block in cents with all that is handed in: the output, the samples, time, rate and cents; or a
-- preview of a block, its output being the second one, with a factor or in cents.
pub data LongerCall : Type 0 where
  plain : Call → LongerCall
  in_cents : List ℕ → List ℕ → Float → Float → ℤ → LongerCall
  preview : List ℕ → List ℕ → Float → Float → Float → LongerCall
  preview_in_cents : List ℕ → List ℕ → Float → Float → ℤ → LongerCall

-- ---- the numbers handed in are f32 and f64 values
abbrev pub typed_longer : LongerCall → Bool
typed_longer (plain c) = typed c
typed_longer (in_cents out samples time rate cents) = fits binary64 time && fits binary32 rate
typed_longer (preview out samples time rate factor) = fits binary64 time && (fits binary32 rate && fits binary64 factor)
typed_longer (preview_in_cents out samples time rate cents) = fits binary64 time && fits binary32 rate

abbrev pub all_typed_longer : List LongerCall → Bool
all_typed_longer [] = true
all_typed_longer (c ∷ cs) = typed_longer c && all_typed_longer cs

-- ---- what a call gave: its answer, the player that it leaves, and the output as it then stands (a message and a buffer call are lent
-- none)
pub data Given : Type 0 where
  told : Answer Player → Given
  played : Answer BlockReport → Given
  looked : Answer Coming → Given

pub record Outcome : Type 0 where
  pub answer : Given
  pub player : Player
  pub output : List ℕ

abbrev pub answer_by : Player → Call → Given
answer_by p (buffer channels frames rate samples) = told (answer_of (buffered p channels frames rate (length samples)))
answer_by p (message m) = told (answer_of (handled p m))
answer_by p (block out samples time rate factor) = played (answer_of (rendered 128 p (length out) (length samples) time rate factor))

abbrev pub outcome : Player → Call → Outcome
outcome p c = record { answer = answer_by p c; player = next p c; output = output_by p c }

-- of a preview, the player is the one that was looked at
abbrev pub looks_on : Player → Answer Coming → List ℕ → Outcome
looks_on p shows out = record { answer = looked shows; player = p; output = out }

abbrev pub outcome_longer : Player → LongerCall → Outcome
outcome_longer p (plain c) = outcome p c
outcome_longer p (in_cents out samples time rate cents) = record {
  answer = played (answer_of (rendered_cents 128 p (length out) (length samples) time rate cents));
  player = moved (rendered_cents 128 p (length out) (length samples) time rate cents) p;
  output = output_cents 128 p out samples time rate cents;
}
outcome_longer p (preview out samples time rate factor) =
    looks_on p (answer_of (previewed 128 p (length out) (length samples) time rate factor))
    (output_by p (block out samples time rate factor))
outcome_longer p (preview_in_cents out samples time rate cents) =
    looks_on p (answer_of (previewed_cents 128 p (length out) (length samples) time rate cents))
    (output_cents 128 p out samples time rate cents)

-- what the calls of a list give, one after another, from the player p on
unfoldable pub outcomes : Player → List Call → List Outcome
outcomes p [] = []
outcomes p (c ∷ cs) = outcome p c ∷ outcomes (outcome p c).player cs

-- ---- an accepted block in cents becomes the block call with its factor, and a refused one is left out; previews are left out too
abbrev pub is_left_out : Player → LongerCall → Bool
is_left_out p (plain c) = false
is_left_out p (in_cents out samples time rate cents) = not (is_block (rendered_cents 128 p (length out) (length samples) time rate cents))
is_left_out p (preview out samples time rate factor) = true
is_left_out p (preview_in_cents out samples time rate cents) = true

-- the block call with the same arguments, in cents with their factor
abbrev pub as_call : LongerCall → Call
as_call (plain c) = c
as_call (in_cents out samples time rate cents) = block out samples time rate (factor_of cents)
as_call (preview out samples time rate factor) = block out samples time rate factor
as_call (preview_in_cents out samples time rate cents) = block out samples time rate (factor_of cents)

unfoldable pub replaced : Player → List LongerCall → List Call
replaced p [] = []
replaced p (c ∷ cs) =
    let rest = replaced (outcome_longer p c).player cs in
    cond (is_left_out p c) rest (as_call c ∷ rest)

-- what the calls of a longer list give, those left out passed over
unfoldable pub kept : Player → List LongerCall → List Outcome
kept p [] = []
kept p (c ∷ cs) =
    let rest = kept (outcome_longer p c).player cs in
    cond (is_left_out p c) rest (outcome_longer p c ∷ rest)

-- ---- the claim about blocks in cents
pub record InCents : Type 0 where
  -- the list so replaced gives the same answers, players and outputs
  pub same : (p : Player) (calls : List LongerCall) → outcomes p (replaced p calls) ≡ kept p calls
  -- a block in cents that is left out changes neither the player nor the output
  pub unmoved : (p : Player) (out samples : List ℕ) (time rate : Float) (cents : ℤ)
      → is_left_out p (in_cents out samples time rate cents) ≡ true
      → ((outcome_longer p (in_cents out samples time rate cents)).player ≡ p)
      × ((outcome_longer p (in_cents out samples time rate cents)).output ≡ out)
  -- a block at 0 cents is the block with factor 1, so that it stays aligned
  pub at_zero : (p : Player) (out samples : List ℕ) (time rate : Float)
      → outcome_longer p (in_cents out samples time rate (pos 0)) ≡ outcome p (block out samples time rate one)
  -- the long run's statement holds of the list so replaced
  pub long_run : (rate : Float) (options : PlayerOptions) → options.ramp ≡ 0 → T (fits binary32 rate) → T (valid_rate rate)
      → (calls : List LongerCall) → T (all_typed_longer calls)
      → (h : Premises rate (accepted (fresh_with rate options) (replaced (fresh_with rate options) calls)))
      → Holds rate options (accepted (fresh_with rate options) (replaced (fresh_with rate options) calls)) h.clip
  -- and so does the statement about the loop switched during playback
  pub loop_switch : (rate : Float) (options : PlayerOptions) → options.ramp ≡ 0 → T (fits binary32 rate) → T (valid_rate rate)
      → (calls : List LongerCall) → T (all_typed_longer calls)
      → (h : SwitchPremises rate (accepted (fresh_with rate options) (replaced (fresh_with rate options) calls)))
      → Switched rate options (accepted (fresh_with rate options) (replaced (fresh_with rate options) calls)) h.clip

-- ---- previews: a player that was looked at goes on as it would have
abbrev pub is_preview : LongerCall → Bool
is_preview (plain c) = false
is_preview (in_cents out samples time rate cents) = false
is_preview (preview out samples time rate factor) = true
is_preview (preview_in_cents out samples time rate cents) = true

-- the list without its previews
unfoldable pub unlooked : List LongerCall → List LongerCall
unlooked [] = []
unlooked (c ∷ cs) = cond (is_preview c) (unlooked cs) (c ∷ unlooked cs)

-- what all calls of a longer list give, one after another, from the player p on; and what its other calls than previews give
unfoldable pub outcomes_longer : Player → List LongerCall → List Outcome
outcomes_longer p [] = []
outcomes_longer p (c ∷ cs) = outcome_longer p c ∷ outcomes_longer (outcome_longer p c).player cs

unfoldable pub others : Player → List LongerCall → List Outcome
others p [] = []
others p (c ∷ cs) =
    let rest = others (outcome_longer p c).player cs in
    cond (is_preview c) rest (outcome_longer p c ∷ rest)

-- the player that a list leaves
unfoldable pub left : Player → List LongerCall → Player
left p [] = p
left p (c ∷ cs) = left (outcome_longer p c).player cs

-- of what a block gave, what a preview shows: all but the player, in whose place stands the one that was looked at
abbrev pub seen : Answer BlockReport → Answer Coming
seen (answers.accepted r) =
    answers.accepted (record { keep_alive = r.keep_alive; ended = r.ended; channels = r.channels; position = r.position })
seen (answers.refusal number) = answers.refusal number

abbrev pub looked_at : Given → Given
looked_at (told a) = told a
looked_at (played a) = looked (seen a)
looked_at (looked a) = looked a

abbrev pub shown_by : Player → Outcome → Outcome
shown_by p o = record { answer = looked_at o.answer; player = p; output = o.output }

-- a preview and a block that show and give the same, into outputs that held whatever they held: in the answer, and in every sample of the
-- answered channels
abbrev pub channels_in : Given → ℕ
channels_in (told a) = 0
channels_in (played a) = channels_or a
channels_in (looked a) = 0

pub record SameBlock (shows gives : Outcome) : Type 0 where
  pub answer : shows.answer ≡ looked_at gives.answer
  pub samples : (c i : ℕ) → c < channels_in gives.answer → i < 128
      → get_or shows.output (128 * c + i) 0 ≡ get_or gives.output (128 * c + i) 0

-- ---- the claim about previews
pub record Previews : Type 0 where
  -- with previews strewn in at any places, accepted or refused, every other call's answer, player and output are those of the list without
  -- them
  pub unseen : (p : Player) (calls : List LongerCall) → others p calls ≡ outcomes_longer p (unlooked calls)
  -- and so is the player that the list leaves
  pub leaves : (p : Player) (calls : List LongerCall) → left p calls ≡ left p (unlooked calls)
  -- what a preview shows is what the next block call with the same arguments gives, whatever previews stand between
  pub foretold : (p : Player) (between : List LongerCall) → unlooked between ≡ [] → (out samples : List ℕ) (time rate factor : Float)
      → outcome_longer p (preview out samples time rate factor) ≡ shown_by p (outcome (left p between) (block out samples time rate factor))
  pub foretold_in_cents : (p : Player) (between : List LongerCall) → unlooked between ≡ []
      → (out samples : List ℕ) (time rate : Float) (cents : ℤ)
      → outcome_longer p (preview_in_cents out samples time rate cents)
      ≡ shown_by p (outcome_longer (left p between) (in_cents out samples time rate cents))
  -- and that whatever the second output and the block's held before, if they are of one length
  pub any_output : (p : Player) (between : List LongerCall) → unlooked between ≡ [] → (second out samples : List ℕ)
      → length second ≡ length out
      → (time rate factor : Float)
      → SameBlock (outcome_longer p (preview second samples time rate factor))
      (outcome (left p between) (block out samples time rate factor))
  pub any_output_in_cents : (p : Player) (between : List LongerCall) → unlooked between ≡ [] → (second out samples : List ℕ)
      → length second ≡ length out
      → (time rate : Float) (cents : ℤ)
      → SameBlock (outcome_longer p (preview_in_cents second samples time rate cents))
      (outcome_longer (left p between) (in_cents out samples time rate cents))
  -- a refused preview leaves the second output as it was
  pub unwritten : (p : Player) (second samples : List ℕ) (time rate factor : Float) (refused : Refusal)
      → previewed 128 p (length second) (length samples) time rate factor ≡ Err refused
      → (outcome_longer p (preview second samples time rate factor)).output ≡ second
  pub unwritten_in_cents : (p : Player) (second samples : List ℕ) (time rate : Float) (cents : ℤ) (refused : Refusal)
      → previewed_cents 128 p (length second) (length samples) time rate cents ≡ Err refused
      → (outcome_longer p (preview_in_cents second samples time rate cents)).output ≡ second
  -- the list of calls that a longer list is brought to (`replaced`, whose claims are those of `InCents`) is the one of the list without its
  -- previews
  pub replaced_same : (p : Player) (calls : List LongerCall) → replaced p calls ≡ replaced p (unlooked calls)
