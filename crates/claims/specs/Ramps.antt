-- Ramps (docs/REFERENCE.md, 'Ramps'): with length 0 a block is the one without a ramp; with any length all but the samples' bits is what it
-- is with length 0, over every list of calls, and a sample's bits are those times its factor. Definitions only.
use Rattle.std.specs.Prelude.{◌≡◌, true, List, ℕ, ◌+◌, ◌*◌, ◌<◌, length, get_or, map, Float, Result, Ok, Err}
use Rattle.buffer.specs.Limits.{valid_rate}
use Rattle.buffer.specs.Answers as answers
use Rattle.buffer.specs.Answers.{Answer, answer_of, stored, after_checks}
use Rattle.buffer.specs.declared.refusals.Refusal.{Refusal}
use Rattle.buffer.specs.declared.refusals.Refusal.TheVariants as refused
use Rattle.ramps.specs.declared.Ramp.{Ramp}
use Rattle.ramps.specs.Ramps.{longest, ramp_of, ramped}
use Rattle.player.specs.declared.Player.{Player}
use Rattle.player.specs.declared.PlayerOptions.{PlayerOptions}
use Rattle.player.specs.declared.BlockReport.{BlockReport}
use Rattle.player.specs.Record.{fresh_with, with_ramp}
use Rattle.player.specs.Messages.{made_with}
use Rattle.player.specs.Block as full
use Rattle.player.specs.Block.{Plan, bare_plan, ramp_in, checked, report_of, written}
use Rattle.claims.specs.Calls.{Call, buffer, message, block}
use Rattle.claims.specs.Longer.{LongerCall, Given, told, played, looked, Outcome, outcome_longer, outcomes_longer, as_call, left}

-- ---- a block without its ramp: what it answers, and the output
abbrev pub bare_rendered : ℕ → Player → ℕ → ℕ → Float → Float → Float → Result BlockReport Refusal
bare_rendered n p outLength samplesLength time rate factor =
    after_checks (checked n p outLength samplesLength time rate factor) (report_of (bare_plan n p time rate factor))

abbrev pub bare_output : ℕ → Player → List ℕ → List ℕ → Float → Float → Float → List ℕ
bare_output n p out samples time rate factor =
    let q = bare_plan n p time rate factor in
    stored (answer_of (checked n p (length out) (length samples) time rate factor))
    (written n q.sample p.shape.frames samples out q.channels) out

-- a plan, and an answer, with another ramp in the player
abbrev pub plan_with : Plan → Ramp → Plan
plan_with q r = record {
  player = with_ramp q.player r;
  keep_alive = q.keep_alive;
  channels = q.channels;
  uncounted = q.uncounted;
  sample = q.sample;
}

abbrev pub report_with : BlockReport → Ramp → BlockReport
report_with report r = record {
  player = with_ramp report.player r;
  keep_alive = report.keep_alive;
  ended = report.ended;
  channels = report.channels;
  position = report.position;
}

abbrev pub answer_with : Result BlockReport Refusal → Ramp → Result BlockReport Refusal
answer_with (Ok report) r = Ok (report_with report r)
answer_with (Err refusal) r = Err refusal

-- With length 0 a block's plan, its answer and its output are those of the block without a ramp; of the player, all but the ramp. So a
-- block call, a block in cents and a preview are, which all take what they give from `plan`. And the block without a ramp reads none.
pub record NoRamp : Type 0 where
  pub plan : (n : ℕ) (p : Player) (time rate factor : Float) → p.ramp.length ≡ 0 → (r : Ramp)
      → plan_with (full.plan n p time rate factor) r ≡ plan_with (bare_plan n p time rate factor) r
  pub rendered : (n : ℕ) (p : Player) (outLength samplesLength : ℕ) (time rate factor : Float) → p.ramp.length ≡ 0 → (r : Ramp)
      → answer_with (full.rendered n p outLength samplesLength time rate factor) r
      ≡ answer_with (bare_rendered n p outLength samplesLength time rate factor) r
  pub output : (n : ℕ) (p : Player) (out samples : List ℕ) (time rate factor : Float) → p.ramp.length ≡ 0
      → full.output n p out samples time rate factor ≡ bare_output n p out samples time rate factor
  pub reads_none : (n : ℕ) (p : Player) (r : Ramp) (time rate factor : Float)
      → bare_plan n (with_ramp p r) time rate factor ≡ plan_with (bare_plan n p time rate factor) r

-- ---- the player with a ramp of length 0 that stands where its own does
abbrev pub without : Player → Player
without p = with_ramp p (ramp_of 0 p.ramp.count p.ramp.has_stop_sample p.ramp.stop_sample)

-- an answer with such a player; a preview's has none
abbrev pub told_without : Answer Player → Answer Player
told_without (answers.accepted p) = answers.accepted (without p)
told_without (answers.refusal number) = answers.refusal number

abbrev pub played_without : Answer BlockReport → Answer BlockReport
played_without (answers.accepted report) = answers.accepted (record {
  player = without report.player;
  keep_alive = report.keep_alive;
  ended = report.ended;
  channels = report.channels;
  position = report.position;
})
played_without (answers.refusal number) = answers.refusal number

abbrev pub given_without : Given → Given
given_without (told a) = told (told_without a)
given_without (played a) = played (played_without a)
given_without (looked a) = looked a

-- ---- the ramp by which the samples of a block are multiplied, and how many of the first don't count
abbrev pub ramp_at : Player → Call → Ramp
ramp_at p (buffer channels frames rate samples) = p.ramp
ramp_at p (message m) = p.ramp
ramp_at p (block out samples time rate factor) =
    let q = bare_plan 128 p time rate factor in
    ramp_in p q.player.render_state.started q.player.start_time.0

abbrev pub uncounted_at : Player → Call → ℕ
uncounted_at p (buffer channels frames rate samples) = 0
uncounted_at p (message m) = 0
uncounted_at p (block out samples time rate factor) = (bare_plan 128 p time rate factor).uncounted

-- the channels that a block or a preview answers
abbrev pub channels_given : Given → ℕ
channels_given (told a) = 0
channels_given (played (answers.accepted report)) = report.channels
channels_given (played (answers.refusal number)) = 0
channels_given (looked (answers.accepted coming)) = coming.channels
channels_given (looked (answers.refusal number)) = 0

-- With any ramp, over any list of calls: messages, blocks, blocks in cents and previews, refused ones too.
pub record AnyRamp : Type 0 where
  -- the player made with a ramp has beside it the one made without, all else the same
  pub made : (rate : Float) (options : PlayerOptions)
      → without (fresh_with rate options) ≡ fresh_with rate (record { tolerances = options.tolerances; ramp = 0 })
  -- the two stay beside each other
  pub beside : (p : Player) (calls : List LongerCall) → left (without p) calls ≡ without (left p calls)
  -- and every call answers the same: position, ended, keep-alive, channels, refusals
  pub each : (p : Player) (calls : List LongerCall) (c : LongerCall)
      → (outcome_longer (left (without p) calls) c).answer ≡ given_without (outcome_longer (left p calls) c).answer
  pub all : (p : Player) (calls : List LongerCall)
      → map (λ (o : Outcome). o.answer) (outcomes_longer (without p) calls)
      ≡ map (λ (o : Outcome). given_without o.answer) (outcomes_longer p calls)
  -- a sample of an answered channel has the bits that it has without a ramp, times the factor of its number
  pub samples : (p : Player) (calls : List LongerCall) (c : LongerCall) (k i : ℕ)
      → k < channels_given (outcome_longer (left p calls) c).answer → i < 128
      → get_or (outcome_longer (left p calls) c).output (128 * k + i) 0
      ≡ ramped (ramp_at (left p calls) (as_call c)) (uncounted_at (left p calls) (as_call c)) i
      (get_or (outcome_longer (left (without p) calls) c).output (128 * k + i) 0)
  -- no call changes the length
  pub kept : (p : Player) (calls : List LongerCall) → (left p calls).ramp.length ≡ p.ramp.length
  -- 19 where a player is made, after 2
  pub too_long : (rate : Float) (options : PlayerOptions) → valid_rate rate ≡ true → longest < options.ramp
      → made_with rate options ≡ Err refused.Ramp
