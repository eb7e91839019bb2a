-- The tolerances (docs/REFERENCE.md, 'Near tests and tolerances'): a player keeps those that it was made with, a conversion is handed them,
-- every near test receives them, and nothing else reads them. At the defaults, which a player made for a rate alone has, a block and a
-- conversion are those of the three default numbers. Definitions only.
use Rattle.std.specs.Prelude.{◌≡◌, List, ℕ, ◌≤◌, true, false, T, Float, Option, Result, Ok, Err}
use Rattle.std.specs.Float.{binary32}
use Rattle.std.specs.Float.Ieee.{fits}
use Rattle.rounding.specs.Near.{near_tolerance, rate_tolerance}
use Rattle.buffer.specs.Limits.{valid_rate}
use Rattle.buffer.specs.declared.Shape.{Shape}
use Rattle.buffer.specs.declared.refusals.Refusal.{Refusal}
use Rattle.buffer.specs.declared.refusals.Refusal.TheVariants as refused
use Rattle.tolerances.specs.Tolerances.{defaults}
use Rattle.tolerances.specs.declared.Tolerances.{Tolerances}
use Rattle.sub_sample.specs.SubSample as sub_sample
use Rattle.sub_sample.specs.declared.Settings.{Settings}
use Rattle.sub_sample.specs.declared.Playhead.{Playhead}
use Rattle.sub_sample.specs.declared.PlaybackInfo.{PlaybackInfo}
use Rattle.interpolated.specs.Interpolated as interpolated
use Rattle.reshape.specs.Converting as converting
use Rattle.player.specs.Record.{default_options, fresh, fresh_with}
use Rattle.ramps.specs.Ramps.{longest}
use Rattle.player.specs.Messages as messages
use Rattle.player.specs.Block as block
use Rattle.player.specs.Block.{Plan}
use Rattle.player.specs.declared.Player.{Player}
use Rattle.player.specs.declared.PlayerOptions.{PlayerOptions}
use Rattle.player.specs.declared.BlockReport.{BlockReport}
use Rattle.claims.specs.GivenNumbers as given
use Rattle.claims.specs.Calls.{Call, all_typed, accepted}
use Rattle.claims.specs.LongRun.{Premises, Holds}
use Rattle.claims.specs.LoopSwitch.{SwitchPremises, Switched}
use Rattle.claims.specs.Longer.{LongerCall, left}

-- ---- a player is made with a record of tolerances, and keeps it
pub record KeepsTolerances : Type 0 where
  -- a valid rate makes a fresh player with any options whose ramp is not too long, whatever tolerances stand in them; another rate is
  -- refused by 2, whatever they are
  pub made : (rate : Float) (options : PlayerOptions) → valid_rate rate ≡ true → options.ramp ≤ longest
      → messages.made_with rate options ≡ Ok (fresh_with rate options)
  pub refused : (rate : Float) (options : PlayerOptions) → valid_rate rate ≡ false → messages.made_with rate options ≡ Err refused.Rate
  pub has : (rate : Float) (options : PlayerOptions) → (fresh_with rate options).tolerances ≡ options.tolerances
  -- through every list of calls, refused ones, blocks in cents and previews included
  pub kept : (p : Player) (calls : List LongerCall) → (left p calls).tolerances ≡ p.tolerances

-- ---- every near test receives it
-- The settings of a block hold the player's. In a block with these settings, and in a conversion with these tolerances, each definition
-- that has a near test, or calls one that has, is the one of the given numbers with the record's own in their place: near for near, near
-- zero for near zero, and the relabel distance. So is the whole block: its answer, the player that it leaves, and the output. A block call,
-- a block in cents and a preview all take what they give from `plan`.
pub record Receives : Type 0 where
  pub settings : (p : Player) (time rate computed : Float) → (block.settings p time rate computed).tolerances ≡ p.tolerances
  -- a sample's playhead
  pub snapped : (s : Settings) (now : Float) (h : Playhead) → let t = s.tolerances in
      sub_sample.snapped s now h ≡ given.snapped t.near t.near_zero t.relabel s now h
  pub snapped_to_loop : (s : Settings) (x : Float) → let t = s.tolerances in
      sub_sample.snapped_to_loop s x ≡ given.snapped_to_loop t.near t.near_zero t.relabel s x
  pub turned : (s : Settings) (h : Playhead) → let t = s.tolerances in
      sub_sample.turned s h ≡ given.turned t.near t.near_zero t.relabel s h
  pub settled : (s : Settings) (h : Playhead) → let t = s.tolerances in
      sub_sample.settled s h ≡ given.settled t.near t.near_zero t.relabel h
  pub placed : (s : Settings) (now : Float) (h : Playhead) → let t = s.tolerances in
      sub_sample.placed s now h ≡ given.placed t.near t.near_zero t.relabel s now h
  pub stepped : (s : Settings) (i : ℕ) (h : Playhead) → let t = s.tolerances in
      sub_sample.stepped s i h ≡ given.stepped t.near t.near_zero t.relabel s i h
  pub info_of_sample : (s : Settings) (i : ℕ) (h : Playhead) → let t = s.tolerances in
      sub_sample.info_of_sample s i h ≡ given.info_of_sample t.near t.near_zero t.relabel s i h
  pub head_at : (s : Settings) (h : Playhead) (i : ℕ) → let t = s.tolerances in
      sub_sample.head_at s h i ≡ given.head_at t.near t.near_zero t.relabel s h i
  -- its bits
  pub extrapolated : (s : Settings) (channel : List ℕ) (frame : ℕ) (k : Float) → let t = s.tolerances in
      interpolated.extrapolated s channel frame k ≡ given.extrapolated t.near t.near_zero t.relabel channel frame k
  pub following : (s : Settings) (channel : List ℕ) (frame : ℕ) (k : Float) → let t = s.tolerances in
      interpolated.following s channel frame k ≡ given.following t.near t.near_zero t.relabel s channel frame k
  pub sample_of : (s : Settings) (channel : List ℕ) (info : Option PlaybackInfo) → let t = s.tolerances in
      interpolated.sample_of s channel info ≡ given.sample_of t.near t.near_zero t.relabel s channel info
  -- the block
  pub plan : (n : ℕ) (p : Player) (time rate factor : Float) → let t = p.tolerances in
      block.plan n p time rate factor ≡ given.plan t.near t.near_zero t.relabel n p time rate factor
  pub rendered : (n : ℕ) (p : Player) (outLength samplesLength : ℕ) (time rate factor : Float) → let t = p.tolerances in
      block.rendered n p outLength samplesLength time rate factor
      ≡ given.rendered t.near t.near_zero t.relabel n p outLength samplesLength time rate factor
  pub output : (n : ℕ) (p : Player) (out samples : List ℕ) (time rate factor : Float) → let t = p.tolerances in
      block.output n p out samples time rate factor ≡ given.output t.near t.near_zero t.relabel n p out samples time rate factor
  -- conversion
  pub relabels : (t : Tolerances) (shape : Shape) (rate : Float)
      → converting.relabels_with t shape rate ≡ given.relabels t.near t.near_zero t.relabel shape rate
  pub converted_shape : (t : Tolerances) (shape : Shape) (len : ℕ) (rate : Float)
      → converting.converted_shape_with t shape len rate ≡ given.converted_shape t.near t.near_zero t.relabel shape len rate
  pub converted_samples : (t : Tolerances) (shape : Shape) (samples : List ℕ) (rate : Float)
      → converting.converted_samples_with t shape samples rate ≡ given.converted_samples t.near t.near_zero t.relabel shape samples rate

-- ---- and nothing else reads it
-- the player with other tolerances, and a plan and an answer with such a player
abbrev pub holding : Player → Tolerances → Player
holding p t = record {
  sample_rate = p.sample_rate;
  start_time = p.start_time;
  stop_time = p.stop_time;
  offset = p.offset;
  duration = p.duration;
  loop_state = p.loop_state;
  render_state = p.render_state;
  has_start = p.has_start;
  has_buffer = p.has_buffer;
  shape = p.shape;
  has_block = p.has_block;
  block_time = p.block_time;
  tolerances = t;
  ramp = p.ramp;
}

abbrev pub planned : Plan → Tolerances → Plan
planned q t = record {
  player = holding q.player t;
  keep_alive = q.keep_alive;
  channels = q.channels;
  uncounted = q.uncounted;
  sample = q.sample;
}

abbrev pub answered : Result BlockReport Refusal → Tolerances → Result BlockReport Refusal
answered (Ok r) t =
    Ok (record { player = holding r.player t; keep_alive = r.keep_alive; ended = r.ended; channels = r.channels; position = r.position })
answered (Err refusal) t = Err refusal

-- With the near tests at given numbers, a block is the same whatever tolerances the player holds, but that the player which it leaves holds
-- them still. So a player's tolerances bear on a block by its near tests alone.
pub record ReadNowhereElse : Type 0 where
  pub plan : (close small apart : Float) (n : ℕ) (p : Player) (t : Tolerances) (time rate factor : Float)
      → given.plan close small apart n (holding p t) time rate factor ≡ planned (given.plan close small apart n p time rate factor) t
  pub rendered : (close small apart : Float) (n : ℕ) (p : Player) (t : Tolerances) (outLength samplesLength : ℕ) (time rate factor : Float)
      → given.rendered close small apart n (holding p t) outLength samplesLength time rate factor
      ≡ answered (given.rendered close small apart n p outLength samplesLength time rate factor) t
  pub output : (close small apart : Float) (n : ℕ) (p : Player) (t : Tolerances) (out samples : List ℕ) (time rate factor : Float)
      → given.output close small apart n (holding p t) out samples time rate factor
      ≡ given.output close small apart n p out samples time rate factor

-- ---- at the defaults: the numbers are 2 ^ -26, 2 ^ -26 and 0.1 as f32
pub record AtDefaults : Type 0 where
  -- a player made for a rate alone has the defaults, and so have the settings of each of its blocks, after every list of calls
  pub made : (rate : Float) → messages.made rate ≡ messages.made_with rate default_options
  pub has : (rate : Float) (calls : List LongerCall) → (left (fresh rate) calls).tolerances ≡ defaults
  pub kept : (rate : Float) (calls : List LongerCall) (time playback computed : Float)
      → (block.settings (left (fresh rate) calls) time playback computed).tolerances ≡ defaults
  -- in a block with such settings each definition that has a near test is the one of the default numbers
  pub snapped : (s : Settings) (now : Float) (h : Playhead) → s.tolerances ≡ defaults
      → sub_sample.snapped s now h ≡ given.snapped near_tolerance near_tolerance rate_tolerance s now h
  pub snapped_to_loop : (s : Settings) (x : Float) → s.tolerances ≡ defaults
      → sub_sample.snapped_to_loop s x ≡ given.snapped_to_loop near_tolerance near_tolerance rate_tolerance s x
  pub placed : (s : Settings) (now : Float) (h : Playhead) → s.tolerances ≡ defaults
      → sub_sample.placed s now h ≡ given.placed near_tolerance near_tolerance rate_tolerance s now h
  pub following : (s : Settings) (channel : List ℕ) (frame : ℕ) (k : Float) → s.tolerances ≡ defaults
      → interpolated.following s channel frame k ≡ given.following near_tolerance near_tolerance rate_tolerance s channel frame k
  -- and so is the whole block of a player that has them
  pub plan : (n : ℕ) (p : Player) (time rate factor : Float) → p.tolerances ≡ defaults
      → block.plan n p time rate factor ≡ given.plan near_tolerance near_tolerance rate_tolerance n p time rate factor
  pub rendered : (n : ℕ) (p : Player) (outLength samplesLength : ℕ) (time rate factor : Float) → p.tolerances ≡ defaults
      → block.rendered n p outLength samplesLength time rate factor
      ≡ given.rendered near_tolerance near_tolerance rate_tolerance n p outLength samplesLength time rate factor
  pub output : (n : ℕ) (p : Player) (out samples : List ℕ) (time rate factor : Float) → p.tolerances ≡ defaults
      → block.output n p out samples time rate factor
      ≡ given.output near_tolerance near_tolerance rate_tolerance n p out samples time rate factor
  -- and a conversion that is handed none
  pub converted_shape : (shape : Shape) (len : ℕ) (rate : Float)
      → converting.converted_shape shape len rate ≡ given.converted_shape near_tolerance near_tolerance rate_tolerance shape len rate
  pub converted_samples : (shape : Shape) (samples : List ℕ) (rate : Float)
      → converting.converted_samples shape samples rate
      ≡ given.converted_samples near_tolerance near_tolerance rate_tolerance shape samples rate
  -- the statements of the long run and of the loop switch hold of the player made for a rate alone
  pub long_run : (rate : Float) → T (fits binary32 rate) → T (valid_rate rate) → (calls : List Call) → T (all_typed calls)
      → (h : Premises rate (accepted (fresh rate) calls)) → Holds rate default_options (accepted (fresh rate) calls) h.clip
  pub loop_switch : (rate : Float) → T (fits binary32 rate) → T (valid_rate rate) → (calls : List Call) → T (all_typed calls)
      → (h : SwitchPremises rate (accepted (fresh rate) calls)) → Switched rate default_options (accepted (fresh rate) calls) h.clip
