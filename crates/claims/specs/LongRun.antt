-- The long run (docs/REFERENCE.md, 'The long run'): one claim about one list of calls, refused ones included. Definitions, and a few
-- values of them by hand.
use Rattle.std.specs.Prelude.{◌≡◌, Bool, true, false, ◌&&◌, ◌||◌, cond, List, [], ◌∷◌, ◌++◌, ℕ, zero, suc, ◌+◌, ◌-◌, ◌*◌, ◌/◌, ◌%◌, ◌^◌, ◌<◌, ◌≤◌, T, eqb, ltb, length, get_or, Float}
use Rattle.std.specs.Float.{binary32}
use Rattle.std.specs.Float.Ieee.{fits, lt, le, eq}
use Rattle.std.specs.Float.Ieee.Exact.{HasValue}
use Rattle.std.proofs.Math.Path.{refl}
use Rattle.lists.specs.Table.{table}
use Rattle.seconds.specs.Seconds.{float_zero, never, one, instant, block_end}
use Rattle.buffer.specs.Limits.{valid_rate}
use Rattle.player.specs.Record.{fresh_with}
use Rattle.buffer.specs.Channels.{channel}
use Rattle.player.specs.declared.Player.{Player}
use Rattle.player.specs.declared.PlayerOptions.{PlayerOptions}
use Rattle.claims.specs.Calls.{Call, buffer, message, block, all_typed, Event, accepted, after, after_all, time_of, channels_of, sample_of, is_ended}
use Rattle.claims.specs.Calls.{opening, playing, Clip, Started, clip_in, start_in, stop_in, switch_in, point_in, gathered}

-- ---- the premises, on what is accepted

-- the start lies at or before the first block's time
abbrev pub starts_in_time : Float → List Event → Bool
starts_in_time when [] = true
starts_in_time when (e ∷ es) = le when (time_of e.call)

-- from the first block on only blocks, each lent that clip unaltered, at rate and factor 1
abbrev pub PlainBlock : List ℕ → Call → Type 0
PlainBlock clip (buffer channels frames rate samples) = ⊥
PlainBlock clip (message m) = ⊥
PlainBlock clip (block out samples time rate factor) = (samples ≡ clip) × (rate ≡ one) × (factor ≡ one)

abbrev pub OnlyBlocks : List ℕ → List Event → Type 0
OnlyBlocks clip [] = Unit {0}
OnlyBlocks clip (e ∷ es) = PlainBlock clip e.call × OnlyBlocks clip es

pub record Premises (rate : Float) (es : List Event) : Type 0 where
  pub clip : Clip
  pub start : Started
  pub one_clip : gathered clip_in (opening es) ≡ clip ∷ []
  pub own_rate : clip.rate ≡ rate
  pub one_start : gathered start_in (opening es) ≡ start ∷ []
  pub in_time : T (starts_in_time start.when (playing es))
  pub no_offset : T (eq start.offset float_zero)
  pub no_duration : start.duration ≡ never
  pub few_switches : length (gathered switch_in (opening es)) ≤ 1
  pub few_stops : length (gathered stop_in (opening es)) ≤ 1
  pub no_points : gathered point_in (opening es) ≡ []
  pub only_blocks : OnlyBlocks clip.samples (playing es)

-- the loop is on if the switch was sent and says so
abbrev pub switched_on : List Bool → Bool
switched_on [] = false
switched_on (on ∷ rest) = on

-- ---- the stop, if there is one
abbrev pub is_before : Float → List Float → Bool
is_before x [] = true
is_before x (stop ∷ rest) = lt x stop

abbrev pub is_at : Float → List Float → Bool
is_at x [] = false
is_at x (stop ∷ rest) = eq x stop

-- at or after it
abbrev pub reaches : Float → List Float → Bool
reaches x [] = false
reaches x (stop ∷ rest) = le stop x

-- ---- the conclusions

-- The bits of sample i of block b in channel c, n samples a block: frame (n × b + i) mod L looped; frame n × b + i below L, else zero,
-- unlooped.
unfoldable pub frame_bits : ℕ → Bool → Clip → ℕ → ℕ → ℕ → ℕ
frame_bits n looped clip b i c =
    let l = clip.frames in
    let k = n * b + i in
    let frames = channel clip.samples l c in
    cond looped (get_or frames (k % l) 0) (cond (ltb k l) (get_or frames k 0) 0)

abbrev pub Plays : Bool → Clip → ℕ → Event → Type 0
Plays looped clip b e = (c i : ℕ) → c < channels_of e → i < 128 → sample_of e c i ≡ frame_bits 128 looped clip b i c

-- The exact position after k accepted blocks of n samples, in frames: n times their number; looped, its remainder by L, where remainder
-- 0 counts as L if L is above n, or is n and their number odd. With none it is 0.
unfoldable pub exact_frames : ℕ → Bool → ℕ → ℕ → ℕ
exact_frames n looped l zero = 0
exact_frames n looped l (suc k) =
    let rest = n * suc k % l in
    cond looped (cond (eqb rest 0 && (ltb n l || eqb l n && eqb (suc k % 2) 1)) l rest) (n * suc k)

-- ---- by hand: in blocks of 4 samples, a clip of three frames with the bits 1, 2 and 3
abbrev three : Clip
three = record { channels = 1; frames = 3; rate = one; samples = 1 ∷ 2 ∷ 3 ∷ [] }

-- looped, block 1 begins with frame 1; unlooped, block 0 has the three frames and a zero
looped_by_hand : table 4 (λ i. frame_bits 4 true three 1 i 0) ≡ 2 ∷ 3 ∷ 1 ∷ 2 ∷ []
unfolding frame_bits table
looped_by_hand = refl

plain_by_hand : table 4 (λ i. frame_bits 4 false three 0 i 0) ≡ 1 ∷ 2 ∷ 3 ∷ 0 ∷ []
unfolding frame_bits table
plain_by_hand = refl

-- looped, the exact positions of a clip as long as a block are its end and its start in turn; a longer clip's is its end where the
-- remainder is 0, and a shorter one's is its start
positions_by_hand : table 3 (exact_frames 4 true 4) ≡ 0 ∷ 4 ∷ 0 ∷ []
unfolding exact_frames table
positions_by_hand = refl

longer_by_hand : table 4 (exact_frames 4 true 6) ≡ 0 ∷ 4 ∷ 2 ∷ 6 ∷ []
unfolding exact_frames table
longer_by_hand = refl

shorter_by_hand : table 4 (exact_frames 4 true 2) ≡ 0 ∷ 0 ∷ 0 ∷ 0 ∷ []
unfolding exact_frames table
shorter_by_hand = refl

-- The reported seconds times the rate, within 1/1024 frame of x frames: counted in whole multiples of 2 ^ -1223, the product of the
-- smallest f64 (2 ^ -1074) and the smallest f32 (2 ^ -149). The bound is 2 ^ 1213 of these.
pub record Reports (rate seconds : Float) (x : ℕ) : Type 0 where
  pub r : ℕ
  pub t : ℕ
  pub per_second : HasValue rate false r (2 ^ 149)
  pub reported : HasValue seconds false t (2 ^ 1074)
  pub at_most : t * r ≤ x * 2 ^ 1223 + 2 ^ 1213
  pub at_least : x * 2 ^ 1223 ≤ t * r + 2 ^ 1213

-- the blocks of n samples that a clip of l frames takes: l / n, rounded up
abbrev pub blocks_of : ℕ → ℕ → ℕ
blocks_of n l = (l + (n - 1)) / n

-- the player after k accepted blocks
pub record Stands (rate : Float) (looped : Bool) (l k : ℕ) (p : Player) : Type 0 where
  pub never_ends : looped ≡ true → is_ended p ≡ false
  pub not_before : looped ≡ false → k < blocks_of 128 l → is_ended p ≡ false
  pub has_ended : looped ≡ false → blocks_of 128 l + 1 ≤ k → is_ended p ≡ true
  pub position : is_ended p ≡ false → Reports rate p.render_state.buffer_time.0 (exact_frames 128 looped l k)

-- blocks that end, or stay ended, and give zeros
abbrev pub Over : List Event → Type 0
Over [] = Unit {0}
Over (e ∷ es) = ((is_ended (after e) ≡ true) × ((c i : ℕ) → c < channels_of e → i < 128 → sample_of e c i ≡ 0)) × Over es

-- where a block ends
abbrev pub end_of : Float → Event → Float
end_of rate e = block_end 128 (time_of e.call) rate

abbrev pub NoneAt : Float → List Float → List Event → Type 0
NoneAt rate stop [] = Unit {0}
NoneAt rate stop (e ∷ es) = (is_at (end_of rate e) stop ≡ false) × NoneAt rate stop es

-- accepted block e, which `front` precede and `back` follow
pub record Block (rate : Float) (looped : Bool) (clip : Clip) (stop : List Float) (front : List Event) (e : Event) (back : List Event)
    : Type 0 where
  pub channels : channels_of e ≡ cond (is_ended e.before) 1 clip.channels
  pub plays : T (is_before (end_of rate e) stop) → Plays looped clip (length front) e
  pub stands : T (is_before (end_of rate e) stop) → Stands rate looped clip.frames (suc (length front)) (after e)
  pub plays_at_stop : T (is_at (end_of rate e) stop) → NoneAt rate stop front → Plays looped clip (length front) e
  pub zero_from_stop : (c i : ℕ) → c < channels_of e → i < 128 → T (reaches (instant (time_of e.call) rate i) stop) → sample_of e c i ≡ 0
  pub ends_at_stop : T (reaches (end_of rate e) stop) → (is_ended (after e) ≡ true) × Over back

pub record Holds (rate : Float) (options : PlayerOptions) (es : List Event) (clip : Clip) : Type 0 where
  pub begins : Stands rate (switched_on (gathered switch_in (opening es))) clip.frames 0 (after_all (fresh_with rate options) (opening es))
  pub each : (front : List Event) (e : Event) (back : List Event) → playing es ≡ front ++ (e ∷ back)
      → Block rate (switched_on (gathered switch_in (opening es))) clip (gathered stop_in (opening es)) front e back

-- the claim: for every output rate that a player can be made for, whatever tolerances it is made with, without a ramp, and every list of
-- calls on that fresh player; the one that is made for a rate alone has the defaults, and no ramp
abbrev pub LongRun : Type 0
LongRun =
    (rate : Float) (options : PlayerOptions) → options.ramp ≡ 0 → T (fits binary32 rate) → T (valid_rate rate)
    → (calls : List Call) → T (all_typed calls)
    → (h : Premises rate (accepted (fresh_with rate options) calls)) → Holds rate options (accepted (fresh_with rate options) calls) h.clip
