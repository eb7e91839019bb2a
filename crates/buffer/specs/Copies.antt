-- Copies out of and into a channel, as copyFromChannel() and copyToChannel() of the W3C Web Audio API do
-- (docs/REFERENCE.md, 'Buffers and copies'). nb is the frames of the channel, k the offset in frames, and nf the length of the lent slice.
use Rattle.std.specs.Prelude.{ℕ, ◌-◌, min, cond, not, List, ◌++◌, take, drop, nat_lt}
use Rattle.lists.specs.Parts.{put}
use Rattle.buffer.specs.declared.refusals.Refusal.TheVariants as refused
use Rattle.buffer.specs.Limits.{valid_shape}
use Rattle.buffer.specs.Answers.{Answer, accepted, refusal}
use Rattle.buffer.specs.declared.refusals.Refusal.{Refusal}
use Rattle.std.specs.Prelude.{Result, Ok, Err}
-- a channel's frames, which a copy moves
pub use Rattle.buffer.specs.Channels.{channel}

-- how many frames are copied: max(0, min(nb − k, nf)). The difference of two naturals is 0 where k is above nb
abbrev pub count : ℕ → ℕ → ℕ → ℕ
count nb k nf = min (nb - k) nf

-- the answer of each copy: 1 and 3, then the count
unfoldable pub copied : ℕ → ℕ → ℕ → ℕ → ℕ → ℕ → Result ℕ Refusal
copied channels frames len number offset nf =
    cond (not (valid_shape channels frames len)) (Err refused.Shape)
    (cond (not (nat_lt number channels)) (Err refused.Channel)
    (Ok (count frames offset nf)))

-- the destination after copyFromChannel(), by the answer: n frames from the offset on, and behind them what it held
abbrev pub copied_out : Answer ℕ → List ℕ → ℕ → List ℕ → List ℕ
copied_out (accepted n) frames offset destination = take n (drop offset frames) ++ drop n destination
copied_out (refusal number) frames offset destination = destination

-- the samples after copyToChannel(), by the answer: the source's first n elements stand from `at` on, and all else is what it was
abbrev pub copied_in : Answer ℕ → List ℕ → ℕ → List ℕ → List ℕ
copied_in (accepted n) source at samples = put at n (take n source) samples
copied_in (refusal number) source at samples = samples
