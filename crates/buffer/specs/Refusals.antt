-- The refusals by their numbers (docs/REFERENCE.md, 'Refusals').
use Rattle.std.specs.Prelude.{ℕ, List, decimal}
use Rattle.buffer.specs.declared.refusals.Refusal.{Refusal}
use Rattle.buffer.specs.declared.refusals.Refusal.TheVariants as refused

abbrev pub number : Refusal → ℕ
-- any shape or samples: channels not 1 to 32, frames over the limit, or samples not channels × frames
number refused.Shape = 1
-- any rate: outside 3,000 to 768,000, or a NaN
number refused.Rate = 2
-- copy: the channel number not below the count
number refused.Channel = 3
-- extend: rates or channel counts differ
number refused.Unlike = 4
-- split: point above the frame count
number refused.Point = 5
-- 6 is retired: no call gives it
-- extend, convert: a result over the limit of frames
number refused.Long = 7
-- a lent output: not exactly the result's length
number refused.Length = 8
-- message values: not finite; or negative in start, stop
number refused.Value = 9
-- start, buffer: a second one
number refused.Second = 10
-- stop: before a start
number refused.Early = 11
-- buffer: no frames
number refused.Empty = 12
-- block: time not finite, negative, over 2^30, or not above the last accepted block's
number refused.Time = 13
-- block: rate not finite; factor a NaN or outside 2^-64 to 2^64
number refused.Speed = 14
-- clip: header, offsets or length differ from the layout; a clip to be written: no frames, or a file over 65,536 bytes
number refused.Layout = 15
-- cents: outside −12,000 to 12,000
number refused.Cents = 16
-- clip with an onset: the onset not below the frames
number refused.Onset = 17
-- tolerances, where they are made: one not finite, or outside 0 to 1
number refused.Tolerance = 18
-- ramp, where a player is made: over 48,000 frames
number refused.Ramp = 19
-- a clip file to be mended: not one frame for each channel remains
number refused.NothingLeft = 21
-- staircase: step 0 or over 20, start or threshold over 120, trials not 1 to 1,000
number refused.Staircase = 22

-- what is printed of a refusal: its number's decimal digits
abbrev pub text : Refusal → List ℕ
text refusal = decimal (number refusal)
