-- The answer of the staircase's call for C (docs/REFERENCE.md, 'Staircase' and 'Refusals'). Definitions only.
use Rattle.std.specs.Prelude.{Result, Ok, Err}
use Rattle.buffer.specs.Refusals.{number}
use Rattle.buffer.specs.declared.refusals.Refusal.{Refusal}
use Rattle.staircase.specs.Staircase.{blank}
use Rattle.staircase.specs.declared.Track.{Track}
use Rattle.netthimble.specs.declared.staircases.Tracked.{Tracked}

-- the track and 0, or the refusal's number beside a track of no trials
abbrev pub tracked_for : Result Track Refusal → Tracked
tracked_for (Ok track) = record { track = track; refusal = 0 }
tracked_for (Err refused) = record { track = blank; refusal = number refused }
