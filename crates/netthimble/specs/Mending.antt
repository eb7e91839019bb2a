-- The answer of mending a clip file, for C (docs/REFERENCE.md, 'Mending' and 'Refusals'): what was altered and 0, or the refusal's number
-- beside zeros. Definitions only.
use Rattle.std.specs.Prelude.{false, Result, Ok, Err}
use Rattle.buffer.specs.Refusals.{number}
use Rattle.buffer.specs.declared.refusals.Refusal.{Refusal}
use Rattle.mending.specs.declared.Mended.{Mended}
use Rattle.netthimble.specs.declared.clip_mending.MendedClip.{MendedClip}

abbrev pub mended_for : Result Mended Refusal → MendedClip
mended_for (Ok m) = record { length = m.length; tail_size = m.tail_size; marks = m.marks; refusal = 0 }
mended_for (Err refused) = record {
  length = 0;
  tail_size = 0;
  marks = record { frames = false; offsets = false; tail = false; onset = false };
  refusal = number refused;
}
