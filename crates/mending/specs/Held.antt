-- What is mended of a file, as the code carries it. Definitions only.
use Rattle.std.specs.Prelude.{ℕ, List}
use Rattle.clip.specs.Reading.{channels_field, rate_field, form_of}
use Rattle.mending.specs.Mending.{header_of_file, frames_held, mended_onset}
use Rattle.mending.specs.declared.Held.{Held}

abbrev pub held_of : List ℕ → Held
held_of file = record {
  form = form_of file;
  channels = channels_field file;
  frames = frames_held file;
  rate_bits = rate_field file;
  onset = mended_onset file;
  start = header_of_file file;
}
