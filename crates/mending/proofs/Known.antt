-- The known files, by computation. Assumes nothing.
use mathlib.Core.Path.{refl}
use lib.Ieee.{of_bits, of_int, le, lt, eq}
use Rattle.lists.specs.Table.{table, over}
use Rattle.buffer.specs.Limits.{valid_shape, valid_rate}
use Rattle.clip.specs.Layout.{bytes, words, layout}
use Rattle.clip.specs.Reading.{number, each, offsets_match, is_layout, clip_checks, read_as}
use Rattle.clip.specs.Known.{old_clip}
use Rattle.clip.proofs.Known.{all_below, below_all}
use Rattle.mending.specs.Mending.{mend_checks}
use Rattle.mending.specs.Known.{small_words, cut, KnownMendings}

pub known_mendings : KnownMendings
unfolding number each offsets_match is_layout clip_checks read_as layout bytes words table over valid_shape valid_rate of_bits of_int le lt eq mend_checks small_words all_below
known_mendings = record {
  cut_answer = refl;
  cut_bytes = below_all 256 cut refl;
  cut_mended = refl;
  cut_out = refl;
  grown_answer = refl;
  grown_mended = refl;
  tail_answer = refl;
  onset_answer = refl;
  onset_mended = refl;
  past_answer = refl;
  past_mended = refl;
  sound_read = refl;
  sound_bytes = below_all 256 old_clip refl;
  sound_answer = refl;
  sound_mended = refl;
  no_bytes = refl;
  three_bytes = refl;
  cut_header = refl;
  other_length = refl;
  not_wrapped = refl;
  no_channels = refl;
  many_channels = refl;
  rate_refused = refl;
  nothing_left = refl;
  lent_shorter = refl;
}
