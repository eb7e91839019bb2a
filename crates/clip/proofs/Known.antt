-- The known clips, by computation. Assumes nothing.
use mathlib.Core.Path.{◌≡◌, refl}
use mathlib.Core.Bool.{Bool, true, ◌&&◌}
use mathlib.Core.List.{List, [], ◌∷◌}
use Prim.Native.Nat.{ℕ, zero, suc, ◌^◌}
use lib.Dec.{ltb}
use lib.Ieee.{of_bits, of_int, to_bits, le, lt, eq, fits}
use borrow.Author.Tests.{ltb-true}
use Rattle.lists.specs.Table.{table}
use Rattle.buffer.specs.Limits.{valid_shape, valid_rate}
use Rattle.clip.specs.Layout.{bytes, words, layout}
use Rattle.clip.specs.Reading.{number, each, offsets_match, is_layout, clip_read, clip_checks, read_as}
use Rattle.clip.specs.Writing.{length_to_write}
use Rattle.clip.specs.Statement.{Below}
use Rattle.clip.specs.Known.{old_clip, new_clip, frames, KnownClips}
use Rattle.clip.proofs.Each.{split}
use Rattle.clip.proofs.Longest.{longest_read, longest_bytes, longest_length}

unfoldable pub all_below : ℕ → List ℕ → Bool
all_below bound [] = ltb 0 bound
all_below bound (x ∷ xs) = ltb x bound && all_below bound xs

pub below_all : (bound : ℕ) (l : List ℕ) → all_below bound l ≡ true → Below bound l
unfolding all_below
below_all bound [] h k = ltb-true 0 bound h
below_all bound (x ∷ xs) h zero = ltb-true x bound (split _ _ h).0
below_all bound (x ∷ xs) h (suc k) = below_all bound xs (split _ _ h).1 k

pub known_clips : KnownClips
unfolding number each offsets_match is_layout clip_read clip_checks read_as length_to_write layout bytes words table valid_shape valid_rate of_bits of_int to_bits le lt eq fits all_below
known_clips = record {
  old_by_old = refl;
  old_by_new = refl;
  old_form = refl;
  old_bytes = below_all 256 old_clip refl;
  new_by_new = refl;
  new_by_old = refl;
  new_form = refl;
  new_bytes = below_all 256 (new_clip 0x47 1) refl;
  another = refl;
  one_sound = refl;
  by_old_header = refl;
  old_sound = refl;
  past_the_frames = refl;
  rate_first = refl;
  longest_read = longest_read;
  longest_bytes = longest_bytes;
  longest_length = longest_length;
  room = refl;
  bytes_made = refl;
  f32_rate = tt;
  words = below_all (2 ^ 32) frames refl;
}
