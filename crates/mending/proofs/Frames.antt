-- The frames that a file holds, and the mended file as a clip. Assumes nothing.
use Rattle.std.proofs.Common.{◌≡◌, refl, ◌∙◌, List, ℕ, ◌+◌, ◌-◌, ◌*◌, ◌/◌, ◌%◌, ◌^◌, ◌≤◌, ◌<◌, length, arith}
use native.Mathlib.Nat.{mod-lt, mod-add-div, mul-le-mul_left, mul-one, mul_comm}
use Rattle.lists.specs.Table.{length_table}
use Rattle.clip.specs.Layout.{onset_bytes, file_length}
use Rattle.clip.specs.Reading.{channels_field, rate_field, onset_field, frames_from, form_of}
use Rattle.clip.specs.Statement.{Below, IsClip}
use Rattle.clip.proofs.Numbers.{number_lt, below_drop}
use Rattle.clip.proofs.RoundTrip.{length_made, words_below}
use Rattle.mending.specs.Mending.{header_of_file, frames_held, mended_length, mended_onset, mended}
use Rattle.mending.specs.Passed.{Mendable}

-- a number is at least its whole multiples, and below one more
quotient : (n d : ℕ) → 1 ≤ d → (d * (n / d) ≤ n) × (n < d * (n / d) + d)
quotient n d some =
    let whole : n % d + d * (n / d) ≡ n = mod-add-div n d in
    let less : n % d < d = mod-lt n some in
    (omega (arith, whole), omega (arith, whole, less))

-- as many bytes stand behind the header as the frames and the tail have
pub held : (size channels n : ℕ) → 1 ≤ channels → let N = (size - n) / (4 * channels) in n ≤ size
    → (n + 4 * N * channels ≤ size) × (size < n + 4 * N * channels + 4 * channels)
held size channels n some within =
    let q = quotient (size - n) (4 * channels) (omega (arith, some)) in
    let N = (size - n) / (4 * channels) in
    let rows : 4 * N * channels ≡ 4 * channels * N = omega arith in
    (omega (arith, q.0, rows, within), omega (arith, q.1, rows, within))

module _ (file : List ℕ) (lent : ℕ) (below : Below 256 file) (k : Mendable file lent) where
  abbrev C : ℕ
  C = channels_field file

  abbrev N : ℕ
  N = frames_held file

  pub fits : (mended_length file ≤ length file) × (length file < mended_length file + 4 * C)
  fits = held (length file) C (header_of_file file) k.some k.room

  pub no_more : length file < file_length (form_of file) C (N + 1)
  no_more = omega (arith, fits.1)

  rows : 4 * N * C ≡ 4 * (C * N)
  rows = omega arith

  pub length_is : length (mended file) ≡ mended_length file
  length_is =
      let W = frames_from file (header_of_file file) (C * N) in
      let full : length W ≡ C * N = length_table _ _ in
      length_made (form_of file) C N (rate_field file) (mended_onset file) W ∙ omega (arith, rows, full)

  -- a file holds few frames
  pub few_frames : N ≤ 16381
  few_frames = omega (arith, fits.0, k.short, rows, mul-le-mul_left N k.some, mul-one N, mul_comm N C)

  onset_fits : mended_onset file < 256 ^ onset_bytes (form_of file)
  onset_fits =
      let field : onset_field (form_of file) file < 256 ^ onset_bytes (form_of file) = number_lt (onset_bytes (form_of file)) _ (below_drop 12 file below) in
      omega (arith, field)

  pub is_clip : IsClip (form_of file) (mended file) C N (rate_field file) (mended_onset file) (frames_from file (header_of_file file) (C * N))
  is_clip = record {
    laid_out = refl;
    some = k.left;
    full = length_table _ _;
    frames_fit = omega (arith, few_frames);
    rate_fits = number_lt 4 _ (below_drop 8 file below);
    onset_fits = onset_fits;
    samples_fit = words_below (C * N) (header_of_file file) file below;
    short = omega (arith, length_is, fits.0, k.short);
  }
