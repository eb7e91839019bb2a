-- Files that can be mended by hand (docs/REFERENCE.md, 'Mending'). They meet the premises of what is stated about mended files.
use Rattle.std.specs.Prelude.{◌≡◌, true, false, List, [], ◌∷◌, ◌++◌, ℕ, take, replicate, Ok, Err}
use Rattle.buffer.specs.declared.refusals.Refusal.TheVariants as refused
use Rattle.clip.specs.Reading.{read_with_onset}
use Rattle.clip.specs.Statement.{Below}
use Rattle.clip.specs.Known.{old_clip, new_clip, header}
use Rattle.mending.specs.Mending.{mended, mend_answer, mend_out}
use Rattle.mending.specs.Statement.{unaltered}

-- the words below 256 as bytes
unfoldable pub small_words : List ℕ → List ℕ
small_words [] = []
small_words (w ∷ ws) = w ∷ 0 ∷ 0 ∷ 0 ∷ small_words ws

-- two channels at 48,000 with the old header: the frame count, the second channel's offset, and the words behind the header
abbrev pub stereo : ℕ → ℕ → List ℕ → List ℕ
stereo frames second words =
    0x14 ∷ 0 ∷ 2 ∷ 0 ∷ frames ∷ 0 ∷ 0 ∷ 0 ∷ 0 ∷ 0x80 ∷ 0x3B ∷ 0x47 ∷ small_words (0x14 ∷ second ∷ words)

-- three frames, 1 2 3 and 4 5 6, in 44 bytes
abbrev pub sound : List ℕ
sound = stereo 3 0x20 (1 ∷ 2 ∷ 3 ∷ 4 ∷ 5 ∷ 6 ∷ [])

-- the same without its last five bytes
abbrev pub cut : List ℕ
cut = take 39 sound

-- and with a word for each channel and a byte more
abbrev pub grown : List ℕ
grown = sound ++ (small_words (7 ∷ 8 ∷ []) ++ (9 ∷ []))

-- one frame of one channel at 48,000 with an onset, as two frames without their last byte leave it
abbrev pub one_left : List ℕ
one_left =
    0x14 ∷ 0 ∷ 1 ∷ 0 ∷ 1 ∷ 0 ∷ 0 ∷ 0 ∷ 0 ∷ 0x80 ∷ 0x3B ∷ 0x47 ∷ 0 ∷ 0 ∷ 0 ∷ 0 ∷ 0x14 ∷ 0 ∷ 0 ∷ 0 ∷ 0 ∷ 0 ∷ 0 ∷ 0 ∷ []

-- a file of a header's length and a channel count, two bytes each, and zeros: so the rate is refused
abbrev pub no_rate : ℕ → ℕ → ℕ → ℕ → ℕ → List ℕ
no_rate length_low length_high channels_low channels_high rest = length_low ∷ length_high ∷ channels_low ∷ channels_high ∷ replicate rest 0

pub record KnownMendings : Type 0 where
  -- two frames remain of three: the second channel's start was the first one's third frame
  pub cut_answer : mend_answer cut 39
      ≡ Ok (record { length = 36; tail_size = 3; marks = record { frames = true; offsets = true; tail = true; onset = false } })
  pub cut_bytes : Below 256 cut
  pub cut_mended : mended cut ≡ stereo 2 0x1C (1 ∷ 2 ∷ 3 ∷ 4 ∷ [])
  -- the three bytes behind the result stay
  pub cut_out : mend_out (mend_answer cut 39) cut (replicate 39 0xFF) ≡ stereo 2 0x1C (1 ∷ 2 ∷ 3 ∷ 4 ∷ []) ++ (0xFF ∷ 0xFF ∷ 0xFF ∷ [])
  -- a file that grew
  pub grown_answer : mend_answer grown 53
      ≡ Ok (record { length = 52; tail_size = 1; marks = record { frames = true; offsets = true; tail = true; onset = false } })
  pub grown_mended : mended grown ≡ stereo 4 0x24 (1 ∷ 2 ∷ 3 ∷ 4 ∷ 5 ∷ 6 ∷ 7 ∷ 8 ∷ [])
  -- leftover bytes alone: no frame count, no offset changes
  pub tail_answer : mend_answer (sound ++ (9 ∷ [])) 45
      ≡ Ok (record { length = 44; tail_size = 1; marks = record { frames = false; offsets = false; tail = true; onset = false } })
  -- an onset at frame 1 of the one frame that is left becomes frame 0; the one channel's offset stays
  pub onset_answer : mend_answer (take 27 (new_clip 0x47 1)) 27
      ≡ Ok (record { length = 24; tail_size = 3; marks = record { frames = true; offsets = false; tail = true; onset = true } })
  pub onset_mended : mended (take 27 (new_clip 0x47 1)) ≡ one_left
  -- an onset past the end of a file of the right length becomes the last frame
  pub past_answer : mend_answer (new_clip 0x47 2) 28
      ≡ Ok (record { length = 28; tail_size = 0; marks = record { frames = false; offsets = false; tail = false; onset = true } })
  pub past_mended : mended (new_clip 0x47 2) ≡ new_clip 0x47 1
  -- a sound clip
  pub sound_read : read_with_onset old_clip ≡ Ok (record { header = header 1 16; onset = 0 })
  pub sound_bytes : Below 256 old_clip
  pub sound_answer : mend_answer old_clip 20 ≡ Ok (unaltered 20)
  pub sound_mended : mended old_clip ≡ old_clip
  -- 15: no bytes, under 4 bytes, a cut header, the length of another form, and a length that would fit if it wrapped at 65,536
  pub no_bytes : mend_answer [] 0 ≡ Err refused.Layout
  pub three_bytes : mend_answer (take 3 old_clip) 3 ≡ Err refused.Layout
  pub cut_header : mend_answer (take 15 old_clip) 15 ≡ Err refused.Layout
  pub other_length : mend_answer (no_rate 18 0 1 0 30) 34 ≡ Err refused.Layout
  pub not_wrapped : mend_answer (no_rate 12 0 0 64 30) 34 ≡ Err refused.Layout
  -- 1 before 2, 2 before 21, 21 before 8
  pub no_channels : mend_answer (no_rate 12 0 0 0 8) 12 ≡ Err refused.Shape
  pub many_channels : mend_answer (no_rate 144 0 33 0 140) 144 ≡ Err refused.Shape
  pub rate_refused : mend_answer (no_rate 16 0 1 0 12) 16 ≡ Err refused.Rate
  pub nothing_left : mend_answer (take 19 old_clip) 0 ≡ Err refused.NothingLeft
  pub lent_shorter : mend_answer old_clip 19 ≡ Err refused.Length
