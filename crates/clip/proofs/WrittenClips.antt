-- What is written is read as it was, and an accepted new clip is what the writer makes of what was read. Assumes nothing.
use mathlib.Core.Path.{◌≡◌, refl, ap, sym, subst, ◌∙◌}
use mathlib.Core.Bool.{Bool, true, false, not}
use mathlib.Core.List.{List}
use Prim.Native.Nat.{ℕ, ◌+◌, ◌*◌, ◌^◌, ◌≤◌, ◌<◌}
use native.Mathlib.Omega.{arith}
use lib.ListN.{length, drop}
use lib.Ieee.{Float, nan, inf, fin, of_bits, of_int, to_bits, le, is_nan, binary32, fits}
use lib.Ieee.Bits.{of_bits-to_bits, of_bits-fits, to_bits-lt, to_bits-of_bits}
use lib.Dec.{leb}
use borrow.Author.Tests.{leb-true, le-leb, lt-leb, lt-ltb, eq-eqb}
use Rattle.std.specs.Prelude.{T, Result, Ok, Err}
use Rattle.lists.specs.Table.{length_table}
use Rattle.buffer.specs.Limits.{valid_shape, valid_rate}
use Rattle.buffer.specs.Answers.{after_checks, passed}
use Rattle.buffer.specs.declared.Shape.{Shape}
use Rattle.buffer.specs.declared.refusals.Refusal.{Refusal}
use Rattle.buffer.specs.declared.refusals.Refusal.TheVariants as refused
use Rattle.clip.specs.Layout.{header_length, file_length, max_length}
use Rattle.clip.specs.Reading.{number, channels_field, frames_field, rate_field, onset_field, frames_from, is_layout, header_of, form_of, clip_checks}
use Rattle.clip.specs.Reading.{read_as, read_with_onset, clip_read, header_read, room_checked, frames_read_with_onset, frames_out}
use Rattle.clip.specs.Writing.{is_file, length_to_write, written}
use Rattle.clip.specs.Statement.{Below, IsClip, ReadsAs, WrittenClips, frames_of}
use Rattle.clip.specs.declared.ClipHeader.{ClipHeader}
use Rattle.clip.specs.declared.WithOnset.{WithOnset}
use Rattle.clip.specs.declared.Form.TheVariants as form
use Rattle.clip.proofs.Each.{both, split}
use Rattle.clip.proofs.Numbers.{number_lt, below_drop}
use Rattle.clip.specs.Passed.{Passed, passes}
use Rattle.clip.proofs.Accepted.{old_reads}
use Rattle.clip.proofs.Writable.{writable}
use Rattle.clip.proofs.RoundTrip.{sound, complete, length_made}
use Rattle.clip.proofs.LaidOut.{laid_out}

-- all checks pass
pub pass : {A : Type 0} (laid_out : Bool) (shape : Shape) (len onset : ℕ) (x : A) → Passed laid_out shape len onset
    → after_checks (clip_checks laid_out shape len onset) x ≡ Ok x
unfolding clip_checks
pass laid_out shape len onset x p = rw (p.layout, p.shape_fits, p.rate_fits, p.below) refl

-- what is read of a file that is laid out
pub read_by : (laid_out : Bool) (found h : ClipHeader) (m onset : ℕ) → laid_out ≡ true → found ≡ h → m ≡ onset
    → after_checks {A = WithOnset} (clip_checks laid_out found.shape (found.shape.channels * found.shape.frames) m) (record { header = found; onset = m })
    ≡ after_checks {A = WithOnset} (clip_checks true h.shape (h.shape.channels * h.shape.frames) onset) (record { header = h; onset = onset })
read_by laid_out found h m onset is same own = rw (is, same, own) refl

-- whether a call passed doesn't depend on its values
passed_same : {A B : Type 0} (c : Result Unit Refusal) (x : A) (y : B) → passed (after_checks c x) ≡ passed (after_checks c y)
passed_same (Ok tt) x y = refl
passed_same (Err refusal) x y = refl

-- a rate that is accepted is no NaN, so its pattern is the only one
no_nan : (r : Float) → valid_rate r ≡ true → T (not (is_nan r))
unfolding valid_rate of_int le is_nan
no_nan nan h = cc
no_nan (inf s) h = tt
no_nan (fin s m e) h = tt

-- ---- writing, then reading

module _ (shape : Shape) (onset : ℕ) (samples : List ℕ) (rate : T (fits binary32 shape.rate)) (small : Below (2 ^ 32) samples)
    (few : shape.frames < 2 ^ 32) (word : onset < 2 ^ 32) (full : length samples ≡ shape.channels * shape.frames)
    (held : is_file shape.channels shape.frames ≡ true) where
  abbrev C : ℕ
  C = shape.channels

  abbrev N : ℕ
  N = shape.frames

  abbrev R : ℕ
  R = to_bits binary32 shape.rate

  abbrev made : List ℕ
  made = written shape onset samples

  most : file_length form.New C N ≤ max_length
  most = leb-true (file_length form.New C N) max_length (split (leb 1 N) (leb (file_length form.New C N) max_length) held).1

  length_out : length made ≡ file_length form.New C N
  length_out = let rows : 4 * N * C ≡ 4 * (C * N) = omega arith in length_made form.New C N R onset samples ∙ omega (arith, full, rows)

  is_clip : IsClip form.New made C N R onset samples
  is_clip = record {
    laid_out = refl;
    some = leb-true 1 N (split (leb 1 N) (leb (file_length form.New C N) max_length) held).0;
    full = full;
    frames_fit = few;
    rate_fits = omega (arith, to_bits-lt binary32 shape.rate rate);
    onset_fits = omega (arith, word);
    samples_fit = small;
    short = omega (arith, length_out, most);
  }

  -- what is read of it
  module _ where
    read : (is_layout form.New made ≡ true) × (channels_field made ≡ C) × (frames_field made ≡ N) × (rate_field made ≡ R)
        × (onset_field form.New made ≡ onset) × (frames_from made (header_length form.New C) (C * N) ≡ samples)
    read = complete form.New made C N R onset samples is_clip

    new : form_of made ≡ form.New
    new = rw (eq-eqb _ _ ((laid_out form.New made read.0).header)) refl

    -- the header that is read
    abbrev header : ClipHeader
    header = record { shape = shape; rate_bits = R; start = header_length form.New C }

    own_header : header_of form.New made ≡ header
    own_header = rw (read.1, read.2, read.3, of_bits-to_bits binary32 shape.rate rate) refl

    abbrev whole : WithOnset
    whole = record { header = header; onset = onset }

    own_read : read_with_onset made ≡ after_checks (clip_checks true shape (C * N) onset) whole
    unfolding read_as
    own_read =
        ap (λ f. read_as f made) new
        ∙ read_by (is_layout form.New made) (header_of form.New made) header (onset_field form.New made) onset read.0 own_header read.4

    -- the reader's checks are the writer's
    own_checks : passed (read_with_onset made) ≡ passed (length_to_write shape (length samples) onset)
    unfolding length_to_write
    own_checks = rw (own_read, held, full) (passed_same (clip_checks true shape (C * N) onset) whole (file_length form.New C N))

    own_frames : read_with_onset made ≡ Ok whole → (out : List ℕ) → length out ≡ C * N
        → frames_out (frames_read_with_onset made (length out)) made out ≡ samples
    unfolding room_checked frames_out
    own_frames read_so out long = rw (read_so, eq-eqb (length out) (C * N) long, long) read.5

same_checks : (shape : Shape) (onset : ℕ) (samples : List ℕ) → T (fits binary32 shape.rate) → Below (2 ^ 32) samples → shape.frames < 2 ^ 32 → onset < 2 ^ 32
    → length samples ≡ shape.channels * shape.frames → is_file shape.channels shape.frames ≡ true
    → passed (read_with_onset (written shape onset samples)) ≡ passed (length_to_write shape (length samples) onset)
same_checks shape onset samples rate small few word full held = own_checks shape onset samples rate small few word full held

returns : (shape : Shape) (onset n : ℕ) (samples : List ℕ) → T (fits binary32 shape.rate) → Below (2 ^ 32) samples
    → length_to_write shape (length samples) onset ≡ Ok n
    → (length (written shape onset samples) ≡ n) × ReadsAs (written shape onset samples) shape (to_bits binary32 shape.rate) onset samples
unfolding length_to_write
returns shape onset n samples rate small taken =
    let C = shape.channels in
    let N = shape.frames in
    let p = passes (is_file C N) shape (length samples) onset (file_length form.New C N) n taken in
    let w = writable shape (length samples) onset n taken in
    let few : N < 2 ^ 32 = omega (arith, w.short) in
    let word : onset < 2 ^ 32 = omega (arith, w.below, w.short) in
    let own = whole shape onset samples rate small few word w.full p.0.layout in
    let checked : Passed true shape (C * N) onset =
    record { layout = refl; shape_fits = subst (λ k. valid_shape C N k ≡ true) w.full w.shape_fits; rate_fits = w.rate_fits; below = lt-ltb _ _ w.below }
    in
    let is : read_with_onset (written shape onset samples) ≡ Ok own =
    own_read shape onset samples rate small few word w.full p.0.layout ∙ pass true shape (C * N) onset own checked
    in (
      length_out shape onset samples rate small few word w.full p.0.layout ∙ p.1,
      record { header = is; frames = own_frames shape onset samples rate small few word w.full p.0.layout is },
    )

-- ---- reading, then writing

-- the frames that are read are channels × frames words
length_frames : (file : List ℕ) (start C N : ℕ) → length (frames_from file start (C * N)) ≡ C * N
length_frames file start C N = length_table _ _

-- the writer takes what the reader took, if the file isn't too long
taken_again : (shape : Shape) (len onset : ℕ) → 1 ≤ shape.frames → file_length form.New shape.channels shape.frames ≤ max_length
    → Passed true shape len onset → length_to_write shape len onset ≡ Ok (file_length form.New shape.channels shape.frames)
unfolding length_to_write
taken_again shape len onset some short p =
    pass (is_file shape.channels shape.frames) shape len onset (file_length form.New shape.channels shape.frames)
    (record { layout = both (le-leb _ _ some) (le-leb _ _ short); shape_fits = p.shape_fits; rate_fits = p.rate_fits; below = p.below })

-- the bits of a rate that was read
bits_again : (file : List ℕ) → Below 256 file → valid_rate (of_bits binary32 (rate_field file)) ≡ true
    → to_bits binary32 (of_bits binary32 (rate_field file)) ≡ rate_field file
bits_again file h ok = to_bits-of_bits binary32 (rate_field file) (number_lt 4 (drop 8 file) (below_drop 8 file h)) (no_nan _ ok)

made_again : (file : List ℕ) (read : WithOnset) → Below 256 file → form_of file ≡ form.New → read_with_onset file ≡ Ok read
    → (length_to_write read.header.shape (length (frames_of file read.header)) read.onset ≡ Ok (length file))
    × (written read.header.shape read.onset (frames_of file read.header) ≡ file)
unfolding read_as
made_again file read h new e =
    let C = channels_field file in
    let N = frames_field file in
    let head = header_of form.New file in
    let onset = onset_field form.New file in
    let own : read_as form.New file ≡ Ok read = ap (λ f. read_as f file) (sym new) ∙ e in
    let p = passes (is_layout form.New file) head.shape (C * N) onset (record { header = head; onset = onset }) read own in
    let size = laid_out form.New file p.0.layout in
    let full = length_frames file (header_length form.New C) C N in
    let again : Passed true head.shape (length (frames_of file head)) onset =
    record { layout = refl; shape_fits = subst (λ k. valid_shape C N k ≡ true) (sym full) p.0.shape_fits; rate_fits = p.0.rate_fits; below = p.0.below }
    in
    let short : file_length form.New C N ≤ max_length = omega (arith, size.long, size.short) in
    let clip = sound form.New file h p.0.layout in
    subst (λ (r : WithOnset). (length_to_write r.header.shape (length (frames_of file r.header)) r.onset ≡ Ok (length file))
    × (written r.header.shape r.onset (frames_of file r.header) ≡ file)) p.1 (
      taken_again head.shape (length (frames_of file head)) onset size.some short again ∙ ap Ok (sym size.long),
      rw (bits_again file h p.0.rate_fits) (sym clip.laid_out),
    )

-- what is known of an old clip that was accepted
old_passed : (file : List ℕ) (h : ClipHeader) → clip_read file ≡ Ok h
    → Passed (is_layout form.Old file) (header_of form.Old file).shape (channels_field file * frames_field file) 0 × (header_of form.Old file ≡ h)
unfolding read_as number
old_passed file h e = go (read_as form.Old file) refl (sym (old_reads file) ∙ e)
  where
    go : (r : Result WithOnset Refusal) → read_as form.Old file ≡ r → header_read r ≡ Ok h
        → Passed (is_layout form.Old file) (header_of form.Old file).shape (channels_field file * frames_field file) 0 × (header_of form.Old file ≡ h)
    go (Ok w) is p =
        let own : WithOnset = record { header = header_of form.Old file; onset = 0 } in
        let q = passes (is_layout form.Old file) own.header.shape (channels_field file * frames_field file) 0 own w is in
        (q.0, ap (λ (x : WithOnset). x.header) q.1 ∙ cc)
    go (Err refusal) is p = cc

written_again : (file : List ℕ) (h : ClipHeader) → Below 256 file → clip_read file ≡ Ok h → length file + 4 ≤ max_length
    → (length_to_write h.shape (length (frames_of file h)) 0 ≡ Ok (length file + 4))
    × ReadsAs (written h.shape 0 (frames_of file h)) h.shape h.rate_bits 0 (frames_of file h)
written_again file h below e fits_in =
    let C = channels_field file in
    let N = frames_field file in
    let head = header_of form.Old file in
    let samples = frames_of file head in
    let p = old_passed file h e in
    let size = laid_out form.Old file p.0.layout in
    let full = length_frames file (header_length form.Old C) C N in
    let again : Passed true head.shape (length samples) 0 =
    record { layout = refl; shape_fits = subst (λ k. valid_shape C N k ≡ true) (sym full) p.0.shape_fits; rate_fits = p.0.rate_fits; below = p.0.below }
    in
    let long : file_length form.New C N ≡ length file + 4 = omega (arith, size.long) in
    let short : file_length form.New C N ≤ max_length = omega (arith, long, fits_in) in
    let taken : length_to_write head.shape (length samples) 0 ≡ Ok (file_length form.New C N) =
    taken_again head.shape (length samples) 0 size.some short again
    in
    let small = (sound form.Old file below p.0.layout).samples_fit in
    let back = returns head.shape 0 (file_length form.New C N) samples (of_bits-fits binary32 (rate_field file)) small taken in
    let reads : ReadsAs (written head.shape 0 samples) head.shape head.rate_bits 0 samples =
    subst (λ b. ReadsAs (written head.shape 0 samples) head.shape b 0 samples) (bits_again file below p.0.rate_fits) back.1
    in
    subst (λ (x : ClipHeader). (length_to_write x.shape (length (frames_of file x)) 0 ≡ Ok (length file + 4))
    × ReadsAs (written x.shape 0 (frames_of file x)) x.shape x.rate_bits 0 (frames_of file x)) p.1 (taken ∙ ap Ok long, reads)

too_long : (file : List ℕ) (h : ClipHeader) → Below 256 file → clip_read file ≡ Ok h → max_length < length file + 4
    → length_to_write h.shape (length (frames_of file h)) 0 ≡ Err refused.Layout
unfolding length_to_write clip_checks
too_long file h below e over =
    let C = channels_field file in
    let N = frames_field file in
    let p = old_passed file h e in
    let size = laid_out form.Old file p.0.layout in
    let more : max_length < file_length form.New C N = omega (arith, size.long, over) in
    let no_file : is_file C N ≡ false = rw (le-leb _ _ size.some, lt-leb _ _ more) refl in
    subst (λ (x : ClipHeader). length_to_write x.shape (length (frames_of file x)) 0 ≡ Err refused.Layout) p.1 (rw no_file refl)

pub written_clips : WrittenClips
written_clips = record { same_checks = same_checks; returns = returns; made = made_again; again = written_again; too_long = too_long }
