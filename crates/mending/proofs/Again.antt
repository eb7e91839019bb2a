-- The mended file as the new reader takes it, sound files, and mending once more. Assumes nothing.
use mathlib.Core.Path.{◌≡◌, refl, ap, sym, ◌∙◌, subst}
use mathlib.Core.Bool.{true}
use mathlib.Core.List.{List}
use Prim.Native.Nat.{ℕ, ◌+◌, ◌-◌, ◌*◌, ◌/◌, ◌≤◌, ◌<◌}
use native.Mathlib.Nat.{mul-div_cancel_left}
use native.Mathlib.Omega.{arith}
use lib.Dec.{eqb}
use lib.ListN.{length}
use borrow.Author.Tests.{le-leb, eq-eqb, ne_eqb, lt-ltb, ltb-true}
use Rattle.std.specs.Prelude.{Ok}
use Rattle.buffer.specs.Limits.{valid_shape, valid}
use Rattle.clip.specs.Layout.{header_length}
use Rattle.clip.specs.Reading.{length_field, channels_field, frames_field, rate_field, onset_field, frames_from, offsets_match, is_layout, header_of, form_of, read_as, read_with_onset}
use Rattle.clip.specs.Statement.{Below}
use Rattle.clip.specs.Passed.{Passed, passes}
use Rattle.clip.specs.declared.Form.{Form}
use Rattle.clip.specs.declared.Form.TheVariants as form
use Rattle.clip.specs.declared.WithOnset.{WithOnset}
use Rattle.clip.proofs.Each.{both}
use Rattle.clip.proofs.LaidOut.{laid_out}
use Rattle.clip.proofs.Longest.{below_layout}
use Rattle.clip.proofs.RoundTrip.{sound, complete}
use Rattle.clip.proofs.WrittenClips.{pass, read_by}
use Rattle.mending.specs.Mending.{header_of_file, has_header, has_channels, frames_held, mended_length, tail_size, mended_onset, mended, mend_checks, mend_answer}
use Rattle.mending.specs.Passed.{Mendable}
use Rattle.mending.specs.Statement.{unaltered, read_of}
use Rattle.mending.proofs.Frames.{few_frames, is_clip, length_is}

-- the form of a header's length
pub form_told : (f : Form) (file : List ℕ) → length_field file ≡ header_length f (channels_field file) → form_of file ≡ f
form_told form.New file e = rw (eq-eqb _ _ e) refl
form_told form.Old file e =
    rw (ne_eqb (length_field file) (header_length form.New (channels_field file)) (λ bad. omega (arith, e, bad))) refl

-- the checks pass where each of them does
pub pass_mend : (file : List ℕ) (lent : ℕ) → Mendable file lent → mend_checks file lent ≡ Ok tt
unfolding mend_checks
pass_mend file lent k =
    let header : has_header file ≡ true = both (le-leb _ _ k.short) (both (le-leb _ _ k.room) (eq-eqb _ _ k.header)) in
    let channels : has_channels (channels_field file) ≡ true = both (le-leb _ _ k.some) (le-leb _ _ k.few) in
    rw (header, channels, k.rate, le-leb _ _ k.left, eq-eqb _ _ k.lent_all) refl

-- ---- a sound file

-- the frames of a file that is just as long as its layout
exact : (h C N : ℕ) → 1 ≤ C → (h + 4 * N * C - h) / (4 * C) ≡ N
exact h C N some =
    let four : 0 < 4 * C = omega (arith, some) in
    let size : h + 4 * N * C - h ≡ 4 * C * N = omega arith in
    rw size (mul-div_cancel_left N four)

module _ (file : List ℕ) (read : WithOnset) (below : Below 256 file) (e : read_with_onset file ≡ Ok read) where
  f : Form
  f = form_of file

  checks : Passed (is_layout (form_of file) file) (header_of (form_of file) file).shape (channels_field file * frames_field file) (onset_field (form_of file) file)
  unfolding read_as
  checks = (passes (is_layout (form_of file) file) (header_of (form_of file) file).shape (channels_field file * frames_field file) (onset_field (form_of file) file) _ _ e).0

  sound_frames : frames_held file ≡ frames_field file
  sound_frames =
      let l = laid_out (form_of file) file checks.layout in
      let v = valid _ _ _ checks.shape_fits in
      rw l.long (exact (header_of_file file) (channels_field file) (frames_field file) v.some)

  sound_onset : mended_onset file ≡ onset_field (form_of file) file
  sound_onset = let b = ltb-true _ _ checks.below in rw sound_frames (omega (arith, b))

  pub sound_bytes : mended file ≡ file
  sound_bytes =
      let s = sound (form_of file) file below checks.layout in
      rw (sound_onset, sound_frames) (sym s.laid_out)

  mendable : Mendable file (length file)
  mendable =
      let l = laid_out (form_of file) file checks.layout in
      let v = valid _ _ _ checks.shape_fits in
      record {
        short = l.short;
        room = omega (arith, l.long);
        header = l.header;
        some = v.some;
        few = v.few;
        rate = checks.rate_fits;
        left = rw sound_frames l.some;
        lent_all = refl;
      }

  pub sound_answer : mend_answer file (length file) ≡ Ok (unaltered (length file))
  sound_answer =
      let l = laid_out (form_of file) file checks.layout in
      let whole : mended_length file ≡ length file = rw sound_frames (sym l.long) in
      let none : tail_size file ≡ 0 = omega (arith, whole) in
      let frames : eqb (frames_field file) (frames_held file) ≡ true = eq-eqb _ _ (sym sound_frames) in
      let offsets : offsets_match (form_of file) file (channels_field file) (frames_held file) ≡ true = rw sound_frames l.offsets in
      let onset : eqb (onset_field (form_of file) file) (mended_onset file) ≡ true = eq-eqb _ _ (sym sound_onset) in
      rw (pass_mend file (length file) mendable, frames, offsets, onset, none, whole) refl

-- ---- a mended file

module _ (file : List ℕ) (lent : ℕ) (below : Below 256 file) (k : Mendable file lent) where
  abbrev C : ℕ
  C = channels_field file

  abbrev N : ℕ
  N = frames_held file

  abbrev F : Form
  F = form_of file

  abbrev W : List ℕ
  W = frames_from file (header_of_file file) (C * N)

  pub fields : (is_layout F (mended file) ≡ true) × (channels_field (mended file) ≡ C) × (frames_field (mended file) ≡ N) × (rate_field (mended file) ≡ rate_field file)
      × (onset_field F (mended file) ≡ mended_onset file) × (frames_from (mended file) (header_length F C) (C * N) ≡ W)
  fields = complete F (mended file) C N (rate_field file) (mended_onset file) W (is_clip file lent below k)

  pub same_frames : frames_from (mended file) (header_of_file file) (C * N) ≡ W
  same_frames = fields.5

  pub same_form : form_of (mended file) ≡ F
  same_form = form_told F (mended file) (laid_out F (mended file) fields.0).header

  shape_fits : valid_shape C N (C * N) ≡ true
  unfolding valid_shape
  shape_fits =
      let few = few_frames file lent below k in
      both (le-leb _ _ k.some) (both (le-leb _ _ k.few) (both (le-leb _ _ (omega (arith, few))) (eq-eqb (C * N) (C * N) refl)))

  pub accepted : read_with_onset (mended file) ≡ Ok (read_of file)
  unfolding read_as
  accepted =
      let head = (read_of file).header in
      let own : header_of F (mended file) ≡ head = rw (fields.1, fields.2, fields.3) refl in
      let passed : Passed true head.shape (C * N) (mended_onset file) =
      record { layout = refl; shape_fits = shape_fits; rate_fits = k.rate; below = lt-ltb _ _ (omega (arith, k.left)) }
      in
      ap (λ g. read_as g (mended file)) same_form
      ∙ read_by (is_layout F (mended file)) (header_of F (mended file)) head (onset_field F (mended file)) (mended_onset file) fields.0 own fields.4
      ∙ pass true head.shape (C * N) (mended_onset file) (read_of file) passed

  pub below_mended : Below 256 (mended file)
  below_mended = below_layout F C N (rate_field file) (mended_onset file) W

  pub again : mend_answer (mended file) (mended_length file) ≡ Ok (unaltered (mended_length file))
  again =
      subst (λ n. mend_answer (mended file) n ≡ Ok (unaltered n)) (length_is file lent below k)
      (sound_answer (mended file) (read_of file) below_mended accepted)

  pub again_bytes : mended (mended file) ≡ mended file
  again_bytes = sound_bytes (mended file) (read_of file) below_mended accepted
