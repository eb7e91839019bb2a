-- The two readers: the old one refuses the new header, and of any other file they say the same. Assumes nothing.
use mathlib.Core.Path.{◌≡◌, refl, ap, sym, ◌∙◌}
use mathlib.Core.Bool.{Bool, true, false, cond}
use mathlib.Core.List.{List}
use Prim.Native.Nat.{ℕ}
use native.Mathlib.Omega.{arith}
use lib.Dec.{eqb}
use borrow.Author.Tests.{eqb-true}
use Rattle.std.specs.Prelude.{◌⊎◌, Result, Ok, Err}
use Rattle.std.proofs.Common.{inl, inr}
use Rattle.buffer.specs.declared.refusals.Refusal.{Refusal}
use Rattle.buffer.specs.declared.refusals.Refusal.TheVariants as refused
use Rattle.clip.specs.Layout.{header_length}
use Rattle.clip.specs.Reading.{length_field, channels_field, number, is_layout, form_of}
use Rattle.clip.specs.Reading.{clip_read, read_as, read_with_onset, header_read, frames_read, frames_read_with_onset}
use Rattle.clip.specs.Statement.{at_zero, TwoReaders}
use Rattle.clip.specs.declared.ClipHeader.{ClipHeader}
use Rattle.clip.specs.declared.WithOnset.{WithOnset}
use Rattle.clip.specs.declared.Form.{Form}
use Rattle.clip.specs.declared.Form.TheVariants as form
use Rattle.clip.proofs.LaidOut.{laid_out}
use Rattle.clip.specs.Passed.{passes}
use Rattle.clip.proofs.Accepted.{old_reads}

new_told : (b : Bool) → cond b form.New form.Old ≡ form.New → b ≡ true
new_told true e = refl
new_told false e = cc

-- the new header's length
pub new_length : (file : List ℕ) → form_of file ≡ form.New → length_field file ≡ header_length form.New (channels_field file)
new_length file e = eqb-true _ _ (new_told (eqb (length_field file) (header_length form.New (channels_field file))) e)

refused_by_old : (file : List ℕ) → form_of file ≡ form.New → clip_read file ≡ Err refused.Layout
unfolding clip_read
refused_by_old file e = go (is_layout form.Old file) refl
  where
    go : (b : Bool) → is_layout form.Old file ≡ b → clip_read file ≡ Err refused.Layout
    go false p = rw p refl
    go true p = absurd (omega (arith, (laid_out form.Old file p).header, new_length file e))

-- the old header has no onset: its number is 0
no_onset : (r : Result WithOnset Refusal) → ((w : WithOnset) → r ≡ Ok w → w.onset ≡ 0) → r ≡ at_zero (header_read r)
no_onset (Ok w) h = rw (← h w refl) refl
no_onset (Err refusal) h = refl

onset_read : (file : List ℕ) (w : WithOnset) → read_as form.Old file ≡ Ok w → w.onset ≡ 0
unfolding read_as number
onset_read file w e = ap (λ (x : WithOnset). x.onset) (sym (passes _ _ _ _ _ w e).1)

as_old : (file : List ℕ) → form_of file ≡ form.Old → read_with_onset file ≡ at_zero (clip_read file)
as_old file e = rw (e, old_reads file) (no_onset (read_as form.Old file) (onset_read file))

frames_as_old : (file : List ℕ) (n : ℕ) → form_of file ≡ form.Old → frames_read_with_onset file n ≡ frames_read file n
frames_as_old file n e = rw (e, old_reads file) refl

one_of : (f : Form) → (f ≡ form.Old) ⊎ (f ≡ form.New)
one_of form.Old = inl refl
one_of form.New = inr refl

same : (file : List ℕ) (h : ClipHeader) (read : WithOnset) → clip_read file ≡ Ok h → read_with_onset file ≡ Ok read → read ≡ record { header = h; onset = 0 }
same file h read old new = go (one_of (form_of file))
  where
    go : (form_of file ≡ form.Old) ⊎ (form_of file ≡ form.New) → read ≡ record { header = h; onset = 0 }
    go (inl e) = let both : Ok read ≡ Ok (record { header = h; onset = 0 }) = sym new ∙ as_old file e ∙ ap at_zero old in cc
    go (inr e) = let no : Ok h ≡ Err refused.Layout = sym old ∙ refused_by_old file e in cc

pub two_readers : TwoReaders
two_readers = record { refused_by_old = refused_by_old; as_old = as_old; frames_as_old = frames_as_old; same = same }
