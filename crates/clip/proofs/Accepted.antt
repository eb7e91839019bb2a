-- What is known of a header that was accepted, and the old reader as the reader of the old header's form. Assumes nothing.
use mathlib.Core.Path.{◌≡◌, refl, subst}
use mathlib.Core.Bool.{Bool, true, false, not, cond}
use mathlib.Core.List.{List}
use Prim.Native.Nat.{ℕ, ◌*◌, ◌≤◌}
use native.Mathlib.Nat.{mul-le-mul}
use native.Mathlib.Omega.{arith}
use lib.Dec.{ltb}
use borrow.Author.Tests.{lt-ltb}
use Rattle.std.specs.Prelude.{Ok, Err}
use Rattle.buffer.specs.Limits.{valid_shape, valid_rate, valid}
use Rattle.buffer.specs.Answers.{after_checks}
use Rattle.buffer.specs.declared.refusals.Refusal.{Refusal}
use Rattle.clip.specs.Reading.{number, onset_field, is_layout, header_of, clip_checks, read_as, clip_read, header_read}
use Rattle.clip.specs.Passed.{passes}
use Rattle.clip.specs.declared.Form.{Form}
use Rattle.clip.specs.declared.Form.TheVariants as form
use Rattle.clip.specs.declared.ClipHeader.{ClipHeader}
use Rattle.clip.specs.declared.WithOnset.{WithOnset}
use Rattle.clip.proofs.LaidOut.{laid_out}
use Rattle.clip.proofs.RoundTrip.{one_word}

pub record Accepted (h : ClipHeader) : Type 0 where
  pub count : h.shape.channels * h.shape.frames ≤ 536870912
  pub near : h.start ≤ 144

pub accepted : (f : Form) (file : List ℕ) (w : WithOnset) → read_as f file ≡ Ok w → Accepted w.header
unfolding read_as
accepted f file w e =
    let h = header_of f file in
    let p = passes (is_layout f file) h.shape (h.shape.channels * h.shape.frames) (onset_field f file) _ _ e in
    let v = valid _ _ _ p.0.shape_fits in
    let most : h.shape.channels * h.shape.frames ≤ 32 * 16777216 = mul-le-mul v.few v.short in
    let own : Accepted h = record { count = most; near = omega (arith, v.few, one_word f) } in
    subst (λ (x : WithOnset). Accepted x.header) p.1 own

-- ---- the old reader: an onset of no bytes is 0, and below the frames

same : (a b c d : Bool) (w : WithOnset) (i j k l : Refusal) → (a ≡ true → d ≡ true)
    → cond (not a) (Err i) (cond (not b) (Err j) (cond (not c) (Err k) (Ok w.header)))
    ≡ header_read (after_checks (cond (not a) (Err i) (cond (not b) (Err j) (cond (not c) (Err k) (cond (not d) (Err l) (Ok tt))))) w)
same false b c d w i j k l h = refl
same true false c d w i j k l h = refl
same true true false d w i j k l h = refl
same true true true d w i j k l h = rw (h refl) refl

pub old_reads : (file : List ℕ) → clip_read file ≡ header_read (read_as form.Old file)
unfolding clip_read read_as clip_checks number
old_reads file =
    let h = header_of form.Old file in
    same (is_layout form.Old file) (valid_shape h.shape.channels h.shape.frames (h.shape.channels * h.shape.frames)) (valid_rate h.shape.rate) (ltb 0 h.shape.frames)
    (record { header = h; onset = 0 }) _ _ _ _ (λ ok. lt-ltb _ _ (laid_out form.Old file ok).some)
