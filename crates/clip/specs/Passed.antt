-- What is known where the checks of a clip pass (docs/REFERENCE.md, 'Clip file'): each has passed, and the answer is what stands behind
-- them.
use Rattle.std.specs.Prelude.{◌≡◌, Bool, true, false, not, cond, ltb, ℕ, ◌*◌, List, Ok, Err}
use Rattle.std.proofs.Common.{refl}
use Rattle.std.proofs.Math.Path.{subst}
use Rattle.buffer.specs.Limits.{valid_shape, valid_rate}
use Rattle.buffer.specs.Answers.{after_checks}
use Rattle.buffer.specs.declared.Shape.{Shape}
use Rattle.buffer.specs.declared.refusals.Refusal.{Refusal}
use Rattle.clip.specs.Reading.{is_layout, header_of, onset_field, clip_checks, read_as}
use Rattle.clip.specs.declared.Form.{Form}
use Rattle.clip.specs.declared.WithOnset.{WithOnset}

pub record Passed (laid_out : Bool) (shape : Shape) (len onset : ℕ) : Type 0 where
  pub layout : laid_out ≡ true
  pub shape_fits : valid_shape shape.channels shape.frames len ≡ true
  pub rate_fits : valid_rate shape.rate ≡ true
  pub below : ltb onset shape.frames ≡ true

checked : {A : Type 0} (a b c d : Bool) (x y : A) (i j k l : Refusal)
    → after_checks (cond (not a) (Err i) (cond (not b) (Err j) (cond (not c) (Err k) (cond (not d) (Err l) (Ok tt))))) x ≡ Ok y
    → (a ≡ true) × (b ≡ true) × (c ≡ true) × (d ≡ true) × (x ≡ y)
checked true true true true x y i j k l e = (refl, refl, refl, refl, cc)
checked true true true false x y i j k l e = (cc, cc, cc, cc, cc)
checked true true false d x y i j k l e = (cc, cc, cc, cc, cc)
checked true false c d x y i j k l e = (cc, cc, cc, cc, cc)
checked false b c d x y i j k l e = (cc, cc, cc, cc, cc)

pub passes : {A : Type 0} (laid_out : Bool) (shape : Shape) (len onset : ℕ) (x y : A)
    → after_checks (clip_checks laid_out shape len onset) x ≡ Ok y → Passed laid_out shape len onset × (x ≡ y)
unfolding clip_checks
passes laid_out shape len onset x y e =
    let p = checked laid_out (valid_shape shape.channels shape.frames len) (valid_rate shape.rate) (ltb onset shape.frames) x y _ _ _ _ e in
    (record { layout = p.0; shape_fits = p.1; rate_fits = p.2; below = p.3 }, p.4)

-- of a clip that was read
pub read_passes : (f : Form) (file : List ℕ) (read : WithOnset) → read_as f file ≡ Ok read
    → Passed (is_layout f file) read.header.shape (read.header.shape.channels * read.header.shape.frames) read.onset
unfolding read_as
read_passes f file read e =
    let h = header_of f file in
    let p = passes (is_layout f file) h.shape (h.shape.channels * h.shape.frames) (onset_field f file) _ _ e in
    subst (λ (x : WithOnset). Passed (is_layout f file) x.header.shape (x.header.shape.channels * x.header.shape.frames) x.onset) p.1 p.0
