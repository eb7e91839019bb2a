-- What is known of mended files and of sound ones. Assumes nothing.
use mathlib.Core.Path.{◌≡◌, subst}
use mathlib.Core.List.{List}
use Prim.Native.Nat.{ℕ}
use native.Mathlib.Omega.{arith}
use Rattle.std.specs.Prelude.{Ok}
use Rattle.clip.specs.Statement.{Below}
use Rattle.mending.specs.Mending.{mended_length, tail_size, marks_of, mend_answer}
use Rattle.mending.specs.Passed.{mend_passes}
use Rattle.mending.specs.Statement.{IsMended, MendedClips}
use Rattle.mending.specs.declared.Mended.{Mended}
use Rattle.mending.proofs.Frames.{fits, no_more, length_is}
use Rattle.mending.proofs.Again.{sound_answer, sound_bytes, same_form, same_frames, accepted, again, again_bytes}
use Rattle.mending.proofs.Marked.{marked, kept}

mends : (file : List ℕ) (lent : ℕ) (m : Mended) → Below 256 file → mend_answer file lent ≡ Ok m → IsMended file m
mends file lent m below e =
    let own : Mended = record { length = mended_length file; tail_size = tail_size file; marks = marks_of file } in
    let p = mend_passes file lent own m e in
    let k = p.0 in
    let w = fits file lent below k in
    let is : IsMended file own =
    record {
      held = w.0;
      no_more = no_more file lent below k;
      length_is = length_is file lent below k;
      tail_is = omega (arith, w.0);
      tail_fits = omega (arith, w.0, w.1);
      onset_stays = λ h. omega (arith, h);
      onset_lowered = λ h. omega (arith, h);
      marked = marked file lent below k;
      kept = kept file lent below k;
      same_form = same_form file lent below k;
      accepted = accepted file lent below k;
      same_frames = same_frames file lent below k;
      again = again file lent below k;
      again_bytes = again_bytes file lent below k;
    }
    in
    subst (λ x. IsMended file x) p.1 is

pub mended_clips : MendedClips
mended_clips = record { mends = mends; sound = λ file read below e. (sound_answer file read below e, sound_bytes file read below e) }
