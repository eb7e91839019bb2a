-- What is written of a file that is mended, and of one that is refused. Assumes nothing.
use mathlib.Core.Path.{◌≡◌, refl, ap, sym, ◌∙◌, subst}
use mathlib.Core.List.{List, []}
use Prim.Native.Nat.{ℕ, ◌≤◌}
use native.Mathlib.Omega.{arith}
use lib.ListN.{length, replicate, length-replicate, take, drop}
use lib.Seq.{length-take-le, take_at}
use Rattle.std.specs.Prelude.{Option, Ok, Err}
use Rattle.lists.specs.Table.{over}
use Rattle.buffer.specs.Refusals.{number}
use Rattle.buffer.specs.declared.refusals.Refusal.{Refusal}
use Rattle.clip.specs.Statement.{Below}
use Rattle.clip.proofs.HeaderWords.{over_front}
use Rattle.text.specs.Lines.{refusal_text}
use Rattle.session.specs.Running.{AppendsFront}
use Rattle.session.proofs.KnownBytes.{appends_none}
use Rattle.mending.specs.Mending.{mended, mend_answer}
use Rattle.mending.specs.Statement.{IsMended}
use Rattle.mending.specs.declared.Mended.{Mended}
use Rattle.mending.proofs.MendedClips.{mended_clips}
use Rattle.mend.specs.Told.{told, report, report_of}

-- as much of the room as the file is long
pub room_long : (k : ℕ) → k ≤ 65537 → length (take k (replicate {A = ℕ} 65537 0)) ≡ k
room_long k fits = length-take-le k (replicate {A = ℕ} 65537 0) (subst (λ n. k ≤ n) (sym (length-replicate {A = ℕ} 65537 0)) fits)

-- nothing is written
pub front_none : (u : Option (List ℕ)) (t : List ℕ) → AppendsFront u u t
front_none u t = record { front = []; rest = t; whole = refl; grown = appends_none u }

module _ (file out : List ℕ) (m : Mended) (below : Below 256 file) (long : length out ≡ length file) (e : Ok m ≡ mend_answer file (length out)) where
  own : mend_answer file (length file) ≡ Ok m
  own = ap (mend_answer file) (sym long) ∙ sym e

  is : IsMended file m
  is = mended_clips.mends file (length file) m below own

  pub made_of : take m.length (over (mended file) out) ≡ told file
  made_of =
      let i = is in
      let fits : length (mended file) ≤ length out = omega (arith, i.length_is, i.tail_is, long) in
      ap (take m.length) (over_front (mended file) out fits) ∙ take_at (mended file) (drop (length (mended file)) out) m.length i.length_is ∙ rw own refl

  pub report_made : report_of file (take m.length (over (mended file) out)) m.marks ≡ report file
  report_made = ap (λ l. report_of file l m.marks) made_of ∙ rw own refl

module _ (file out : List ℕ) (r : Refusal) (long : length out ≡ length file) (e : Err r ≡ mend_answer file (length out)) where
  refused : mend_answer file (length file) ≡ Err r
  refused = ap (mend_answer file) (sym long) ∙ sym e

  pub none_told : told file ≡ []
  none_told = rw refused refl

  pub report_refused : report file ≡ refusal_text (number r)
  report_refused = rw refused refl
