-- By hand: the answer by what is held, and the output whose front is the mended file.
use Rattle.std.proofs.Common.{rules, ◌≡◌, refl, sym, ◌+◌, ◌-◌, ◌*◌, List, ℕ, length, Ok, arith}
use Rattle.buffer.specs.Answers.{after_checks}
use Rattle.clip.proofs.HeaderWords.{over_front}
use Rattle.mending.specs.Mending.{mended_length, mended, marks_of, mend_checks, mend_answer}
use Rattle.mending.specs.Held.{held_of}
use Rattle.mending.specs.Passed.{Mendable, mend_passes}
use Rattle.mending.specs.declared.Marks.{Marks}
use Rattle.mending.proofs.Again.{pass_mend}
use Rattle.mending.proofs.Frames.{fits, length_is}
use Rattle.mending.proofs.mend.Goals as goal

answered : (file : List ℕ) (lent n : ℕ) (marks : Marks) → Mendable file lent → n ≡ mended_length file → marks ≡ marks_of file
    → Ok (record { length = n; tail_size = length file - n; marks = marks }) ≡ mend_answer file lent
answered file lent n marks k size is = rw (pass_mend file lent k, size, is) refl

pub returns-clause-answer : goal.returns-clause-answer
returns-clause-answer c =
    let file = c.args.file.now in
    let lent = length c.args.out.now in
    let held = c.in_ok-held.held in
    let taken : after_checks (mend_checks file lent) (held_of file) ≡ Ok held = search rules in
    let p = mend_passes file lent (held_of file) held taken in
    let size : held.start + 4 * c.from.result * c.from-channels.result ≡ mended_length file =
    rw (c.from.ensures, c.from-channels.ensures, ← p.1) refl
    in
    let below = λ (i : ℕ). (c.type_inv.file i).fits in
    let long : length (mended file) ≡ mended_length file = length_is file lent below p.0 in
    let within = (fits file lent below p.0).0 in (
      answered file lent _ c.marks.result p.0 size c.marks.ensures,
      rw (c.write_mended.ensures, size, ← long) (sym (over_front (mended file) c.args.out.now (omega (arith, long, within, p.0.lent_all)))),
    )
