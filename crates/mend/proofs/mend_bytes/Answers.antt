-- By hand: what is written is the mended file's bytes.
use Rattle.std.proofs.Common.{subst, ap, ◌∙◌, take}
use Rattle.std.specs.Io.KnownBytes.{Appends}
use Rattle.session.specs.Running.{AppendsFront}
use Rattle.session.proofs.Written.{on_err}
use Rattle.mend.specs.Told.{report_of}
use Rattle.mend.proofs.Made.{room_long, front_none, made_of, report_made}
use Rattle.mend.proofs.mend_bytes.Goals as goal

pub returns-in_err-text-in-Ok-clause-front : goal.returns-in_err-text-in-Ok-clause-front
returns-in_err-text-in-Ok-clause-front g c = on_err _ _ (front_none _ _)

pub returns-in_err-write_front-in-Ok-clause-front : goal.returns-in_err-write_front-in-Ok-clause-front
returns-in_err-write_front-in-Ok-clause-front g c = on_err _ _ (front_none _ _)

pub returns-in_err-refuse-in-Err-clause-front : goal.returns-in_err-refuse-in-Err-clause-front
returns-in_err-refuse-in-Err-clause-front g c = on_err _ _ (front_none _ _)

pub returns-in_err-write_front-in-Ok-2-clause-front : goal.returns-in_err-write_front-in-Ok-2-clause-front
returns-in_err-write_front-in-Ok-2-clause-front g c =
    let a = c.in-Ok.ensures.answer in
    let file = c.args.file.now in
    let is = made_of file _ c.in-Ok.mended (λ i. (c.type_inv.file i).fits) (room_long _ c.requires) a.0 in
    on_err _ _ (subst (AppendsFront _ _) (ap (take c.in-Ok.mended.length) a.1 ∙ is) c.in_err-write_front-in-Ok-2.ensures.err)

pub returns-in_ok-write_front-in-Ok-2-clause-whole : goal.returns-in_ok-write_front-in-Ok-2-clause-whole
returns-in_ok-write_front-in-Ok-2-clause-whole g c =
    let a = c.in-Ok.ensures.answer in
    let file = c.args.file.now in
    let is = made_of file _ c.in-Ok.mended (λ i. (c.type_inv.file i).fits) (room_long _ c.requires) a.0 in
    subst (Appends _ _) (ap (take c.in-Ok.mended.length) a.1 ∙ is) c.in_ok-write_front-in-Ok-2.ensures.ok

pub returns-in_ok-write_front-in-Ok-2-clause-reported : goal.returns-in_ok-write_front-in-Ok-2-clause-reported
returns-in_ok-write_front-in-Ok-2-clause-reported g c =
    let a = c.in-Ok.ensures.answer in
    let file = c.args.file.now in
    let is = report_made file _ c.in-Ok.mended (λ i. (c.type_inv.file i).fits) (room_long _ c.requires) a.0 in
    subst (Appends _ _) (c.as_bytes.ensures.value ∙ c.in_ok-text-in-Ok.ensures ∙ ap (λ l. report_of file (take c.in-Ok.mended.length l) c.in-Ok.mended.marks) a.1 ∙ is) c.in_ok-write_front-in-Ok.ensures.ok
