-- By hand: what was read of the input tells what all of it does.
use Rattle.std.proofs.Common.{rules, ◌≡◌, ◌≤◌, ◌<◌, length, subst, ℕ, [], Ok, replicate, ◌∙◌}
use Rattle.std.specs.Io.KnownBytes.{Appends, IsAtEnd}
use lib.ListN.{length-replicate}
use Rattle.text.specs.Lines.{refusal_text}
use Rattle.session.proofs.Written.{on_ok_map}
use Rattle.loading.specs.Playing.{file_room}
use Rattle.mend.specs.Told.{told, report}
use Rattle.mend.proofs.Longer.{told_long, report_long, ok_of, of_all}
use Rattle.mend.proofs.mend.Goals as goal

empty_long : length {A = ℕ} (replicate 65537 0) ≡ file_room
empty_long = length-replicate {A = ℕ} 65537 0

pub returns-clause-whole : goal.returns-clause-whole
returns-clause-whole g c =
    let n = c.read_front-n.result.0 in
    let after = g.R.Read.remaining c.read_front-n.new.file in
    let long : length c.read_front-n.new.bytes ≡ file_room = c.read_front-n.auto.bytes ∙ empty_long in
    let within : n ≤ file_room = subst (λ k. n ≤ k) empty_long c.read_front-n.ensures.bound in
    let was : c.read_front-n.result.1 ≡ Ok c.in_ok-read.field-0 = search rules in
    let end = ok_of (n < length (replicate {A = ℕ} 65537 0) → IsAtEnd after) c.read_front-n.result.1 c.in_ok-read.field-0 was c.read_front-n.ensures.whole in
    on_ok_map _ _ c.mend_bytes.result
    (of_all told [] told_long (g.R.Read.remaining c.args.input.now) after c.read_front-n.new.bytes n
    (Appends (g.W.Write.contents c.args.output.now) (g.W.Write.contents c.mend_bytes.new.output)) long within c.read_front-n.ensures.front
    (subst (λ k. n < k → IsAtEnd after) empty_long end)) c.mend_bytes.ensures.whole

pub returns-clause-reported : goal.returns-clause-reported
returns-clause-reported g c =
    let n = c.read_front-n.result.0 in
    let after = g.R.Read.remaining c.read_front-n.new.file in
    let long : length c.read_front-n.new.bytes ≡ file_room = c.read_front-n.auto.bytes ∙ empty_long in
    let within : n ≤ file_room = subst (λ k. n ≤ k) empty_long c.read_front-n.ensures.bound in
    let was : c.read_front-n.result.1 ≡ Ok c.in_ok-read.field-0 = search rules in
    let end = ok_of (n < length (replicate {A = ℕ} 65537 0) → IsAtEnd after) c.read_front-n.result.1 c.in_ok-read.field-0 was c.read_front-n.ensures.whole in
    on_ok_map _ _ c.mend_bytes.result
    (of_all report (refusal_text 15) report_long (g.R.Read.remaining c.args.input.now) after c.read_front-n.new.bytes n
    (Appends (g.E.Write.contents c.args.errors.now) (g.E.Write.contents c.mend_bytes.new.errors)) long within c.read_front-n.ensures.front
    (subst (λ k. n < k → IsAtEnd after) empty_long end)) c.mend_bytes.ensures.reported
