-- By hand: what was read of the file tells what all of it does.
use Rattle.std.proofs.Common.{◌≡◌, ◌≤◌, ◌<◌, length, subst, ℕ, List, take, replicate, ◌∙◌}
use Rattle.std.specs.Io.KnownBytes.{Appends, IsAtEnd}
use lib.ListN.{length-replicate}
use Rattle.session.specs.Running.{AppendsFront}
use Rattle.session.proofs.Written.{on_ok_map, on_err_map}
use Rattle.loading.specs.Playing.{file_room, told}
use Rattle.loading.proofs.Telling.{told_whole, of_the_read}
use Rattle.loading.proofs.playing.play_file.Goals as goal

empty_long : length {A = ℕ} (replicate 65537 0) ≡ file_room
empty_long = length-replicate {A = ℕ} 65537 0

pub returns-clause-whole : goal.returns-clause-whole
returns-clause-whole g c =
    let n = c.read_front-n.result.0 in
    let after = g.F.Read.remaining c.read_front-n.new.file in
    let long : length c.read_front-n.new.bytes ≡ file_room = c.read_front-n.auto.bytes ∙ empty_long in
    let within : n ≤ file_room = subst (λ k. n ≤ k) empty_long c.read_front-n.ensures.bound in
    on_ok_map _ _ c.read_front-n.result.1
    (λ end. on_ok_map _ _ c.play.result
    (told_whole (g.F.Read.remaining c.args.file.now) after (g.R.Read.remaining c.args.input.now) c.read_front-n.new.bytes n
    (Appends (g.W.Write.contents c.args.output.now) (g.W.Write.contents c.play.new.output)) long within c.read_front-n.ensures.front
    (subst (λ k. n < k → IsAtEnd after) empty_long end)) c.play.ensures.whole)
    c.read_front-n.ensures.whole

pub returns-clause-front : goal.returns-clause-front
returns-clause-front g c =
    let n = c.read_front-n.result.0 in
    let after = g.F.Read.remaining c.read_front-n.new.file in
    let long : length c.read_front-n.new.bytes ≡ file_room = c.read_front-n.auto.bytes ∙ empty_long in
    let within : n ≤ file_room = subst (λ k. n ≤ k) empty_long c.read_front-n.ensures.bound in
    on_ok_map _ _ c.read_front-n.result.1
    (λ end. on_err_map _ _ c.play.result
    (told_whole (g.F.Read.remaining c.args.file.now) after (g.R.Read.remaining c.args.input.now) c.read_front-n.new.bytes n
    (AppendsFront (g.W.Write.contents c.args.output.now) (g.W.Write.contents c.play.new.output)) long within c.read_front-n.ensures.front
    (subst (λ k. n < k → IsAtEnd after) empty_long end)) c.play.ensures.front)
    c.read_front-n.ensures.whole

pub returns-clause-read : goal.returns-clause-read
returns-clause-read g c =
    let clip = take c.read_front-n.result.0 c.read_front-n.new.bytes in
    on_ok_map _ _ c.play.result
    (of_the_read (g.F.Read.remaining c.args.file.now) (g.F.Read.remaining c.read_front-n.new.file) (g.R.Read.remaining c.args.input.now) clip
    (λ (file lines : List ℕ). Appends (g.W.Write.contents c.args.output.now) (g.W.Write.contents c.play.new.output) (told file lines))
    c.read_front-n.ensures.front) c.play.ensures.whole

pub returns-clause-read_front : goal.returns-clause-read_front
returns-clause-read_front g c =
    let clip = take c.read_front-n.result.0 c.read_front-n.new.bytes in
    on_err_map _ _ c.play.result
    (of_the_read (g.F.Read.remaining c.args.file.now) (g.F.Read.remaining c.read_front-n.new.file) (g.R.Read.remaining c.args.input.now) clip
    (λ (file lines : List ℕ). AppendsFront (g.W.Write.contents c.args.output.now) (g.W.Write.contents c.play.new.output) (told file lines))
    c.read_front-n.ensures.front) c.play.ensures.front
