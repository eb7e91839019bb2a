-- By hand: the samples of the clip that was sent.
use Rattle.std.proofs.Common.{◌≡◌, length, take, subst, ℕ, List, replicate}
use Rattle.std.specs.Io.KnownBytes.{Appends}
use lib.ListN.{length-replicate}
use Rattle.obeying.specs.Obeying.{session_of}
use Rattle.session.specs.Running.{AppendsFront}
use Rattle.session.specs.Transcript.{transcript, no_words}
use Rattle.session.proofs.Written.{on_ok_map, on_err_map}
use Rattle.loading.specs.Playing.{clip_room, told}
use Rattle.loading.proofs.Fronts.{some_map}
use Rattle.loading.proofs.Telling.{told_ok}
use Rattle.loading.proofs.playing.play.Goals as goal

empty_long : length {A = ℕ} (replicate 16384 0) ≡ clip_room
empty_long = length-replicate {A = ℕ} 16384 0

pub returns-in-Ok-clause-whole : goal.returns-in-Ok-clause-whole
returns-in-Ok-clause-whole g c =
    let answer = c.in-Ok.ensures.answer in
    let file = c.args.file.now in
    let same = (λ (lines : List ℕ). told_ok file (replicate 16384 0) c.load.new.samples lines c.in-Ok.count c.in-Ok.player empty_long answer.0 answer.1) in
    on_ok_map _ _ c.run.result
    (some_map (g.R.Read.remaining c.args.input.now)
    (λ lines. Appends (g.W.Write.contents c.args.output.now) (g.W.Write.contents c.run.new.output) (transcript (take c.in-Ok.count c.load.new.samples) (session_of c.in-Ok.player 0) no_words lines))
    (λ lines. Appends (g.W.Write.contents c.args.output.now) (g.W.Write.contents c.run.new.output) (told file lines))
    (λ lines p. subst (Appends (g.W.Write.contents c.args.output.now) (g.W.Write.contents c.run.new.output)) (same lines) p))
    c.run.ensures.whole

pub returns-in-Ok-clause-front : goal.returns-in-Ok-clause-front
returns-in-Ok-clause-front g c =
    let answer = c.in-Ok.ensures.answer in
    let file = c.args.file.now in
    let same = (λ (lines : List ℕ). told_ok file (replicate 16384 0) c.load.new.samples lines c.in-Ok.count c.in-Ok.player empty_long answer.0 answer.1) in
    on_err_map _ _ c.run.result
    (some_map (g.R.Read.remaining c.args.input.now)
    (λ lines. AppendsFront (g.W.Write.contents c.args.output.now) (g.W.Write.contents c.run.new.output) (transcript (take c.in-Ok.count c.load.new.samples) (session_of c.in-Ok.player 0) no_words lines))
    (λ lines. AppendsFront (g.W.Write.contents c.args.output.now) (g.W.Write.contents c.run.new.output) (told file lines))
    (λ lines p. subst (AppendsFront (g.W.Write.contents c.args.output.now) (g.W.Write.contents c.run.new.output)) (same lines) p))
    c.run.ensures.front
