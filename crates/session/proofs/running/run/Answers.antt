-- By hand: what was read was taken, and the rest of the input comes behind it.
use Rattle.std.proofs.Common.{rules, [], ◌++◌, take, replicate, refl, sym}
use Rattle.session.specs.Feeding.{after, spoken}
use Rattle.session.proofs.KnownBytes.{appends_none, consumes_none, consumes_then, consumes_end}
use Rattle.session.proofs.Written.{ran_more, cut_more, ran_cut, whole_told, last_cut, front_told, on_err, on_err_map, on_ok_map}
use Rattle.session.proofs.running.run.Goals as goal

pub loop-init : goal.loop-init
unfolding after spoken
loop-init g c = (refl, sym c.out_buffer-out.ensures, ([], consumes_none _, record { grown = appends_none _; carried = refl }))

pub returns-in_err-n-clause-front : goal.returns-in_err-n-clause-front
returns-in_err-n-clause-front g c =
    let (_, _, (done, read, ran)) = c.loop.invariant in
    on_err _ _ (front_told c.args.samples.now c.args.session (replicate 64 0) done _ _ _ _ refl read (ran_cut c.args.samples.now _ _ done _ _ ran))

pub returns-then-n-eq0-clause-whole : goal.returns-then-n-eq0-clause-whole
returns-then-n-eq0-clause-whole g c =
    let (full, _, (done, read, ran)) = c.loop.invariant in
    let end = c.in_ok-n.ensures.bytes.1 c.if-n-eq0.true (search rules) in
    let all = consumes_end _ _ _ done c.read.new.buf c.in_ok-n.n read c.in_ok-n.ensures.bytes.0 c.if-n-eq0.true in
    on_ok_map _ _ c.close.result (λ last. whole_told c.args.samples.now c.args.session (replicate 64 0) done _ _ _ _ _ _ refl all end ran last) c.close.ensures.ok

pub returns-then-n-eq0-clause-front : goal.returns-then-n-eq0-clause-front
returns-then-n-eq0-clause-front g c =
    let (_, _, (done, read, ran)) = c.loop.invariant in
    let end = c.in_ok-n.ensures.bytes.1 c.if-n-eq0.true (search rules) in
    let all = consumes_end _ _ _ done c.read.new.buf c.in_ok-n.n read c.in_ok-n.ensures.bytes.0 c.if-n-eq0.true in
    on_err_map _ _ c.close.result (λ last. last_cut c.args.samples.now c.args.session (replicate 64 0) done _ _ _ _ _ _ refl all end ran last) c.close.ensures.err

pub returns-in_err-state-clause-front : goal.returns-in_err-state-clause-front
returns-in_err-state-clause-front g c =
    let (_, _, (done, read, ran)) = c.loop.invariant in
    let bytes = take c.in_ok-n.n c.read.new.buf in
    let all = consumes_then _ _ _ done bytes read c.in_ok-n.ensures.bytes.0 in
    on_err _ _ (front_told c.args.samples.now c.args.session (replicate 64 0) (done ++ bytes) _ _ _ _ refl all (cut_more c.args.samples.now _ _ done bytes _ _ _ ran c.in_err-state.ensures.err))

pub loop-preserved : goal.loop-preserved
loop-preserved g c =
    let (full, room, (done, read, ran)) = c.loop.invariant in
    let bytes = take c.in_ok-n.n c.read.new.buf in
    let more = c.in_ok-state.ensures.ok in
    let all = consumes_then _ _ _ done bytes read c.in_ok-n.ensures.bytes.0 in
    (search rules, search rules, (done ++ bytes, all, ran_more c.args.samples.now _ _ _ done bytes _ _ _ ran more.grown more.carried))

pub returns-clause-front : goal.returns-clause-front
returns-clause-front g c =
    let (_, _, (done, read, ran)) = c.loop.invariant in
    front_told c.args.samples.now c.args.session (replicate 64 0) done _ _ _ _ refl read (ran_cut c.args.samples.now _ _ done _ _ ran)
