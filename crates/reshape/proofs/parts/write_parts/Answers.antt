-- By hand: with these laws named on the function, `loop-c-init`, `loop-c-preserved` and `returns` are not proved.
use Rattle.std.proofs.Common.{◌≡◌, ℕ, List, ◌*◌, ◌<◌, length, ap, ◌∙◌, arith}
use Rattle.lists.specs.Parts.{length_part}
use Rattle.lists.specs.Rows.{row_fits, rows_none, rows_turn, rows_end}
use Rattle.buffer.specs.Channels.{channel, length_channel}
use Rattle.reshape.proofs.Blocks.{row_still}
use Rattle.reshape.proofs.parts.write_parts.Goals as goal

-- each part is as long as it was
evenly : (size count : ℕ) (f : ℕ → List ℕ → List ℕ) (out : List ℕ) → length out ≡ size * count
    → ((c : ℕ) (part : List ℕ) → c < count → length part ≡ size → length (f c part) ≡ size)
    → (k : ℕ) → k < count → length (f k (channel out size k)) ≡ size
evenly size count f out full even k h = even k (channel out size k) h (length_channel out size count k full h)

pub loop-c-init : goal.loop-c-init
loop-c-init g c f gives even =
    let args = c.args in
    rows_none args.size args.count (λ k. f k (channel args.out.now args.size k)) args.out.now (evenly args.size args.count f args.out.now c.requires.full even)

pub loop-c-preserved : goal.loop-c-preserved
loop-c-preserved g c f gives even =
    let args = c.args in
    let row : ℕ → List ℕ = λ k. f k (channel args.out.now args.size k) in
    let same = evenly args.size args.count f args.out.now c.requires.full even in
    let taken = c.loop-c-test.true in
    let within = row_fits args.size c.loop-c.c args.count taken in
    let so_far = c.loop-c.invariant f gives even in
    let still = row_still args.size args.count row args.out.now c.loop-c.out same c.loop-c.c taken so_far in
    let made = gives _ _ _ taken (length_part (args.size * c.loop-c.c) args.size c.loop-c.out (omega (arith, c.loop-c.auto.out, c.requires.full))) c.write.ensures in
    rows_turn args.size args.count row args.out.now same _ _ _ taken so_far (made ∙ ap (f c.loop-c.c) still)

pub returns : goal.returns
returns g c f gives even =
    let args = c.args in
    rows_end args.size args.count (λ k. f k (channel args.out.now args.size k)) args.out.now (evenly args.size args.count f args.out.now c.requires.full even)
    c.loop-c.c c.loop-c.out c.requires.full (omega (arith, c.loop-c-test.false, c.loop-c.auto.c-end)) (c.loop-c.invariant f gives even)
