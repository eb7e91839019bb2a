-- `reshape::resampling::resample_channels` meets its contract, by the laws of such a loop (`Blocks`). Assumes nothing.
-- By hand: with the laws named on the function none of these is proved.
use Rattle.std.proofs.Common.{◌≡◌, ℕ, ◌+◌, ◌-◌, ◌*◌, ◌/◌, ◌%◌, ◌<◌, min, subst, ◌∙◌, mul_comm, arith}
use Rattle.lists.specs.Parts.{put}
use Rattle.lists.specs.Table.{table}
use Rattle.buffer.specs.Channels.{channel}
use Rattle.reshape.specs.Places.{at_places}
use Rattle.lists.specs.Rows.{rows}
use Rattle.reshape.proofs.Blocks.{row, begun, more, done}
use Rattle.reshape.proofs.resampling.resample_channels.Goals as goal

pub loop-block-init : goal.loop-block-init
loop-block-init c =
    let args = c.args in
    let it = args.channels in
    let none : 0 ≡ min (64 * 0) args.size = omega arith in
    subst (λ (k : ℕ). args.out.now ≡ rows it.count (row args.rates.source args.rates.target it.samples.now args.out.now it.frames args.size k)) none
    (begun args.rates.source args.rates.target it.samples.now args.out.now it.count it.frames args.size (it.frames - 1) args.rates.valid.0 args.rates.valid.1
    (omega (arith, c.requires.some)) (omega (arith, it.valid.short)) (it.valid.full ∙ mul_comm it.count it.frames) c.requires.fits c.requires.short)

pub loop-block-preserved : goal.loop-block-preserved
loop-block-preserved c =
    let args = c.args in
    let it = args.channels in
    let block = c.loop-block.block in
    let n = c.min-count.result in
    let before = c.loop-block.places in
    let places = c.find.new.self in
    let below : block < args.size / 64 + min 1 (args.size % 64) = omega (arith, c.loop-block-test.true, c.div_ceil-block-end.ensures) in
    let start : min (64 * block) args.size ≡ 64 * block = omega (arith, below) in
    let end : 64 * block + n ≡ min (64 * (block + 1)) args.size = omega (arith, below, c.min-count.ensures) in
    let made = subst (λ (k : ℕ). c.loop-block.out ≡ rows it.count (row args.rates.source args.rates.target it.samples.now args.out.now it.frames args.size k)) start c.loop-block.invariant in
    let step =
    more args.rates.source args.rates.target it.samples.now args.out.now it.count it.frames args.size (it.frames - 1) args.rates.valid.0 args.rates.valid.1
    (omega (arith, c.requires.some)) (omega (arith, it.valid.short)) (it.valid.full ∙ mul_comm it.count it.frames) c.requires.fits c.requires.short
    (64 * block) n places.frame before.frame places.fraction before.fraction c.loop-block.out c.find.ensures.room.0 c.find.ensures.room.1 (omega (arith, below, c.min-count.ensures))
    c.find.ensures.frames c.find.ensures.fractions made in
    c.write_all.ensures
    ∙ subst (λ (k : ℕ). rows it.count (λ j. put (64 * block) n (table n (at_places places.frame places.fraction (channel it.samples.now it.frames j))) (channel c.loop-block.out args.size j))
    ≡ rows it.count (row args.rates.source args.rates.target it.samples.now args.out.now it.frames args.size k)) end step

pub returns : goal.returns
returns c =
    let args = c.args in
    let it = args.channels in
    let all : min (64 * c.loop-block.block) args.size ≡ args.size = omega (arith, c.loop-block-test.false, c.div_ceil-block-end.ensures) in
    done args.rates.source args.rates.target it.samples.now args.out.now it.count it.frames args.size (it.frames - 1) args.rates.valid.0 args.rates.valid.1
    (omega (arith, c.requires.some)) (omega (arith, it.valid.short)) (it.valid.full ∙ mul_comm it.count it.frames) c.requires.fits c.requires.short c.loop-block.out
    (subst (λ (k : ℕ). c.loop-block.out ≡ rows it.count (row args.rates.source args.rates.target it.samples.now args.out.now it.frames args.size k)) all c.loop-block.invariant)
