-- By hand: the output's length is the number of frames, so that what is stored is the whole table.
use Rattle.std.proofs.Common.{rules, ap, ◌∙◌, ℕ, ◌+◌, ◌*◌, arith}
use Rattle.lists.specs.Table.{table, filled_end}
use Rattle.pcm.specs.WholeNumbers.{size, sample_at}
use Rattle.pcm.specs.Taking.{frame_size}
use Rattle.pcm.proofs.taking.take_channel.Goals as goal

pub returns : goal.returns
returns c =
    let args = c.args in
    let at : ℕ → ℕ = λ k. sample_at args.bits args.bytes.now (frame_size args.bits args.channels * k + size args.bits * args.number) in (
      search rules,
      filled_end c.loop-i.i at args.out.now c.loop-i.out c.loop-i.invariant (omega (arith, c.loop-i-test.false, c.loop-i.auto.i-end))
          ∙ ap (λ n. table n at) c.in_ok-checked.ensures.whole.1,
    )
