-- By hand: the byte that is stored is one of the number's four, which the numbers' bytes have at its place.
use Rattle.std.proofs.Common.{ap, ◌∙◌, List, ℕ, get_or, ◌%◌, arith}
use Rattle.lists.specs.Table.{filled_more, copied_end}
use Rattle.clip.specs.Layout.{words}
use Rattle.clip.proofs.Words.{length_words}
use Rattle.clip.proofs.WriteWords.{four_bytes, byte_of_words}
use Rattle.clip.proofs.bytes.write_words.Goals as goal

pub loop-i-preserved : goal.loop-i-preserved
loop-i-preserved c =
    filled_more c.loop-i.i (λ k. get_or (words c.args.numbers.now) k 0) c.args.out.now c.loop-i.out _ c.loop-i.invariant
    (ap (λ (l : List ℕ). get_or l (c.loop-i.i % 4) 0) (c.to_le_bytes.ensures ∙ four_bytes _)
    ∙ byte_of_words c.args.numbers.now c.loop-i.i (omega (arith, c.loop-i-test.true, c.min-count.ensures)))

pub returns : goal.returns
returns c =
    copied_end c.loop-i.i (words c.args.numbers.now) c.args.out.now c.loop-i.out 0 c.loop-i.invariant
    (omega (arith, c.loop-i-test.false, c.loop-i.auto.i-end, c.min-count.ensures, length_words c.args.numbers.now))
