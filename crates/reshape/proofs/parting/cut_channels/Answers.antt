-- `reshape::parting::cut_channels` meets its contract: each part is of one channel. Assumes nothing.
-- By hand: with `length-part` named on the function, `returns` is not proved.
use Rattle.std.proofs.Common.{take, drop, length-drop, length-take-le, arith, rules, mul_comm, ◌∙◌}
use Rattle.buffer.specs.Channels.{channel, length_channel}
use Rattle.reshape.proofs.parting.cut_channels.Goals as goal

pub returns : goal.returns
returns c =
    let it = c.args.channels in
    c.write_parts.ensures (λ k part. take c.args.size (drop c.args.from (channel it.samples.now it.frames k)))
    (λ part k after below long gave. search rules)
    (λ k part below long. length-take-le c.args.size (drop c.args.from (channel it.samples.now it.frames k))
    (simp length-drop (omega (arith, c.requires.within, length_channel it.samples.now it.frames it.count k (it.valid.full ∙ mul_comm it.count it.frames) below))))
