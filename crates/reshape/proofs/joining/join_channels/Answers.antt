-- `reshape::joining::join_channels` meets its contract: each part is a channel of `first` and one of `second`. Assumes nothing.
-- By hand: with `even` named on the function, `returns` is not proved.
use Rattle.std.proofs.Common.{◌≡◌, ℕ, ◌+◌, ◌*◌, ◌<◌, List, ◌++◌, length, ap, ◌∙◌, mul_comm, length-append, arith, rules}
use Rattle.buffer.specs.Channels.{channel, length_channel}
use Rattle.reshape.proofs.joining.join_channels.Goals as goal

even : (samples other : List ℕ) (m n count : ℕ) → length samples ≡ m * count → length other ≡ n * count
    → (k : ℕ) → k < count → length (channel samples m k ++ channel other n k) ≡ m + n
even samples other m n count full full' k h =
    length-append (channel samples m k) (channel other n k) ∙ omega (arith, length_channel samples m count k full h, length_channel other n count k full' h)

pub returns : goal.returns
returns c =
    let one = c.args.first in
    let two = c.args.second in
    c.write_parts.ensures (λ k part. channel one.samples.now one.frames k ++ channel two.samples.now two.frames k)
    (λ part k after below long gave. search rules)
    (λ k part below long. even one.samples.now two.samples.now one.frames two.frames one.count
    (one.valid.full ∙ mul_comm one.count one.frames)
    (two.valid.full ∙ mul_comm two.count two.frames ∙ ap (λ n. two.frames * n) c.requires.alike) k below)
