-- `reshape::resampling::Places::write_all` meets its contract: each channel's part has the block's frames put into it. Assumes nothing.
-- By hand: the parts' law asks for a definition that only the caller knows.
use Rattle.std.proofs.Common.{ℕ, List, ◌∙◌, arith, rules}
use Rattle.lists.specs.Parts.{put, length-put}
use Rattle.lists.specs.Table.{table, length_table}
use Rattle.buffer.specs.Channels.{channel}
use Rattle.reshape.specs.Places.{at_places}
use Rattle.reshape.proofs.resampling.Places.write_all.Goals as goal

pub returns : goal.returns
returns c =
    let args = c.args in
    let it = args.channels in
    let block : ℕ → List ℕ = λ k. table args.count (at_places args.self.now.frame args.self.now.fraction (channel it.samples.now it.frames k)) in
    c.write_parts.ensures (λ k part. put args.first args.count (block k) part)
    (λ part k after below long gave. search rules)
    (λ k part below long. length-put args.first args.count (block k) part (omega (arith, c.requires.within, long))
    (length_table args.count (at_places args.self.now.frame args.self.now.fraction (channel it.samples.now it.frames k))) ∙ long)
