-- The lines of the other channels are still to come.
use Rattle.std.proofs.Common.{◌≡◌}
use Rattle.std.specs.Iterator.Adapters.{enumerate_source, enumerate_count, take_source, take_count}
use Rattle.std.specs.Slice.Iter.{chunks_rest, chunks_size}
use Rattle.text.specs.Lines.{channel_lines}
use Rattle.text.proofs.Texts.{Printing}
use Rattle.text.proofs.printing.Text.channels.Given as goal

abbrev pub invariant-loop-channel : goal.invariant-loop-channel
invariant-loop-channel l =
    let numbered = l.channel-iterator in
    let parts = enumerate_source numbered in
    Printing l.initial.self l.self (channel_lines (take_count parts) (enumerate_count numbered) (chunks_rest (take_source parts))) (channel_lines l.channels 0 l.words)
    × (chunks_size (take_source parts) ≡ 128)
