-- `player::output::write_channels`: a turn of the loop.
-- By hand: it was not proved that the loop's invariant holds; what the call promises is asked for a definition that the caller names.
use Rattle.std.proofs.Common.{rules, arith, ◌≡◌, ◌<◌, ◌*◌, length}
use Rattle.lists.specs.Parts.{length_part}
use Rattle.buffer.specs.Channels.{channel, length_channel}
use Rattle.player.proofs.Written.{turn_of}
use Rattle.player.proofs.output.write_channels.Goals as goal

pub loop-c-preserved : goal.loop-c-preserved
loop-c-preserved g c sample gives =
    let it = c.args.channels in
    let below : c.loop-c.c < it.count = c.loop-c-test.true in
    let its : c.unwrap-channel.result.now ≡ channel it.samples.now it.frames c.loop-c.c = search rules in
    let few : c.loop-c.c < 32 = search rules in
    let so_far = c.loop-c.invariant sample gives in
    let whole : length c.args.out.now ≡ 4096 = search rules in
    let size : length c.unwrap-channel.result.now ≡ it.frames = rw its (length_channel _ _ it.count _ (omega (arith, it.valid.full)) below) in
    let full : length c.loop-c.out ≡ 4096 = search rules in
    turn_of sample it.frames it.samples.now c.args.out.now whole c.loop-c.c c.loop-c.out _ _ few so_far its
    (gives _ _ _ (length_part (128 * c.loop-c.c) 128 c.loop-c.out (omega (arith, full))) size c.write.ensures)
