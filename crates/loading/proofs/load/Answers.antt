-- By hand: frames of a clip that was accepted are not refused, and stand at the front.
use Rattle.std.proofs.Common.{rules, ◌≡◌, sym, ◌∙◌, ◌*◌, ◌≤◌, length, take, Ok, Err}
use Rattle.player.specs.Messages.{made, buffered}
use Rattle.clip.specs.Reading.{read_with_onset, frames_read_with_onset, frames_out}
use Rattle.loading.proofs.Frames.{frames_taken, loaded_by, samples_by}
use Rattle.loading.proofs.load.Goals as goal

pub returns-in_err-read_frames_with_onset : goal.returns-in_err-read_frames_with_onset
returns-in_err-read_frames_with_onset c =
    let w = c.in_ok-shape.field-0 in
    let n = w.header.shape.channels * w.header.shape.frames in
    let read : read_with_onset c.args.file.now ≡ Ok w = search rules in
    let refused : frames_read_with_onset c.args.file.now n ≡ Err c.in_err-read_frames_with_onset.field-0.0 = search rules in
    let taken = frames_taken c.args.file.now w n read (λ i. n) in
    let no : Ok w.header ≡ Err c.in_err-read_frames_with_onset.field-0.0 = sym taken ∙ refused in
    cc

pub returns : goal.returns
returns c =
    let w = c.in_ok-shape.field-0 in
    let n = w.header.shape.channels * w.header.shape.frames in
    let read : read_with_onset c.args.file.now ≡ Ok w = search rules in
    let fresh : made w.header.shape.rate ≡ Ok c.in_ok-fresh.fresh = search rules in
    let given : buffered c.in_ok-fresh.fresh w.header.shape.channels w.header.shape.frames w.header.shape.rate n ≡ Ok c.in_ok-player.player = search rules in
    let room : n ≤ length c.args.samples.now = search rules in
    let stored : c.read_frames_with_onset.new.out ≡ frames_out (frames_read_with_onset c.args.file.now n) c.args.file.now (take n c.args.samples.now) = search rules in
    record {
      answer = (
        loaded_by c.args.file.now w c.in_ok-fresh.fresh c.in_ok-player.player (length c.args.samples.now) read fresh given room,
        samples_by c.args.file.now w c.read_frames_with_onset.new.out c.args.samples.now read room stored,
      );
      fits = room;
    }
