-- `player::Player::play_sub_sample`: by its infos, ramped or as they are.
-- By hand: which of the two was written is told by cases.
use Rattle.std.proofs.Common.{◌≡◌, ◌∙◌, sym, refl}
use Rattle.sub_sample.specs.SubSample.{head_at, before_start, info_of_sample}
use Rattle.interpolated.specs.Interpolated.{sample_of, sample_by}
use Rattle.ramps.specs.Ramps.{ramped}
use Rattle.player.specs.Block.{written, ramp_in}
use Rattle.player.proofs.Sampled.{by_infos}
use Rattle.player.proofs.Ramped.{untouched_written}
use Rattle.player.proofs.Player.play_sub_sample.Goals.{then-touches, else-touches}
use Rattle.player.proofs.Player.play_sub_sample.Goals as goal

pub returns : goal.returns
returns c =
    let a = c.args in
    let it = a.channels in
    let filled = c.fill_infos-filled in
    let r = c.ramp_in-ramp.result in
    let u = filled.result.before_start in
    let head : filled.result.head ≡ head_at a.s a.head 128 = filled.ensures.1 in
    let before : u ≡ before_start a.s a.head 128 = filled.ensures.2 in
    let ramp : r ≡ ramp_in a.self filled.result.head.started filled.result.head.start_time.0 = c.ramp_in-ramp.ensures in
    let infos = by_infos a.s a.head (ramped r u) filled.result.infos it.frames it.samples.now a.out.now it.count filled.ensures.0 in
    let out : c.if-touches.out
    ≡ written 128 (λ l i. ramped r u i (sample_of a.s l (info_of_sample a.s i (head_at a.s a.head i)))) it.frames it.samples.now a.out.now it.count =
    elim c.if-touches.branch [
      | then-touches w ↦ w.out-is ∙ w.write_sub_sample_ramped.ensures ∙ infos
      | else-touches w ↦ w.out-is ∙ w.write_sub_sample.ensures
          ∙ untouched_written r u (sample_by a.s filled.result.infos) it.frames it.samples.now a.out.now it.count
          (sym c.touches.ensures ∙ w.if-touches.false) ∙ infos
    ] in
    rw (sym head, sym before, sym ramp) (refl, c.after.ensures, out)
