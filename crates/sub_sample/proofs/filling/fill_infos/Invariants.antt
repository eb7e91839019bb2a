-- `sub_sample::filling::fill_infos` meets its contract. The invariant: the playhead is the one before sample i, the first i entries of each array are
-- filled, and the samples before the starting one are counted. Assumes nothing.
use Rattle.std.proofs.Common.{◌≡◌, ◌≤◌}
use Rattle.std.specs.Prelude.{is_some}
use Rattle.lists.specs.Table.{filled}
use Rattle.sub_sample.specs.SubSample.{head_at, before_start}
use Rattle.sub_sample.specs.Infos.{info_in, frame_of, fraction_of}
use Rattle.sub_sample.proofs.filling.fill_infos.Given as goal

abbrev pub invariant-loop-i : goal.invariant-loop-i
invariant-loop-i l =
    (l.head ≡ head_at l.s l.initial.head l.i)
    × (l.frame ≡ filled l.i (λ k. frame_of (info_in l.s l.initial.head k)) l.initial.frame)
    × (l.fraction ≡ filled l.i (λ k. fraction_of (info_in l.s l.initial.head k)) l.initial.fraction)
    × (l.present ≡ filled l.i (λ k. is_some (info_in l.s l.initial.head k)) l.initial.present)
    × (l.before_start ≡ before_start l.s l.initial.head l.i)
    × (l.before_start ≤ l.i)
