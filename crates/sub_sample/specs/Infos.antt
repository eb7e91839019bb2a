-- docs/REFERENCE.md, 'Sub-sample block': what its samples play, in three arrays: a frame, a fraction and a present flag for each.
-- n is the block length. Definitions only.
use Rattle.std.specs.Prelude.{false, cond, ℕ, get_or, Float, Option, None, Some, is_some}
use Rattle.std.specs.Float.{nan}
use Rattle.lists.specs.Table.{table}
use Rattle.seconds.specs.Seconds.{float_zero}
use Rattle.sub_sample.specs.SubSample.{info_of, info_of_sample, head_at}
use Rattle.sub_sample.specs.declared.Settings.{Settings}
use Rattle.sub_sample.specs.declared.Playhead.{Playhead}
use Rattle.sub_sample.specs.declared.PlaybackInfo.{PlaybackInfo}
use Rattle.sub_sample.specs.declared.Infos.{Infos}

-- what sample i plays in a block whose first playhead is h
abbrev pub info_in : Settings → Playhead → ℕ → Option PlaybackInfo
info_in s h i = info_of_sample s i (head_at s h i)

-- the frame and the fraction of a sample that plays nothing are 0
abbrev pub frame_of : Option PlaybackInfo → ℕ
frame_of None = 0
frame_of (Some info) = info.prev_frame_index.0

abbrev pub fraction_of : Option PlaybackInfo → Float
fraction_of None = float_zero
fraction_of (Some info) = info.k

abbrev pub infos_of : ℕ → Settings → Playhead → Infos
infos_of n s h = record {
  frame = table n (λ i. frame_of (info_in s h i));
  fraction = table n (λ i. fraction_of (info_in s h i));
  present = table n (λ i. is_some (info_in s h i));
}

-- what stands in the arrays for sample i
abbrev pub entry : Infos → ℕ → Option PlaybackInfo
entry infos i = cond (get_or infos.present i false) (Some (info_of (get_or infos.frame i 0) (get_or infos.fraction i nan))) None
