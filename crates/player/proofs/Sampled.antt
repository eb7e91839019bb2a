-- A sub-sample block's output by its infos is the output by what each sample plays. Assumes nothing.
use mathlib.Core.Path.{◌≡◌, refl, ap}
use mathlib.Core.List.{List}
use Prim.Native.Nat.{ℕ, ◌<◌}
use Rattle.lists.specs.Table.{get_or_table}
use Rattle.sub_sample.specs.declared.Settings.{Settings}
use Rattle.sub_sample.specs.declared.Playhead.{Playhead}
use Rattle.sub_sample.specs.declared.PlaybackInfo.{PlaybackInfo}
use Rattle.std.specs.Prelude.{false, cond, Option, None, Some, is_some}
use lib.Ieee.{nan}
use Rattle.sub_sample.specs.declared.Infos.{Infos}
use Rattle.sub_sample.specs.SubSample.{info_of, info_of_sample, head_at}
use Rattle.interpolated.specs.Interpolated.{sample_of}
use Rattle.sub_sample.specs.Infos.{info_in, infos_of, frame_of, fraction_of}
use Rattle.interpolated.specs.Interpolated.{sample_by}
use Rattle.player.specs.Block.{written}
use Rattle.player.proofs.Written.{written_same}

-- what a sample plays is what stands in the arrays for it
kept : (x : Option PlaybackInfo) → cond (is_some x) (Some (info_of (frame_of x) (fraction_of x))) None ≡ x
kept None = refl
kept (Some x) = refl

module _ (s : Settings) (h : Playhead) where
  sample_by_lem : (l : List ℕ) (i : ℕ) → i < 128
      → sample_by s (infos_of 128 s h) l i ≡ sample_of s l (info_of_sample s i (head_at s h i))
  unfolding sample_by
  sample_by_lem l i b =
      let info = info_in s h in
      rw (get_or_table 128 (λ k. frame_of (info k)) i 0 b, get_or_table 128 (λ k. fraction_of (info k)) i nan b, get_or_table 128 (λ k. is_some (info k)) i false b, kept (info i))

  -- and so what is made of it, as a ramp makes
  pub by_infos : (g : ℕ → ℕ → ℕ) (infos : Infos) (frames : ℕ) (samples out : List ℕ) (count : ℕ) → infos ≡ infos_of 128 s h
      → written 128 (λ l i. g i (sample_by s infos l i)) frames samples out count
      ≡ written 128 (λ l i. g i (sample_of s l (info_of_sample s i (head_at s h i)))) frames samples out count
  by_infos g infos frames samples out count e =
      rw e (written_same 128 _ _ frames samples out count (λ l i b. ap (g i) (sample_by_lem l i b)))
