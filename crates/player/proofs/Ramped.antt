-- A block's output with its samples multiplied: by the factors that the code works out, and where none has one. Assumes nothing.
use mathlib.Core.Path.{◌≡◌, refl, ◌∙◌, sym, ap}
use mathlib.Core.Bool.{Bool, true, false, not, ◌&&◌, cond}
use mathlib.Core.List.{List, []}
use Prim.Native.Nat.{ℕ, min}
use native.Mathlib.Omega.{arith}
use lib.ListN.{length, get_or}
use Rattle.lists.specs.Table.{table, filled, table_same, get_or_table, filled_end, length_table}
use Rattle.ramps.specs.declared.Ramp.{Ramp}
use Rattle.ramps.specs.declared.Factors.{Factors}
use Rattle.ramps.specs.Ramps.{ramped}
use Rattle.ramps.specs.Factors.{touches, AreFactors, multiplied_by}
use Rattle.ramps.proofs.Laws.{ramp_laws_lem}
use Rattle.ramps.proofs.Block.{by_factors, untouched}
use lib.Ieee.{Float}
use Rattle.ramps.specs.Ramps.{counted}
use Rattle.player.specs.declared.Player.{Player}
use Rattle.player.specs.Reports.{report_from}
use Rattle.player.specs.Record.{with_ramp}
use Rattle.player.specs.Block.{written, idle, silent, report_of, ramp_in, ramped_plan}
use Rattle.player.proofs.Written.{written_same}

-- a part of 128 samples, first written and then multiplied
pub part : (f : Factors) (sample : ℕ → ℕ) (l m o : List ℕ) → length l ≡ 128 → m ≡ table (length l) sample
    → o ≡ filled (min (length m) 128) (λ i. multiplied_by f i (get_or m i 0)) m → o ≡ table 128 (λ i. multiplied_by f i (sample i))
part f sample l m o full w e =
    let is : m ≡ table 128 sample = w ∙ ap (λ n. table n sample) full in
    let size : length m ≡ 128 = rw is (length_table 128 sample) in
    let all : min (length m) 128 ≡ length m = omega arith in
    filled_end (min (length m) 128) (λ i. multiplied_by f i (get_or m i 0)) m o e all
    ∙ ap (λ n. table n (λ i. multiplied_by f i (get_or m i 0))) size
    ∙ table_same 128 (λ i. multiplied_by f i (get_or m i 0)) (λ i. multiplied_by f i (sample i))
    (λ i b. ap (multiplied_by f i) (rw is (get_or_table 128 sample i 0 b)))

-- the same, where the first 128 samples were written
pub part_by_infos : (f : Factors) (sample : ℕ → ℕ) (l m o : List ℕ) → length l ≡ 128 → m ≡ filled (min (length l) 128) sample l
    → o ≡ filled (min (length m) 128) (λ i. multiplied_by f i (get_or m i 0)) m → o ≡ table 128 (λ i. multiplied_by f i (sample i))
part_by_infos f sample l m o full w e =
    let all : min (length l) 128 ≡ length l = omega arith in
    part f sample l m o full (filled_end (min (length l) 128) sample l m w all) e

module _ (r : Ramp) (u : ℕ) (sample : List ℕ → ℕ → ℕ) (frames : ℕ) (samples out : List ℕ) (count : ℕ) where
  -- by the factors
  pub ramped_written : (f : Factors) → AreFactors 128 r u f
      → written 128 (λ l i. multiplied_by f i (sample l i)) frames samples out count ≡ written 128 (λ l i. ramped r u i (sample l i)) frames samples out count
  ramped_written f e = written_same 128 _ _ frames samples out count (λ l i b. by_factors r u i (sample l i) b f e)

  -- no sample of the block has a factor
  pub untouched_written : touches 128 r u ≡ false
      → written 128 sample frames samples out count ≡ written 128 (λ l i. ramped r u i (sample l i)) frames samples out count
  untouched_written none = written_same 128 _ _ frames samples out count (λ l i b. sym (untouched r u i (sample l i) b none))

-- ---- a silent block
stays : {A : Type 0} (b : Bool) (x y : A) → cond (not b && b) x y ≡ y
stays true x y = refl
stays false x y = refl

pub idle_ramp : (p : Player) (start : Float) → ramp_in p p.render_state.started start ≡ p.ramp
unfolding ramp_in
idle_ramp p start = stays p.render_state.started _ p.ramp

-- it leaves the ramp as it is
pub silent_report : (p : Player) (time : Float) (ended keep : Bool)
    → report_from (idle p time ended) keep 1 ≡ report_of (ramped_plan 128 p (silent 128 (idle p time ended) keep))
unfolding ramped_plan counted idle
silent_report p time ended keep =
    sym (ap (λ (r : Ramp). report_from (with_ramp (idle p time ended) (counted 128 r 128)) keep 1) (idle_ramp p p.start_time.0))

-- and its zeros
pub silent_samples : (p : Player) (time : Float) (ended keep : Bool)
    → table 128 (λ i. 0) ≡ table 128 ((ramped_plan 128 p (silent 128 (idle p time ended) keep)).sample [])
unfolding ramped_plan
silent_samples p time ended keep = table_same 128 _ _ (λ i b. sym (ramp_laws_lem.before _ 128 i 0 b))
