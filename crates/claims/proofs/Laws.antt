-- The float laws at a block of 128 samples, for one rate, as the steps of the long-run proof cite them. Assumes nothing.
use mathlib.Core.Path.{◌≡◌}
use mathlib.Core.Bool.{true, false}
use Prim.Native.Nat.{ℕ, suc, ◌+◌, ◌*◌, ◌^◌, ◌≤◌, ◌<◌}
use lib.Dec.{T, lit≤}
use lib.Ieee.{Float, binary64, add, mul, lt, le, ne, fits}
use lib.Ieee.Exact.{HasValue}
use lib.Ieee.Scale.{finite}
use Rattle.seconds.specs.Seconds.{float_zero, never, one, block_seconds, instant, block_end}
use Rattle.player.specs.Block.{latest}
use Rattle.claims.proofs.Order as order
use Rattle.claims.proofs.Position as position
use Rattle.claims.proofs.Position.{Frames, Elapsed}
use Rattle.claims.proofs.Instants as instants

-- a block's time, as the table accepts it
pub record Time (t : Float) : Type 0 where
  pub single : T (fits binary64 t)
  pub whole : finite t ≡ true
  pub some : lt t float_zero ≡ false
  pub early : lt latest t ≡ false

reckoned : (t : Float) → Time t → instants.Time t
reckoned t h = instants.time_of_lem t h.single h.whole h.some h.early

pub record Below (x y : Float) : Type 0 where
  pub lt-true : lt x y ≡ true
  pub le-false : le y x ≡ false
  pub le-true : le x y ≡ true

-- ---- closed floats
pub record Closed : Type 0 where
  pub one_one : mul binary64 one one ≡ one
  pub one_same : ne one one ≡ false
  pub one_above : lt float_zero one ≡ true
  pub one_not_below : lt one float_zero ≡ false
  pub none_same : ne float_zero float_zero ≡ false

pub closed : Closed
closed = record { one_one = position.one_one; one_same = position.one_same; one_above = (position.none_below_one).0; one_not_below = (position.none_below_one).1; none_same = (position.none_same).1 }

module _ (r : Float) (R : ℕ) (v : HasValue r false R (2 ^ 149)) (lo : 3000 * 2 ^ 149 ≤ R) (hi : R ≤ 768000 * 2 ^ 149) where
  pub frames_more : (x : Float) (j a : ℕ) → Frames r x R j a → a ≤ 16777216 → j ≤ 1048576 → Frames r (add binary64 x (block_seconds 128 r)) R (suc j) (a + 128)
  frames_more = position.frames_add r R v lo hi 7 (lit≤ tt)

  pub below : (x y : Float) (i j a b : ℕ) → Frames r x R i a → Frames r y R j b → i + j < 268435456 → a < b → Below x y
  below x y i j a b f g s h = let p = position.frames_below r x y R i j a b f g s h in record { lt-true = p.0; le-false = p.2; le-true = p.3 }

  pub elapsed_more : (x : Float) → Elapsed x → Elapsed (add binary64 x (block_seconds 128 r))
  elapsed_more = position.elapsed_add r R v lo hi 7 (lit≤ tt)

  module _ (t : Float) (h : Time t) where
    pub end_later : lt t (block_end 128 t r) ≡ true
    end_later = (instants.end_later r R v lo hi 7 (lit≤ tt) t (reckoned t h)).0

    pub instant_before : (i : ℕ) → i < 128 → lt (instant t r i) (block_end 128 t r) ≡ true
    instant_before i I = instants.instant_before_end r R v lo hi 7 (lit≤ tt) t (reckoned t h) i I

    pub end_mono : (t' : Float) → Time t' → lt t t' ≡ true → le (block_end 128 t r) (block_end 128 t' r) ≡ true
    end_mono t' k l = instants.end_mono r R v lo hi 7 (lit≤ tt) t t' (reckoned t h) (reckoned t' k) (order.lt-le t t' l)

    pub end_under : le never (block_end 128 t r) ≡ false
    end_under = (position.elapsed_under_never (block_end 128 t r) (instants.end_elapsed r R v lo hi 7 (lit≤ tt) t (reckoned t h))).0
