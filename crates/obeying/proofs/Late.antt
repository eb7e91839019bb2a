-- A block of number 2 ^ 45 or later is refused with 13: at every allowed rate its time is over 2 ^ 30. Assumes nothing.
use Rattle.std.proofs.Common.{◌≡◌, ℕ, ◌*◌, ◌^◌, ◌<◌, ◌≤◌, Bool, true, false, not, ◌&&◌, ◌||◌, T, length, pos, sym, refl, ◌∙◌, subst, mul-le-mul_right, mul-one, arith, lit<, lit≤, lt-ltb, leb-true}
use lib.Ieee as ieee
use lib.Ieee.{Float, fin, binary64, div, lt, le}
use lib.Ieee.Exact.{HasValue}
use lib.Ieee.Fits.{and_l, and_r}
use lib.Ieee.Order.{round_mono}
use lib.Ieee.Positive.{num, den, positive, den_pos, own_value, value_pos, values_of_le, between}
use lib.Ieee.Scale.{finite}
use Rattle.rounding.specs.Rounding.{whole}
use Rattle.rounding.proofs.Compare.{lt_at, le_at}
use Rattle.rounding.proofs.Error.{RoundedAny}
use Rattle.rounding.proofs.Exact.{whole_exact}
use Rattle.rounding.proofs.Operations.{div_at, div_near_any}
use Rattle.buffer.specs.Limits.{valid_rate}
use Rattle.buffer.specs.declared.refusals.Refusal.TheVariants as refused
use Rattle.seconds.specs.Seconds.{float_zero, one}
use Rattle.player.specs.Block.{latest, bad_block_time, checked, rendered}
use Rattle.player.specs.declared.Player.{Player}
use Rattle.std.specs.Prelude.{Err}
use Rattle.obeying.specs.declared.Session.{Session}
use Rattle.obeying.specs.Obeying.{most_blocks, counted, block_time, after_block, played}
use Rattle.obeying.specs.Statement.{LateBlocks}

holds : (t : Bool) → T t → t ≡ true
holds true h = refl
holds false h = absurd h

-- ---- an allowed rate is N / D, from 3,000 to 768,000
record Rate (r : Float) : Type 0 where
  sure : T (positive r)
  low : 3000 * den r ≤ num r
  high : num r ≤ 768000 * den r

rate_of : (r : Float) → valid_rate r ≡ true → Rate r
unfolding valid_rate ieee.of_int
rate_of r v =
    let lowest = fin false 375 (pos 3) in
    let highest = fin false 375 (pos 11) in
    let t : T (valid_rate r) = subst T (sym v) tt in
    let l : T (le lowest r) = and_l (le lowest r) (le r highest) t in
    let h : T (le r highest) = and_r (le lowest r) (le r highest) t in
    let p : T (positive r) = between lowest r highest tt tt l h in
    record {
      sure = p;
      low = rw mul-one at (values_of_le lowest r 3000 1 (num r) (den r) tt p (refl, refl) (own_value r p) l);
      high = rw mul-one at (values_of_le r highest (num r) (den r) 768000 1 p tt (own_value r p) (refl, refl) h);
    }

-- ---- 2 ^ 52 by it is over 2 ^ 30
abbrev top : ℕ
top = 128 * most_blocks

under : (e n d : ℕ) → 2 ^ 53 ≤ e → 3000 * d ≤ n → 0 < d → top * d < e * (n * 1)
under e n d h low some = omega (arith, mul-le-mul_right (n * 1) h)

over : (k q : ℕ) → 0 < k → 2 ^ 31 * k ≤ q * 1 → 2 ^ 30 * k < q * 1
over k q some h = omega arith

module _ (r : Float) (a : Rate r) where
  some : 0 < num r
  some = value_pos r (num r) (den r) a.sure (den_pos r) (own_value r a.sure)

  exact : HasValue (whole top) false top 1
  exact = whole_exact binary64 top (lit≤ tt)

  quotient : RoundedAny binary64 (div binary64 (whole top) r) (top * den r) (num r * 1)
  quotient = div_near_any binary64 (whole top) r top 1 (num r) (den r) (lit< tt) (den_pos r) exact (own_value r a.sure) some (under (2 ^ 1023) (num r) (den r) (lit≤ tt) a.low (den_pos r))

  mono : T (le (whole (2 ^ 31)) (div binary64 (whole top) r))
  unfolding ieee.of_int
  mono = rw (div_at binary64 (whole top) r top 1 (num r) (den r) (lit< tt) (den_pos r) exact (own_value r a.sure) some) (round_mono binary64 (2 ^ 31) 1 (top * den r) (num r * 1) (lit< tt) (omega (arith, some)) (omega (arith, a.high)))

  late : lt latest (div binary64 (whole top) r) ≡ true
  late =
      let q = quotient.units in
      let above : 2 ^ 31 * 2 ^ 1074 ≤ q * 1 = leb-true _ _ (sym (le_at (whole (2 ^ 31)) (div binary64 (whole top) r) (2 ^ 31) 1 q (2 ^ 1074) (lit< tt) (lit< tt) (whole_exact binary64 (2 ^ 31) (lit≤ tt)) quotient.value) ∙ holds _ mono) in
      lt_at latest (div binary64 (whole top) r) (2 ^ 30) 1 q (2 ^ 1074) (lit< tt) (lit< tt) (refl, refl) quotient.value ∙ lt-ltb (2 ^ 30 * 2 ^ 1074) (q * 1) (over (2 ^ 1074) q (lit< tt) above)

-- ---- the block call
bad_time_lem : (p : Player) (t : Float) → lt latest t ≡ true → bad_block_time p t ≡ true
unfolding bad_block_time
bad_time_lem p t h = rw h (go (not (finite t)) (lt t float_zero) (p.has_block && le t p.block_time.0))
  where
    go : (a b d : Bool) → (a || b || true || d) ≡ true
    go true b d = refl
    go false true d = refl
    go false false d = refl

turned_down : (p : Player) (words samples : ℕ) (t : Float) → words ≡ 4096 → bad_block_time p t ≡ true → rendered 128 p words samples t one one ≡ Err refused.Time
unfolding rendered checked
turned_down p words samples t whole bad = rw (whole, bad)

late_time : (s : Session) → valid_rate s.player.sample_rate ≡ true → most_blocks ≤ s.number → lt latest (block_time s) ≡ true
unfolding block_time
late_time s v h =
    let most : counted s.number ≡ most_blocks = omega arith in
    rw most (late s.player.sample_rate (rate_of s.player.sample_rate v))

pub late_blocks : LateBlocks
unfolding played after_block
late_blocks samples s words v size h = rw (turned_down s.player (length words) (length samples) (block_time s) size (bad_time_lem s.player (block_time s) (late_time s v h)))
