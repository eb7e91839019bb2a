-- The bounds hold, and up to entry 1,199 they leave one whole number, which so obeys the rule. Computed: two powers, and that the bounds agree. Assumes nothing.
use mathlib.Core.Path.{◌≡◌, refl, sym, ◌∙◌}
use mathlib.Core.Bool.{Bool, true, ◌&&◌}
use Prim.Native.Nat.{ℕ, zero, suc, ◌+◌, ◌*◌, ◌/◌, ◌^◌, ◌≤◌, ◌<◌}
use native.Mathlib.Nat.{le_trans, le_of_eq, lt_irrefl, lt_of_le_of_lt, lt_of_not-le, le_of_suc-le-suc, not-suc-le-zero, pow-suc, pow-le-pow_left, add-zero, zero-add, add-suc, suc-add}
use native.Mathlib.Omega.{arith}
use lib.Dec.{T, eqb, leb→le, eqb→eq}
use lib.Ieee.Fits.{and_l, and_r}
use lib.Pow.{pow_pos, pow-add, pow-lt}
use Rattle.lists.specs.Table.{table, length_table, get_or_table}
use Rattle.detune.specs.Statement.{IsTable, TheTable}
use Rattle.detune_table.specs.Bounds.{LOW, lower, upper, found}
use Rattle.detune_table.specs.Statement.{Generated}
use Rattle.detune_table.proofs.Steps.{below_next, above_next, left_low, left_high}

-- ---- the bounds hold: LOW and LOW + 1 are those of 2^(1/1200) × 2^62, and the others are multiplied on
low_holds : LOW ^ 1200 ≤ 2 * (2 ^ 62) ^ 1200
low_holds = leb→le (LOW ^ 1200) (2 * (2 ^ 62) ^ 1200) tt

high_holds : 2 * (2 ^ 62) ^ 1200 ≤ (LOW + 1) ^ 1200
high_holds = leb→le (2 * (2 ^ 62) ^ 1200) ((LOW + 1) ^ 1200) tt

low : (c : ℕ) → lower c ^ 1200 ≤ 2 ^ c * (2 ^ 62) ^ 1200
unfolding lower
low zero = le_of_eq refl
low (suc c) = rw (pow-suc 2 c) (below_next 1200 (2 ^ 62) (pow_pos 62) (lower c) LOW (2 ^ c) 2 (low c) low_holds)

high : (c : ℕ) → 2 ^ c * (2 ^ 62) ^ 1200 ≤ upper c ^ 1200
unfolding upper
high zero = le_of_eq refl
high (suc c) = rw (pow-suc 2 c) (above_next 1200 (2 ^ 62) (pow_pos 62) (upper c) (LOW + 1) (2 ^ c) 2 (high c) high_holds)

below : (c : ℕ) → lower c ^ 1200 ≤ 2 ^ (c + 74400)
below c = le_trans (low c) (le_of_eq (sym (pow-add 2 c 74400)))

above : (c : ℕ) → 2 ^ (c + 74400) ≤ upper c ^ 1200
above c = le_trans (le_of_eq (pow-add 2 c 74400)) (high c)

-- ---- a bound that is multiplied on fits a word
pub lower_fits : (c : ℕ) → c < 1200 → lower c < 2 ^ 63
lower_fits c h =
    lt_of_not-le (λ (k : 2 ^ 63 ≤ lower c). lt_irrefl (2 ^ 75600) (lt_of_le_of_lt (le_trans (pow-le-pow_left k 1200) (below c)) (pow-lt {i = c + 74400} {j = 75600} (omega arith))))

-- ---- the bounds agree
agreeing : ℕ → ℕ → ℕ → Bool
agreeing zero x y = true
agreeing (suc n) x y = eqb (x / 2 ^ 32) (y / 2 ^ 32) && agreeing n (x * LOW / 2 ^ 62) (y * (LOW + 1) / 2 ^ 62 + 1)

agreed : T (agreeing 1200 (lower 0) (upper 0))
unfolding agreeing lower upper
agreed = tt

abbrev same : ℕ → Bool
same k = eqb (lower k / 2 ^ 32) (upper k / 2 ^ 32)

agree_from : (n k c : ℕ) → T (agreeing n (lower k) (upper k)) → c < n → lower (k + c) / 2 ^ 32 ≡ upper (k + c) / 2 ^ 32
unfolding agreeing lower upper
agree_from zero k c t h = absurd (not-suc-le-zero h)
agree_from (suc n) k zero t h = rw add-zero (eqb→eq (lower k / 2 ^ 32) (upper k / 2 ^ 32) (and_l (same k) (agreeing n (lower (suc k)) (upper (suc k))) t))
agree_from (suc n) k (suc c) t h = rw add-suc (rw suc-add at (agree_from n (suc k) c (and_r (same k) (agreeing n (lower (suc k)) (upper (suc k))) t) (le_of_suc-le-suc h)))

agree : (c : ℕ) → c < 1200 → upper c / 2 ^ 32 ≡ found c
unfolding found
agree c h = sym (rw zero-add at (agree_from 1200 0 c agreed h))

-- ---- so the number found obeys the rule
obeys_low : (c : ℕ) → found c ^ 1200 ≤ 2 ^ (c + 36000)
unfolding found
obeys_low c = le_trans (left_low 1200 (2 ^ 30) (2 ^ 32) (pow_pos 32) (lower c) (upper c) (2 ^ c) (low c)) (le_of_eq (sym (pow-add 2 c 36000)))

obeys_high : (c : ℕ) → c < 1200 → 2 ^ (c + 36000) < (found c + 1) ^ 1200
unfolding found
obeys_high c h =
    rw (← agree c h)
    (lt_of_le_of_lt (le_of_eq (pow-add 2 c 36000)) (left_high 1200 (2 ^ 30) (2 ^ 32) (pow_pos 32) (lower c) (upper c) (2 ^ c) (λ z. not-suc-le-zero {n = 0} (omega arith)) (high c)))

found_is_table : IsTable (table 1200 found)
found_is_table = (length_table 1200 found, λ c h. rw (get_or_table 1200 found c 0 h) (obeys_low c, obeys_high c h))

-- what is found obeys the rule, and the table is the only list that does
pub generated : TheTable → Generated
generated the =
    let same = sym (the.only (table 1200 found) found_is_table) in
    record { below = below; above = above; agree = agree; obeys = found_is_table; only = λ l h. the.only l h ∙ same; same = same }
