-- The table obeys the rule: a test that antt computes, a hundred entries at a time, and one law that joins two parts. Assumes nothing.
use mathlib.Core.Path.{sym, ◌∙◌, subst}
use mathlib.Core.Bool.{Bool, true, false, ◌&&◌}
use mathlib.Core.List.{List, [], ◌∷◌}
use Prim.Native.Nat.{ℕ, zero, suc, ◌+◌, ◌^◌, ◌<◌}
use native.Mathlib.Nat.{add-zero, zero-add, add-suc, suc-add, le_of_suc-le-suc, not-suc-le-zero}
use lib.Dec.{T, leb, ltb, leb→le, ltb→lt}
use lib.ListN.{get_or, drop}
use lib.Pow.{pow-lt}
use native.Mathlib.Omega.{arith}
use Rattle.lists.specs.Powers.{root_le}
use lib.Ieee.Fits.{and_i, and_l, and_r}
use Rattle.detune.specs.Detune.{Rule}
use Rattle.detune.specs.Table.{entries}

-- the rule at entry f of c cents, as a test
unfoldable right : ℕ → ℕ → Bool
right c f = leb (f ^ 1200) (2 ^ (c + 36000)) && ltb (2 ^ (c + 36000)) ((f + 1) ^ 1200)

rule : (c f : ℕ) → T (right c f) → Rule c f
unfolding right
rule c f t =
    let low = leb (f ^ 1200) (2 ^ (c + 36000)) in
    let high = ltb (2 ^ (c + 36000)) ((f + 1) ^ 1200) in
    (leb→le _ _ (and_l low high t), ltb→lt _ _ (and_r low high t))

-- the test passes at each of the first n entries of the list, the first being that of c cents
unfoldable every : ℕ → ℕ → List ℕ → Bool
every zero c l = true
every (suc n) c [] = false
every (suc n) c (f ∷ fs) = right c f && every n (suc c) fs

join : (m n c : ℕ) (l : List ℕ) → T (every m c l) → T (every n (c + m) (drop m l)) → T (every (m + n) c l)
unfolding every
join zero n c l first rest = subst (λ (d : ℕ). T (every d c l)) (sym (zero-add n)) (subst (λ (d : ℕ). T (every n d l)) (add-zero c) rest)
join (suc m) n c [] first rest = absurd first
join (suc m) n c (f ∷ fs) first rest =
    subst (λ (d : ℕ). T (every d c (f ∷ fs))) (sym (suc-add m n))
    (and_i (right c f) (every (m + n) (suc c) fs) (and_l (right c f) (every m (suc c) fs) first)
    (join m n (suc c) fs (and_r (right c f) (every m (suc c) fs) first)
    (subst (λ (d : ℕ). T (every n d (drop m fs))) (add-suc c m ∙ sym (suc-add c m)) rest)))

at : (n c : ℕ) (l : List ℕ) → T (every n c l) → (k : ℕ) → k < n → T (right (c + k) (get_or l k 0))
unfolding every
at zero c l t k h = absurd (not-suc-le-zero h)
at (suc n) c [] t k h = absurd t
at (suc n) c (f ∷ fs) t zero h = subst (λ (d : ℕ). T (right d f)) (sym (add-zero c)) (and_l (right c f) (every n (suc c) fs) t)
at (suc n) c (f ∷ fs) t (suc k) h =
    subst (λ (d : ℕ). T (right d (get_or fs k 0))) (suc-add c k ∙ sym (add-suc c k))
    (at n (suc c) fs (and_r (right c f) (every n (suc c) fs) t) k (le_of_suc-le-suc h))

-- ---- the table's parts
part0 : T (every 100 0 entries)
unfolding right every entries
part0 = tt

part1 : T (every 100 100 (drop 100 entries))
unfolding right every entries
part1 = tt

part2 : T (every 100 200 (drop 200 entries))
unfolding right every entries
part2 = tt

part3 : T (every 100 300 (drop 300 entries))
unfolding right every entries
part3 = tt

part4 : T (every 100 400 (drop 400 entries))
unfolding right every entries
part4 = tt

part5 : T (every 100 500 (drop 500 entries))
unfolding right every entries
part5 = tt

part6 : T (every 100 600 (drop 600 entries))
unfolding right every entries
part6 = tt

part7 : T (every 100 700 (drop 700 entries))
unfolding right every entries
part7 = tt

part8 : T (every 100 800 (drop 800 entries))
unfolding right every entries
part8 = tt

part9 : T (every 100 900 (drop 900 entries))
unfolding right every entries
part9 = tt

part10 : T (every 100 1000 (drop 1000 entries))
unfolding right every entries
part10 = tt

part11 : T (every 100 1100 (drop 1100 entries))
unfolding right every entries
part11 = tt

whole : T (every 1200 0 entries)
whole =
    join 1100 100 0 entries (join 1000 100 0 entries (join 900 100 0 entries (join 800 100 0 entries (join 700 100 0 entries (join 600 100 0 entries (join 500 100 0 entries (join 400 100 0 entries (join 300 100 0 entries (join 200 100 0 entries (join 100 100 0 entries part0 part1) part2) part3) part4) part5) part6) part7) part8) part9) part10) part11

pub obeys : (c : ℕ) → c < 1200 → Rule c (get_or entries c 0)
obeys c h = rule c (get_or entries c 0) (subst (λ (d : ℕ). T (right d (get_or entries c 0))) (zero-add c) (at 1200 0 entries whole c h))

-- an entry has 31 digits
pub entry_below : (c : ℕ) → c < 1200 → get_or entries c 0 < 2 ^ 31
entry_below c h =
    let top : 2 ^ (c + 36000) < 2147483648 ^ 1200 = pow-lt {i = c + 36000} {j = 37200} (omega (arith, h)) in
    let t = root_le 1200 {f = get_or entries c 0} {g = 2147483647} (obeys c h).0 top in
    omega (arith, t)
