-- Words one after another, and the numbers read from them. Assumes nothing.
use mathlib.Core.Path.{◌≡◌, refl, ap}
use mathlib.Core.List.{List, [], ◌∷◌, ◌++◌, append_assoc}
use Prim.Native.Nat.{ℕ, zero, suc, ◌+◌, ◌*◌, ◌^◌, ◌≤◌, ◌<◌}
use native.Mathlib.Nat.{le_of_suc-le-suc, not-suc-le-zero, mul-suc, add-zero}
use native.Mathlib.Omega.{arith}
use lib.ListN.{length, get_or, drop, length-append, length-drop}
use lib.Seq.{drop-drop}
use Rattle.lists.specs.Table.{table, table_same}
use Rattle.clip.specs.Layout.{bytes, words}
use Rattle.clip.specs.Reading.{number}
use Rattle.clip.specs.Statement.{Below}
use Rattle.clip.proofs.Numbers.{length_bytes, skip, below_drop, number_bytes, bytes_number}

pub length_words : (ws : List ℕ) → length (words ws) ≡ 4 * length ws
unfolding words
length_words [] = refl
length_words (w ∷ ws) = simp (length-append, length_bytes, length_words ws) (omega (arith, mul-suc 4 (length ws)))

-- word k
pub word_at : (ws rest : List ℕ) (k : ℕ) → k < length ws → get_or ws k 0 < 2 ^ 32 → number 4 (drop (4 * k) (words ws ++ rest)) ≡ get_or ws k 0
unfolding words
word_at [] rest k h small = absurd (not-suc-le-zero h)
word_at (w ∷ ws) rest zero h small = rw (append_assoc (bytes 4 w) (words ws) rest) (number_bytes 4 w (words ws ++ rest) small)
word_at (w ∷ ws) rest (suc k) h small =
    let e : 4 * suc k ≡ 4 + 4 * k = omega (arith, mul-suc 4 k) in
    rw (append_assoc (bytes 4 w) (words ws) rest, e, skip 4 (4 * k) w (words ws ++ rest)) (word_at ws rest k (le_of_suc-le-suc h) small)

-- the words of what is read from a place on are the bytes that stand there
pub words_numbers : (k at : ℕ) (l : List ℕ) → at + 4 * k ≤ length l → Below 256 l
    → words (table k (λ i. number 4 (drop (at + 4 * i) l))) ++ drop (at + 4 * k) l ≡ drop at l
unfolding words table
words_numbers zero at l room h = ap (λ m. drop m l) (add-zero at)
words_numbers (suc k) at l room h =
    let first : drop (at + 4 * 0) l ≡ drop at l = ap (λ m. drop m l) (add-zero at) in
    let on : (i : ℕ) → at + 4 * suc i ≡ at + 4 + 4 * i = λ i. omega (arith, mul-suc 4 i) in
    let same = table_same k (λ i. number 4 (drop (at + 4 * suc i) l)) (λ i. number 4 (drop (at + 4 + 4 * i) l)) (λ i b. ap (λ m. number 4 (drop m l)) (on i)) in
    let rest = words_numbers k (at + 4) l (omega (arith, on k)) h in
    rw (first, same, on k, append_assoc, rest, ← drop-drop 4 at l) (bytes_number 4 (drop at l) (simp length-drop (omega (arith, on k))) (below_drop at l h))
