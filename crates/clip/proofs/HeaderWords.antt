-- A header as words, and the file's bytes as the layout has them. Assumes nothing.
use mathlib.Core.Path.{◌≡◌, refl, ap, sym, ◌∙◌}
use mathlib.Core.List.{List, [], ◌∷◌, ◌++◌, append-nil, append_assoc}
use Prim.Native.Nat.{ℕ, zero, suc, ◌+◌, ◌*◌, ◌/◌, ◌%◌, ◌≤◌, ◌<◌}
use native.Mathlib.Nat.{mul-le-mul, le_of_suc-le-suc, not-suc-le-zero, mul-suc}
use native.Mathlib.Omega.{arith}
use lib.ListN.{length, take, drop, drop_of_length-le}
use Rattle.std.proofs.Common.{take_all}
use Rattle.lists.specs.Table.{table, length_table, over, over_whole}
use Rattle.clip.specs.Layout.{bytes, words}
use Rattle.clip.proofs.Words.{length_words}

-- where a channel starts is a number that fits
pub starts_bound : (frames c : ℕ) → frames < 65536 → c < 32 → 4 * frames * c ≤ 8388608
starts_bound frames c few below =
    let four : 4 * frames ≤ 262144 = omega arith in
    let narrow : c ≤ 32 = omega arith in
    mul-le-mul four narrow

-- the front of a table
pub take_table : (k n : ℕ) (f : ℕ → ℕ) → k ≤ n → take k (table n f) ≡ table k f
unfolding table
take_table zero n f h = refl
take_table (suc k) zero f h = absurd (not-suc-le-zero h)
take_table (suc k) (suc n) f h = ap (λ (r : List ℕ). f zero ∷ r) (take_table k n (λ i. f (suc i)) (le_of_suc-le-suc h))

-- the bytes of the first words
pub take_words : (k : ℕ) (ws : List ℕ) → take (4 * k) (words ws) ≡ words (take k ws)
unfolding words bytes
take_words zero ws = refl
take_words (suc k) [] =
    let e : 4 * suc k ≡ suc (suc (suc (suc (4 * k)))) = omega (arith, mul-suc 4 k) in
    rw e refl
take_words (suc k) (w ∷ ws) =
    let e : 4 * suc k ≡ suc (suc (suc (suc (4 * k)))) = omega (arith, mul-suc 4 k) in
    rw e (ap (λ (r : List ℕ). bytes 4 w ++ r) (take_words k ws))

-- the elements that are copied over a list, and then those that it had there
pub over_front : (front l : List ℕ) → length front ≤ length l → over front l ≡ front ++ drop (length front) l
unfolding over
over_front front l h = rw (take_all (length l) front h) refl

-- words over a list of just their bytes, and over one that has room for the first k of them
pub written_whole : (ws l : List ℕ) → length l ≡ 4 * length ws → over (words ws) l ≡ words ws
written_whole ws l h = over_whole (words ws) l (h ∙ sym (length_words ws))

pub written_front : (k n : ℕ) (f : ℕ → ℕ) (l : List ℕ) → k ≤ n → length l ≡ 4 * k → over (words (table n f)) l ≡ words (table k f)
unfolding over
written_front k n f l few room =
    let whole : length (words (table n f)) ≡ 4 * n = length_words (table n f) ∙ ap (λ m. 4 * m) (length_table n f) in
    let none : drop (length (words (table n f))) l ≡ [] = drop_of_length-le l {i = length (words (table n f))} (omega (arith, whole, room, few)) in
    rw (none, append-nil, room, take_words k (table n f), take_table k n f few) refl

-- two numbers of two bytes as one word
pub two_halves : (low high : ℕ) → low < 65536 → high < 65536 → bytes 4 (low + 65536 * high) ≡ bytes 2 low ++ bytes 2 high
unfolding bytes
two_halves low high a b =
    let one : (low + 65536 * high) % 256 ≡ low % 256 = omega arith in
    let two : (low + 65536 * high) / 256 % 256 ≡ low / 256 % 256 = omega arith in
    let three : (low + 65536 * high) / 256 / 256 % 256 ≡ high % 256 = omega arith in
    let four : (low + 65536 * high) / 256 / 256 / 256 % 256 ≡ high / 256 % 256 = omega arith in
    rw (one, two, three, four) refl

-- a header's four words and its offsets
pub header_words : (low high frames rate onset : ℕ) (rest : List ℕ) → low < 65536 → high < 65536
    → words ((low + 65536 * high) ∷ (frames ∷ (rate ∷ (onset ∷ [])))) ++ rest
    ≡ bytes 2 low ++ (bytes 2 high ++ (bytes 4 frames ++ (bytes 4 rate ++ (bytes 4 onset ++ rest))))
unfolding words
header_words low high frames rate onset rest a b =
    rw (two_halves low high a b, append-nil) (simp append_assoc refl)
