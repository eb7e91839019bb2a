-- The bytes of numbers one after another, by their places. Assumes nothing.
use mathlib.Core.Path.{◌≡◌, refl, ap, sym, ◌∙◌}
use mathlib.Core.List.{List, [], ◌∷◌, ◌++◌}
use Prim.Native.Nat.{ℕ, suc, ◌*◌, ◌/◌, ◌%◌, ◌^◌, ◌<◌}
use native.Mathlib.Nat.{mul-suc}
use native.Mathlib.Omega.{arith}
use lib.ListN.{length, get_or}
use Rattle.std.specs.Int.{w32, to_le_bytes}
use Rattle.lists.specs.Table.{table, table_same, get_or_table}
use Rattle.clip.specs.Layout.{bytes, words}

-- the byte at place i of numbers of four bytes each
abbrev pub word_byte : List ℕ → ℕ → ℕ
word_byte ws i = get_or (bytes 4 (get_or ws (i / 4) 0)) (i % 4) 0

-- four bytes as the language gives them
pub four_bytes : (v : ℕ) → to_le_bytes w32 v ≡ bytes 4 v
unfolding bytes
four_bytes v =
    let one : v / 256 ^ 1 % 256 ≡ v / 256 % 256 = omega arith in
    let two : v / 256 ^ 2 % 256 ≡ v / 256 / 256 % 256 = omega arith in
    let three : v / 256 ^ 3 % 256 ≡ v / 256 / 256 / 256 % 256 = omega arith in
    rw (one, two, three) refl

pub word_table : (ws : List ℕ) → table (4 * length ws) (word_byte ws) ≡ words ws
unfolding table words bytes
word_table [] = refl
word_table (w ∷ ws) =
    let long : 4 * suc (length ws) ≡ suc (suc (suc (suc (4 * length ws)))) = omega (arith, mul-suc 4 (length ws)) in
    let word : (i : ℕ) → suc (suc (suc (suc i))) / 4 ≡ suc (i / 4) = λ i. omega arith in
    let place : (i : ℕ) → suc (suc (suc (suc i))) % 4 ≡ i % 4 = λ i. omega arith in
    let on : (i : ℕ) → word_byte (w ∷ ws) (suc (suc (suc (suc i)))) ≡ word_byte ws i = λ i. rw (word i, place i) refl in
    let rest = table_same (4 * length ws) (λ i. word_byte (w ∷ ws) (suc (suc (suc (suc i))))) (word_byte ws) (λ i b. on i) ∙ word_table ws in
    rw long (ap (λ (r : List ℕ). bytes 4 w ++ r) rest)

pub byte_of_words : (ws : List ℕ) (i : ℕ) → i < 4 * length ws → word_byte ws i ≡ get_or (words ws) i 0
byte_of_words ws i h =
    sym (get_or_table (4 * length ws) (word_byte ws) i 0 h) ∙ ap (λ (l : List ℕ). get_or l i 0) (word_table ws)
