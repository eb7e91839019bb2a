-- Little-endian numbers and their bytes, each from the other. Assumes nothing.
use mathlib.Core.Path.{◌≡◌, refl, ap, sym, ◌∙◌}
use mathlib.Core.List.{List, [], ◌∷◌, ◌++◌}
use Prim.Native.Nat.{ℕ, zero, suc, ◌+◌, ◌*◌, ◌/◌, ◌%◌, ◌^◌, ◌≤◌, ◌<◌}
use native.Mathlib.Nat.{pow-suc, mul-le-mul, le_of_suc-le-suc, not-suc-le-zero, add-zero, mod-add-div}
use native.Mathlib.Omega.{arith}
use lib.Dec.{lit<}
use lib.ListN.{length, get_or, drop}
use lib.Seq.{get_or-drop, drop-drop, drop-append-add}
use Rattle.clip.specs.Layout.{bytes}
use Rattle.clip.specs.Reading.{number}
use Rattle.clip.specs.Statement.{Below}

pub length_bytes : (n v : ℕ) → length (bytes n v) ≡ n
unfolding bytes
length_bytes zero v = refl
length_bytes (suc n) v = ap suc (length_bytes n (v / 256))

-- the bytes of a number are skipped
pub skip : (n m v : ℕ) (rest : List ℕ) → drop (n + m) (bytes n v ++ rest) ≡ drop m rest
skip n m v rest = ap (λ k. drop (k + m) (bytes n v ++ rest)) (sym (length_bytes n v)) ∙ drop-append-add (bytes n v) rest m

pub below_drop : {bound : ℕ} (n : ℕ) (l : List ℕ) → Below bound l → Below bound (drop n l)
below_drop n l h k = rw (get_or-drop n l k 0) (h (n + k))

-- what the bytes of a number are read as
pub number_bytes : (n v : ℕ) (rest : List ℕ) → v < 256 ^ n → number n (bytes n v ++ rest) ≡ v
unfolding bytes number
number_bytes zero v rest h = omega arith
number_bytes (suc n) v rest h =
    let small : v / 256 < 256 ^ n = omega (arith, h, pow-suc 256 n, mod-add-div v 256) in
    omega (arith, number_bytes n (v / 256) rest small, mod-add-div v 256)

pub number_lt : (n : ℕ) (l : List ℕ) → Below 256 l → number n l < 256 ^ n
unfolding number
number_lt zero l h = lit< tt
number_lt (suc n) l h = omega (arith, number_lt n (drop 1 l) (below_drop 1 l h), pow-suc 256 n, h 0)

-- the bytes of what is read are those that were read
pub bytes_number : (n : ℕ) (l : List ℕ) → n ≤ length l → Below 256 l → bytes n (number n l) ++ drop n l ≡ l
unfolding bytes number
bytes_number zero l room h = refl
bytes_number (suc n) [] room h = absurd (not-suc-le-zero room)
bytes_number (suc n) (x ∷ l) room h =
    let low : (x + 256 * number n l) % 256 ≡ x = omega (arith, h 0) in
    let high : (x + 256 * number n l) / 256 ≡ number n l = omega (arith, h 0) in
    rw (low, high) (ap (λ (r : List ℕ). x ∷ r) (bytes_number n l (le_of_suc-le-suc room) (λ k. h (suc k))))

pub number_two : (file : List ℕ) (at : ℕ) → number 2 (drop at file) ≡ get_or file at 0 + 256 * get_or file (at + 1) 0
unfolding number
number_two file at =
    let a : get_or (drop at file) 0 0 ≡ get_or file at 0 = get_or-drop at file 0 0 ∙ ap (λ k. get_or file k 0) (add-zero at) in
    let b : get_or (drop 1 (drop at file)) 0 0 ≡ get_or file (at + 1) 0 =
    ap (λ (l : List ℕ). get_or l 0 0) (drop-drop 1 at file) ∙ get_or-drop (at + 1) file 0 0 ∙ ap (λ k. get_or file k 0) (add-zero (at + 1))
    in
    omega (arith, a, b)

pub number_four : (file : List ℕ) (at : ℕ) → number 4 (drop at file) ≡ number 2 (drop at file) + 65536 * number 2 (drop (at + 2) file)
unfolding number
number_four file at =
    let e : drop 1 (drop 1 (drop at file)) ≡ drop (at + 2) file = drop-drop 1 1 (drop at file) ∙ drop-drop 2 at file in
    rw e (omega arith)

-- four bytes for each of n frames in each of c channels: a number that fits
pub rows_bound : (n c : ℕ) → n < 4294967296 → c < 65536 → (4 * n * c ≤ 1125899906842624) × (c * n ≤ 281474976710656)
rows_bound n c few short =
    let four : 4 * n ≤ 17179869184 = omega arith in
    let narrow : c ≤ 65536 = omega arith in
    let less : n ≤ 4294967296 = omega arith in
    (mul-le-mul four narrow, mul-le-mul narrow less)
