-- Runs of equal words.
use Rattle.std.proofs.Common.{◌≡◌, refl, ap, sym, subst, ◌∙◌, List, [], ◌∷◌, ◌++◌, append-nil, true, false, ℕ, zero, suc, ◌+◌, ◌-◌, ◌≤◌, ◌<◌, eqb, length, length-append, get_or, take, drop, min, arith, add-zero, add-one, not-suc-le-zero}
use Rattle.std.proofs.Math.Seq.{take-append_seam, drop-append_seam, take_all}
use Rattle.std.proofs.Math.ListN.{drop_of_length-le}
use Rattle.std.specs.List.{AllAdjacentBelow, IsChunkByPrefix}
use Rattle.std.proofs.lemmas.Bool.{eq-eqb, ne_eqb, eqb-true, eqb-false}
use Rattle.std.proofs.lemmas.List.{get_or_at}
use Rattle.text.specs.Lines.{run_line, runs_from, runs, channel_lines}

-- all are x
pub Same : ℕ → List ℕ → Type 0
Same x [] = Unit {0}
Same x (y ∷ ys) = (y ≡ x) × Same x ys

-- another word comes next, if any
pub Differs : ℕ → List ℕ → Type 0
Differs x [] = Unit {0}
Differs x (y ∷ ys) = y ≡ x → ⊥

run_whole : (c f n x : ℕ) (xs rest : List ℕ) → Same x xs → Differs x rest
    → runs_from c f n x (xs ++ rest) ≡ run_line c f (n + length xs) x ++ runs c (f + (n + length xs)) rest
unfolding runs_from runs Same Differs
run_whole c f n x [] [] h d = rw (add-zero n) (sym (append-nil (run_line c f n x)))
run_whole c f n x [] (y ∷ ys) h d = rw (add-zero n, ne_eqb y x d)
run_whole c f n x (y ∷ ys) rest h d =
    let e : n + 1 + length ys ≡ n + suc (length ys) = omega arith in
    rw (eq-eqb y x h.0) (run_whole c f (n + 1) x ys rest h.1 d ∙ ap (λ k. run_line c f k x ++ runs c (f + k) rest) e)

run_more : (c f x : ℕ) (xs rest : List ℕ) → Same x xs → Differs x rest
    → runs c f ((x ∷ xs) ++ rest) ≡ run_line c f (suc (length xs)) x ++ runs c (f + suc (length xs)) rest
unfolding runs
run_more c f x xs rest h d =
    let e : 1 + length xs ≡ suc (length xs) = omega arith in
    run_whole c f 1 x xs rest h d ∙ ap (λ k. run_line c f k x ++ runs c (f + k) rest) e

-- a chunk of words of which each equals the next, and the last one not
same_from : (x : ℕ) (xs rest : List ℕ) → AllAdjacentBelow (λ a b. eqb a b ≡ true) (x ∷ (xs ++ rest)) (suc (length xs)) → Same x xs
unfolding Same
same_from x [] rest h = tt
same_from x (y ∷ ys) rest h =
    let e : y ≡ x = sym (eqb-true x y (h 0 0 (omega arith))) in
    let next : (k : ℕ) → suc k + 1 ≡ suc (k + 1) = λ k. omega arith in
    let tail : AllAdjacentBelow (λ a b. eqb a b ≡ true) (y ∷ (ys ++ rest)) (suc (length ys)) =
    λ k d low. subst (λ m. eqb (get_or (y ∷ (ys ++ rest)) k d) (get_or (x ∷ (y ∷ (ys ++ rest))) m d) ≡ true) (next k) (h (suc k) d (omega arith)) in
    (e, subst (λ a. Same a ys) e (same_from y ys rest tail))

last_same : (x d : ℕ) (xs rest : List ℕ) → Same x xs → get_or (x ∷ (xs ++ rest)) (length xs) d ≡ x
unfolding Same
last_same x d [] rest h = refl
last_same x d (y ∷ ys) rest h = rw (← h.0) (last_same y d ys rest (rw h.0 h.1))

differs_from : (x : ℕ) (xs rest : List ℕ) → Same x xs
    → (suc (length xs) < length (x ∷ (xs ++ rest)) → (d : ℕ) → eqb (get_or (x ∷ (xs ++ rest)) (length xs) d) (get_or (x ∷ (xs ++ rest)) (suc (length xs)) d) ≡ false) → Differs x rest
unfolding Differs
differs_from x xs [] h e = tt
differs_from x xs (y ∷ ys) h e =
    let k : eqb x y ≡ false =
    ap (λ a. eqb a y) (sym (last_same x 0 xs (y ∷ ys) h))
    ∙ ap (λ b. eqb (get_or (x ∷ (xs ++ (y ∷ ys))) (length xs) 0) b) (sym (get_or_at xs y ys 0 (length xs) refl))
    ∙ e (simp length-append (omega arith)) 0 in
    λ same. eqb-false x y k (sym same)

-- a turn of the loop over the chunks
pub runs_turn : (c f : ℕ) (words chunk rest : List ℕ) → words ≡ chunk ++ rest → 0 < length chunk → IsChunkByPrefix eqb words (length chunk)
    → runs c f words ≡ run_line c f (length chunk) (get_or chunk 0 0) ++ runs c (f + length chunk) rest
runs_turn c f words [] rest is some h = absurd (not-suc-le-zero some)
runs_turn c f words (x ∷ xs) rest is some h =
    let g : IsChunkByPrefix eqb (x ∷ (xs ++ rest)) (suc (length xs)) = subst (λ (w : List ℕ). IsChunkByPrefix eqb w (suc (length xs))) is h in
    let same = same_from x xs rest g.0 in
    let last : length xs ≡ suc (length xs) - 1 = omega arith in
    let other = differs_from x xs rest same (λ low d. ap (λ k. eqb (get_or (x ∷ (xs ++ rest)) k d) (get_or (x ∷ (xs ++ rest)) (suc (length xs)) d)) last ∙ g.1 low d) in
    ap (runs c f) is ∙ run_more c f x xs rest same other

pub runs_done : (c f : ℕ) (l : List ℕ) → length l ≡ 0 → runs c f l ≡ []
unfolding runs
runs_done c f [] h = refl
runs_done c f (x ∷ xs) h = absurd (omega arith)

-- the first n words, or all
module _ (n : ℕ) (words part : List ℕ) where
  first_part : (rest : List ℕ) → words ≡ part ++ rest → length part ≡ min n (length words) → (take n words ≡ part) × (drop n words ≡ rest)
  first_part [] is size =
      let same = is ∙ append-nil part in
      let low : length part ≤ n = omega arith in
      (ap (take n) same ∙ take_all n part low, ap (drop n) same ∙ drop_of_length-le part {i = n} low)
  first_part (y ∷ ys) is size =
      let all : length words ≡ length part + suc (length ys) = ap length is ∙ length-append part (y ∷ ys) in
      let e : n ≡ length part = omega arith in
      (ap (λ k. take k words) e ∙ ap (take (length part)) is ∙ take-append_seam part (y ∷ ys), ap (λ k. drop k words) e ∙ ap (drop (length part)) is ∙ drop-append_seam part (y ∷ ys))

-- ---- channels
pub channels_turn : (n c : ℕ) (words part rest : List ℕ) {k : ℕ} → words ≡ part ++ rest → length part ≡ min k (length words) → k ≡ 128
    → channel_lines (n + 1) c words ≡ runs c 0 part ++ channel_lines n (c + 1) rest
unfolding channel_lines
channels_turn n c words part rest is size whole =
    let parts = first_part 128 words part rest is (size ∙ ap (λ k. min k (length words)) whole) in
    rw (add-one n, parts.0, parts.1)

pub channels_done : (n c : ℕ) (words : List ℕ) → (0 < n → length words ≡ 0) → channel_lines n c words ≡ []
unfolding channel_lines runs
channels_done zero c words h = refl
channels_done (suc n) c [] h = channels_done n (c + 1) [] (λ k. refl)
channels_done (suc n) c (w ∷ ws) h = absurd (omega (arith, h (omega arith)))
