-- A line, cut at its first space. Assumes nothing.
use Rattle.std.proofs.Common.{◌≡◌, refl, ℕ, suc, ◌+◌, ◌-◌, ◌≤◌, Bool, true, false, eqb, leb, ltb, List, [], ◌∷◌, length, length-drop, take, drop, Option, Some, None, arith, tests}
use Rattle.std.specs.List.{slice_split, position, position_or_len}
use Rattle.std.proofs.lemmas.List.{take_all}
use Rattle.std.proofs.lemmas.Bool.{ltb-true}
use Rattle.std.proofs.lemmas.List.Splits.{slice_split_first, length-slice_split}
use Rattle.protocol.specs.Words.{words, behind, one, Gives}

-- a line has a word
pub some_word : (line : List ℕ) → eqb (length (words line)) 0 ≡ false
unfolding words
some_word line = rw (length-slice_split (λ b. eqb b 32) line) (grind (arith, tests))

-- no word behind the next one
pub at_most_one : (ws : List (List ℕ)) → eqb (length (behind ws)) 0 ≡ leb (length ws) 1
unfolding behind
at_most_one [] = refl
at_most_one (w ∷ ws) = grind (arith, tests)

whole_step : (p : ℕ → Bool) (x : ℕ) (xs : List ℕ) (b : Bool) → p x ≡ b → (length xs ≤ position_or_len p xs → slice_split p xs ≡ xs ∷ [])
    → length (x ∷ xs) ≤ position_or_len p (x ∷ xs) → slice_split p (x ∷ xs) ≡ (x ∷ xs) ∷ []
whole_step p x xs true e rest all = absurd (let none : suc (length xs) ≤ 0 = rw e at all in omega arith)
whole_step p x xs false e rest all =
    let more : suc (length xs) ≤ 1 + position_or_len p xs = rw e at all in
    rw (e, rest (omega arith)) refl

-- where nothing passes, the one part is the whole
whole : (p : ℕ → Bool) (xs : List ℕ) → length xs ≤ position_or_len p xs → slice_split p xs ≡ xs ∷ []
whole p [] all = refl
whole p (x ∷ xs) all = whole_step p x xs (p x) refl (whole p xs) all

-- how many bytes stand before the first space of a line, and where it is
abbrev spaceless : List ℕ → ℕ
spaceless line = position_or_len (λ b. eqb b 32) line

abbrev pub space_at : List ℕ → Option ℕ
space_at line = position (λ b. eqb b 32) line

pub cut_at : (line : List ℕ) (n : ℕ) (r : Option ℕ) → r ≡ space_at line → r ≡ Some n → words line ≡ take n line ∷ words (drop (n + 1) line)
unfolding words
cut_at line n r found some =
    let both : (ltb (spaceless line) (length line) ≡ true) × (spaceless line ≡ n) = grind (arith, tests) in
    rw (← both.1) (slice_split_first (λ b. eqb b 32) line 0 (ltb-true _ _ both.0))

pub uncut : (line : List ℕ) (r : Option ℕ) → r ≡ space_at line → r ≡ None → words line ≡ line ∷ []
unfolding words
uncut line r found none =
    let past : length line ≤ spaceless line = grind (arith, tests) in
    whole (λ b. eqb b 32) line past

-- what is behind a place, taken whole
pub take_behind : (n : ℕ) (line : List ℕ) → take (length line - n) (drop n line) ≡ drop n line
take_behind n line = take_all _ (drop n line) (simp length-drop (omega arith))

-- the next word, read by f
pub one_more : {A : Type 0} (f : List ℕ → Option A) (r : Option A) (ws rest : List (List ℕ)) (word : List ℕ) → one Some ws ≡ Some (word, rest) → r ≡ f word
    → Gives (λ x. x) r rest (one f ws)
unfolding one
one_more f None [] rest word e same = refl
one_more f (Some x) [] rest word e same = absurd (cc)
one_more f None (w ∷ ws) rest word e same = grind arith
one_more f (Some x) (w ∷ ws) rest word e same = grind arith

pub no_more : {A : Type 0} (f : List ℕ → Option A) (ws : List (List ℕ)) → one Some ws ≡ None → one f ws ≡ None
unfolding one
no_more f [] e = refl
no_more f (w ∷ ws) e = absurd (cc)
