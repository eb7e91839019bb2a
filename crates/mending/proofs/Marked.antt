-- What stands where in a mended file, and that the marks tell what changed. Assumes nothing.
use mathlib.Core.Path.{◌≡◌, refl, ap, sym, ◌∙◌}
use mathlib.Core.Bool.{Bool, true, false, not}
use mathlib.Core.List.{List, [], ◌++◌, append-nil}
use Prim.Native.Nat.{ℕ, ◌+◌, ◌*◌, ◌^◌, ◌≤◌, ◌<◌}
use native.Mathlib.Omega.{arith}
use lib.Dec.{eqb}
use lib.ListN.{length, get_or, take, drop, drop_of_length-le}
use lib.Seq.{take_at}
use borrow.Author.Tests.{eqb-true, eq-eqb, ltb-false, le-ltb}
use Rattle.lists.specs.Table.{table, length_table, get_or_table, table_same}
use Rattle.clip.specs.Layout.{bytes, words, onset_bytes, header_length, offset}
use Rattle.clip.specs.Reading.{number, length_field, channels_field, offset_field, frames_from, offsets_match, form_of}
use Rattle.clip.specs.Statement.{Below}
use Rattle.clip.specs.declared.Form.{Form}
use Rattle.clip.proofs.Each.{each_at, each_all}
use Rattle.clip.proofs.LaidOut.{laid_out}
use Rattle.clip.proofs.Numbers.{length_bytes, below_drop, number_bytes, number_lt, number_four}
use Rattle.clip.proofs.RoundTrip.{piece}
use Rattle.clip.proofs.Words.{length_words, word_at, words_numbers}
use Rattle.mending.specs.Mending.{header_of_file, frames_held, mended_length, tail_size, mended, marks_of}
use Rattle.mending.specs.Passed.{Mendable}
use Rattle.mending.specs.Statement.{part, SetUnless, Marked, Kept}
use Rattle.mending.proofs.Frames.{fits, length_is}
use Rattle.mending.proofs.Again.{fields, below_mended}

-- ---- parts of a file

-- of a number
number_part : (n at : ℕ) (l : List ℕ) → at + n ≤ length l → Below 256 l → part at n l ≡ bytes n (number n (drop at l))
number_part n at l room below =
    ap (take n) (sym (piece n at l room below)) ∙ take_at (bytes n (number n (drop at l))) (drop (at + n) l) n (length_bytes n (number n (drop at l)))

-- of words
pub words_part : (k at : ℕ) (l : List ℕ) → at + 4 * k ≤ length l → Below 256 l
    → part at (4 * k) l ≡ words (table k (λ i. number 4 (drop (at + 4 * i) l)))
words_part k at l room below =
    let ws = table k (λ i. number 4 (drop (at + 4 * i) l)) in
    ap (take (4 * k)) (sym (words_numbers k at l room below))
    ∙ take_at (words ws) (drop (at + 4 * k) l) (4 * k) (length_words ws ∙ ap (λ n. 4 * n) (length_table k _))

-- numbers of the same bytes
same_number : (n a b : ℕ) → a < 256 ^ n → b < 256 ^ n → bytes n a ≡ bytes n b → a ≡ b
same_number n a b p q e = sym (number_bytes n a [] p) ∙ ap (λ l. number n (l ++ [])) e ∙ number_bytes n b [] q

-- words of the same bytes
same_word : (k : ℕ) (f g : ℕ → ℕ) → ((i : ℕ) → f i < 2 ^ 32) → ((i : ℕ) → g i < 2 ^ 32) → words (table k f) ≡ words (table k g)
    → (c : ℕ) → c < k → f c ≡ g c
same_word k f g p q e c below =
    sym (word k f p c below) ∙ ap (λ l. number 4 (drop (4 * c) (l ++ []))) e ∙ word k g q c below
  where
    word : (k : ℕ) (f : ℕ → ℕ) → ((i : ℕ) → f i < 2 ^ 32) → (c : ℕ) → c < k → number 4 (drop (4 * c) (words (table k f) ++ [])) ≡ f c
    word k f p c below =
        let here : get_or (table k f) c 0 ≡ f c = get_or_table k f c 0 below in
        word_at (table k f) [] c (rw length_table below) (rw here (p c)) ∙ here

unset : (b : Bool) → not b ≡ false → b ≡ true
unset true e = refl
unset false e = cc

-- a mark by the test of two numbers
number_mark : (n at : ℕ) (file made : List ℕ) → at + n ≤ length file → at + n ≤ length made → Below 256 file → Below 256 made
    → SetUnless (not (eqb (number n (drop at file)) (number n (drop at made)))) (part at n made ≡ part at n file)
number_mark n at file made room own below all =
    let a : ℕ = number n (drop at file) in
    let b : ℕ = number n (drop at made) in
    let p = number_part n at file room below in
    let q = number_part n at made own all in (
      (λ e. q ∙ ap (bytes n) (sym (eqb-true a b (unset (eqb a b) e))) ∙ sym p),
      (λ e. ap not (eq-eqb a b (same_number n a b (number_lt n _ (below_drop at file below)) (number_lt n _ (below_drop at made all)) (sym p ∙ sym e ∙ q)))),
    )

module _ (file : List ℕ) (lent : ℕ) (below : Below 256 file) (k : Mendable file lent) where
  abbrev C : ℕ
  C = channels_field file

  abbrev N : ℕ
  N = frames_held file

  abbrev F : Form
  F = form_of file

  abbrev made : List ℕ
  made = mended file

  all : Below 256 (mended file)
  all = below_mended file lent below k

  abbrev E : ℕ
  E = onset_bytes F

  long : length (mended file) ≡ mended_length file
  long = length_is file lent below k

  frames_mark : SetUnless (marks_of file).frames (part 4 4 (mended file) ≡ part 4 4 file)
  frames_mark =
      let e = (fields file lent below k).2 in
      rw e at (number_mark 4 4 file (mended file) (omega (arith, k.room)) (omega (arith, long)) below all)

  onset_mark : SetUnless (marks_of file).onset (part 12 (onset_bytes (form_of file)) (mended file) ≡ part 12 (onset_bytes (form_of file)) file)
  onset_mark =
      let e = (fields file lent below k).4 in
      rw e at (number_mark (onset_bytes (form_of file)) 12 file (mended file) (omega (arith, k.room)) (omega (arith, long)) below all)

  own_offset : (c : ℕ) → c < C → offset_field F (mended file) c ≡ offset F C N c
  unfolding offsets_match
  own_offset c b =
      let g = fields file lent below k in
      let m = rw (g.1, g.2) at ((laid_out F (mended file) g.0).offsets) in
      eqb-true _ _ (each_at C c _ m b)

  offsets_mark : SetUnless (marks_of file).offsets (part (12 + onset_bytes (form_of file)) (4 * C) (mended file) ≡ part (12 + onset_bytes (form_of file)) (4 * C) file)
  unfolding offsets_match
  offsets_mark =
      let p = words_part C (12 + E) file (omega (arith, k.room)) below in
      let q = words_part C (12 + E) (mended file) (omega (arith, long)) all in
      let small : (l : List ℕ) → Below 256 l → (i : ℕ) → offset_field F l i < 2 ^ 32 = λ l h i. number_lt 4 _ (below_drop (12 + E + 4 * i) l h) in (
        (λ e. q ∙ ap words (table_same C (offset_field F (mended file)) (offset_field F file)
            (λ c b. own_offset c b ∙ sym (eqb-true _ _ (each_at C c _ (unset _ e) b)))) ∙ sym p),
        (λ e. ap not (each_all C _ (λ c b. eq-eqb (offset_field F file c) (offset F C N c)
            (same_word C (offset_field F file) (offset_field F (mended file)) (small file below) (small (mended file) all) (sym p ∙ sym e ∙ q) c b ∙ own_offset c b)))),
      )

  tail_mark : SetUnless (marks_of file).tail (length (mended file) ≡ length file)
  tail_mark =
      let w = (fits file lent below k).0 in (
        (λ e. let none = ltb-false 0 (tail_size file) e in omega (arith, none, w, long)),
        (λ e. le-ltb _ _ (omega (arith, e, long))),
      )

  pub marked : Marked file (marks_of file)
  marked = record { frames = frames_mark; onset = onset_mark; offsets = offsets_mark; tail = tail_mark }

  rows : 4 * N * C ≡ 4 * (C * N)
  rows = omega arith

  pub kept : Kept file
  kept =
      let g = fields file lent below k in
      let l = laid_out F (mended file) g.0 in
      let H = header_of_file file in
      let header : length_field (mended file) ≡ length_field file = l.header ∙ ap (header_length F) g.1 ∙ sym k.header in
      let first : number 4 (drop 0 (mended file)) ≡ number 4 (drop 0 file) =
      number_four (mended file) 0 ∙ rw (header, g.1) (sym (number_four file 0))
      in
      let end : drop (H + 4 * (C * N)) (mended file) ≡ [] = drop_of_length-le (mended file) {i = H + 4 * (C * N)} (omega (arith, long, rows)) in
      let own : drop H (mended file) ≡ words (frames_from (mended file) H (C * N)) =
      sym (words_numbers (C * N) H (mended file) (omega (arith, long, rows)) all) ∙ ap (λ r. words (frames_from (mended file) H (C * N)) ++ r) end ∙ append-nil _
      in
      record {
        start = number_part 4 0 (mended file) (omega (arith, long)) all ∙ ap (bytes 4) first ∙ sym (number_part 4 0 file (omega (arith, k.room)) below);
        rate = number_part 4 8 (mended file) (omega (arith, long)) all ∙ ap (bytes 4) g.3 ∙ sym (number_part 4 8 file (omega (arith, k.room)) below);
        samples = own ∙ ap words g.5 ∙ sym (ap (λ n. part H n file) rows ∙ words_part (C * N) H file (omega (arith, (fits file lent below k).0, rows)) below);
      }
