-- The reader accepts exactly the bytes of the layout, and reads what they were made of. Assumes nothing.
use mathlib.Core.Path.{◌≡◌, refl, ap, sym, ◌∙◌}
use mathlib.Core.Bool.{true}
use mathlib.Core.List.{List, [], ◌++◌, append-nil}
use Prim.Native.Nat.{ℕ, ◌+◌, ◌*◌, ◌^◌, ◌≤◌, ◌<◌}
use native.Mathlib.Nat.{mul-le-mul_left, mul-one, le_of_lt}
use native.Mathlib.Omega.{arith}
use lib.ListN.{length, get_or, drop, length-append, length-drop, get_or-eq_default, drop_of_length-le}
use lib.Seq.{drop-drop, drop-append-add}
use borrow.Author.Tests.{eqb-true, le-leb, eq-eqb}
use Rattle.lists.specs.Table.{table, length_table, get_or_table, table_same, table_get_or}
use Rattle.clip.specs.Layout.{bytes, words, onset_bytes, header_length, offset, file_length, layout}
use Rattle.clip.specs.Reading.{number, channels_field, frames_field, rate_field, onset_field, offset_field, frames_from, offsets_match, is_layout}
use Rattle.clip.specs.declared.Form.{Form}
use Rattle.clip.specs.declared.Form.TheVariants as form
use Rattle.clip.specs.Statement.{Below, IsClip, Sound, Complete, ClipFile}
use Rattle.clip.proofs.Numbers.{length_bytes, skip, below_drop, number_bytes, number_lt, bytes_number}
use Rattle.clip.proofs.Words.{length_words, word_at, words_numbers}
use Rattle.clip.proofs.LaidOut.{laid_out}
use Rattle.clip.proofs.Each.{both, each_at, each_all}

-- a field's bytes stand at its place
pub piece : (n at : ℕ) (file : List ℕ) → at + n ≤ length file → Below 256 file → bytes n (number n (drop at file)) ++ drop (at + n) file ≡ drop at file
piece n at file room h = rw (← drop-drop n at file) (bytes_number n (drop at file) (simp length-drop (omega arith)) (below_drop at file h))

pub words_below : (k at : ℕ) (file : List ℕ) → Below 256 file → Below (2 ^ 32) (table k (λ i. number 4 (drop (at + 4 * i) file)))
words_below k at file h j =
    let w : List ℕ = table k (λ i. number 4 (drop (at + 4 * i) file)) in
    let long : length w ≡ k = length_table k _ in
    let past : k ≤ j → get_or w j 0 ≡ 0 = λ p. get_or-eq_default w 0 {n = j} (rw long p) in
    grind (arith, past, get_or_table k (λ i. number 4 (drop (at + 4 * i) file)) j 0, number_lt 4 (drop (at + 4 * j) file) (below_drop (at + 4 * j) file h))

-- the words of the frames and of the offsets are the bytes that stand there
rest_lem : (f : Form) (file : List ℕ) → Below 256 file → let C = channels_field file in let N = frames_field file in
    length file ≡ file_length f C N → ((c : ℕ) → c < C → offset_field f file c ≡ offset f C N c)
    → words (table C (offset f C N)) ++ words (frames_from file (header_length f C) (C * N)) ≡ drop (12 + onset_bytes f) file
rest_lem f file h full starts =
    let C = channels_field file in
    let N = frames_field file in
    let H = header_length f C in
    let rows : 4 * N * C ≡ 4 * (C * N) = omega arith in
    let samples : words (frames_from file H (C * N)) ≡ drop H file =
    sym (append-nil _) ∙ sym (ap (λ (r : List ℕ). words (frames_from file H (C * N)) ++ r) (drop_of_length-le file {i = H + 4 * (C * N)} (omega (arith, full))))
    ∙ words_numbers (C * N) H file (omega (arith, full)) h
    in
    let own : table C (offset f C N) ≡ table C (offset_field f file) = table_same C (offset f C N) (offset_field f file) (λ k b. sym (starts k b)) in
    ap (λ (l : List ℕ). words l ++ words (frames_from file H (C * N))) own
    ∙ ap (λ (r : List ℕ). words (table C (offset_field f file)) ++ r) samples
    ∙ words_numbers C (12 + onset_bytes f) file (omega (arith, full)) h

pub sound : (f : Form) → Sound f
unfolding offsets_match layout
sound f file h ok =
    let l = laid_out f file ok in
    let C = channels_field file in
    let N = frames_field file in
    let E = onset_bytes f in
    let H = header_length f C in
    let R = rate_field file in
    let full : length file ≡ file_length f C N = l.long in
    let body = rest_lem f file h full (λ c b. eqb-true _ _ (each_at C c _ l.offsets b)) in
    record {
      laid_out = sym
          (ap (λ (r : List ℕ). bytes 2 H ++ (bytes 2 C ++ (bytes 4 N ++ (bytes 4 R ++ (bytes E (onset_field f file) ++ r))))) body
          ∙ ap (λ (r : List ℕ). bytes 2 H ++ (bytes 2 C ++ (bytes 4 N ++ (bytes 4 R ++ r)))) (piece E 12 file (omega (arith, full)) h)
          ∙ ap (λ (r : List ℕ). bytes 2 H ++ (bytes 2 C ++ (bytes 4 N ++ r))) (piece 4 8 file (omega (arith, full)) h)
          ∙ ap (λ (r : List ℕ). bytes 2 H ++ (bytes 2 C ++ r)) (piece 4 4 file (omega (arith, full)) h)
          ∙ ap (λ (r : List ℕ). bytes 2 H ++ r) (piece 2 2 file (omega (arith, full)) h)
          ∙ ap (λ n. bytes 2 n ++ drop 2 file) (sym l.header)
          ∙ piece 2 0 file (omega (arith, full)) h);
      some = l.some;
      full = length_table _ _;
      frames_fit = number_lt 4 (drop 4 file) (below_drop 4 file h);
      rate_fits = number_lt 4 (drop 8 file) (below_drop 8 file h);
      onset_fits = number_lt E (drop 12 file) (below_drop 12 file h);
      samples_fit = words_below (C * N) H file h;
      short = l.short;
    }

pub one_word : (f : Form) → onset_bytes f ≤ 4
one_word form.Old = omega arith
one_word form.New = omega arith

module _ (f : Form) (C N R O : ℕ) (ws : List ℕ) where
  abbrev pub made : List ℕ
  made = layout f C N R O ws

  abbrev body : List ℕ
  body = words (table C (offset f C N)) ++ words ws

  -- past the fields
  past : (j : ℕ) → drop (12 + onset_bytes f + j) made ≡ drop j body
  unfolding layout
  past j =
      let E = onset_bytes f in
      sym (drop-drop (E + j) 12 made ∙ ap (λ n. drop n made) (omega arith))
      ∙ ap (λ (l : List ℕ). drop (E + j) l) (skip 2 10 (12 + E + 4 * C) _ ∙ skip 2 8 C _ ∙ skip 4 4 N _ ∙ skip 4 0 R _)
      ∙ skip E j O _

  pub length_made : length made ≡ 12 + onset_bytes f + 4 * C + 4 * length ws
  unfolding layout
  length_made = simp (length-append, length_bytes, length_words, length_table) (omega arith)

  module _ (k : IsClip f made C N R O ws) where
    few : 4 * C + 4 * (C * N) + 12 + onset_bytes f ≤ 65536
    few = omega (arith, length_made, k.short, k.full)

    small : onset_bytes f + 4 * C ≤ 40000
    small = omega (arith, few, mul-le-mul_left C k.some, mul-one C, one_word f)

    channels_read : channels_field made ≡ C
    unfolding layout
    channels_read = ap (number 2) (skip 2 0 (header_length f C) _) ∙ number_bytes 2 C _ (omega (arith, small))

    frames_read_lem : frames_field made ≡ N
    unfolding layout
    frames_read_lem = ap (number 4) (skip 2 2 (header_length f C) _ ∙ skip 2 0 C _) ∙ number_bytes 4 N _ k.frames_fit

    rate_read : rate_field made ≡ R
    unfolding layout
    rate_read = ap (number 4) (skip 2 6 (header_length f C) _ ∙ skip 2 4 C _ ∙ skip 4 0 N _) ∙ number_bytes 4 R _ k.rate_fits

    onset_read : onset_field f made ≡ O
    unfolding layout
    onset_read =
        ap (number (onset_bytes f)) (skip 2 10 (header_length f C) _ ∙ skip 2 8 C _ ∙ skip 4 4 N _ ∙ skip 4 0 R _)
        ∙ number_bytes (onset_bytes f) O _ k.onset_fits

    header : number 2 made ≡ header_length f C
    unfolding layout
    header = number_bytes 2 (header_length f C) _ (omega (arith, small))

    -- channel c starts before the file's end
    rows : (c : ℕ) → c < C → 4 * N * c ≤ 4 * (C * N)
    rows c b = omega (arith, mul-le-mul_left N (le_of_lt b))

    own_offset : (c : ℕ) → c < C → offset_field f made c ≡ offset f C N c
    own_offset c b =
        let here : get_or (table C (offset f C N)) c 0 ≡ offset f C N c = get_or_table C (offset f C N) c 0 b in
        let fits : offset f C N c ≤ 65536 = omega (arith, few, rows c b) in
        ap (number 4) (past (4 * c)) ∙ word_at (table C (offset f C N)) (words ws) c (rw length_table b) (rw here (omega arith)) ∙ here

    own_frame : (j : ℕ) → j < C * N → number 4 (drop (header_length f C + 4 * j) made) ≡ get_or ws j 0
    own_frame j b =
        let sum : header_length f C + 4 * j ≡ 12 + onset_bytes f + (4 * C + 4 * j) = omega arith in
        let at : drop (header_length f C + 4 * j) made ≡ drop (4 * j) (words ws) =
        ap (λ n. drop n made) sum ∙ past (4 * C + 4 * j)
        ∙ ap (λ n. drop (n + 4 * j) (words (table C (offset f C N)) ++ words ws)) (sym (length_words (table C (offset f C N)) ∙ ap (λ n. 4 * n) (length_table C (offset f C N))))
        ∙ drop-append-add (words (table C (offset f C N))) (words ws) (4 * j)
        in
        ap (number 4) (at ∙ ap (drop (4 * j)) (sym (append-nil (words ws)))) ∙ word_at ws [] j (omega (arith, k.full)) (k.samples_fit j)

    own_frames : frames_from made (header_length f C) (C * N) ≡ ws
    own_frames =
        table_same (C * N) (λ j. number 4 (drop (header_length f C + 4 * j) made)) (λ j. get_or ws j 0) own_frame
        ∙ ap (λ n. table n (λ j. get_or ws j 0)) (sym k.full) ∙ table_get_or ws 0

    accepted : is_layout f made ≡ true
    unfolding is_layout offsets_match
    accepted =
        rw (channels_read, frames_read_lem, header)
        (both (le-leb 12 (length made) (omega (arith, length_made)))
        (both (le-leb _ _ k.short)
        (both (eq-eqb (header_length f C) (header_length f C) refl)
        (both (le-leb _ _ k.some)
        (both (eq-eqb (length made) (file_length f C N) (omega (arith, length_made, k.full)))
        (each_all C _ (λ c b. eq-eqb _ _ (own_offset c b))))))))

pub complete : (f : Form) → Complete f
complete f file channels frames rate onset samples k =
    let e = k.laid_out in
    let own : IsClip f (layout f channels frames rate onset samples) channels frames rate onset samples =
    record {
      laid_out = refl;
      some = k.some;
      full = k.full;
      frames_fit = k.frames_fit;
      rate_fits = k.rate_fits;
      onset_fits = k.onset_fits;
      samples_fit = k.samples_fit;
      short = rw e at k.short;
    }
    in
    rw e (
      accepted f channels frames rate onset samples own,
      channels_read f channels frames rate onset samples own,
      frames_read_lem f channels frames rate onset samples own,
      rate_read f channels frames rate onset samples own,
      onset_read f channels frames rate onset samples own,
      own_frames f channels frames rate onset samples own,
    )

pub round_trip : ClipFile
round_trip f = (sound f, complete f)
