-- Bytes one after another are lines one after another, however they are cut into chunks. Assumes nothing.
use mathlib.Core.Path.{◌≡◌, refl, sym, ap, ◌∙◌}
use mathlib.Core.Bool.{Bool, true, false, cond}
use mathlib.Core.List.{List, [], ◌∷◌, ◌++◌, append_assoc, append-nil}
use Prim.Native.Nat.{ℕ, zero, suc, ◌+◌, ◌≤◌, ◌<◌, min}
use native.Mathlib.Nat.{not-suc-le-zero}
use native.Mathlib.Numerals.{add-one}
use native.Mathlib.Omega.{arith}
use borrow.Author.Tests.{ltb-true, ltb-false, leb-true, leb-false, eqb-true, eqb-false, le-leb, eq-eqb, ne_eqb}
use lib.Dec.{leb, ltb, eqb}
use lib.ListN.{length, take, drop, set, length-append, length-drop, length-set, take-append-drop}
use lib.Seq.{take_all, take-nil, take-append-le, take-suc-set, set_out, length-take-le}
use Rattle.commands.specs.Commands.{command}
use Rattle.text.specs.Lines.{NEWLINE, block_room}
use Rattle.commands.specs.declared.Command.{Command}
use Rattle.commands.specs.declared.Command.TheVariants.{Start, Stop, LoopStart, LoopEnd, Loop, Block}
use Rattle.commands.specs.Statement.{line_of}
use Rattle.commands.proofs.Lengths.{length_hex}
use Rattle.commands.proofs.Texts.{lines_are_texts}
use Rattle.std.specs.Prelude.{None}
use mathlib.Core.Logic.{inl, inr}
use Rattle.obeying.specs.declared.Session.{Session}
use Rattle.session.specs.declared.Fed.{Fed}
use Rattle.obeying.specs.Obeying.{Outcome, obeyed}
use Rattle.session.specs.Feeding.{Run, run, line_obeyed, ended, lengthened, extended, stepped, said, Progress, progress, advanced, fits_behind, feeding, fed, finished, after, spoken, fed_of, Moves}
use Rattle.session.specs.Transcript.{lines_from, texts}
use Rattle.session.specs.Statement.{Call, left, bytes, printed, long_enough, AnyCalls, calls_for, calls_of, joined, WholeInput, TranscriptOfChunks}
use Rattle.session.proofs.Bytes.{said_fits}

-- ---- a line that is longer than any command's text is none, and so is its front
text_length : (k : Command) → length (line_of k) ≤ 52
unfolding line_of
text_length (Start x y z) = simp (length-append, length_hex) (omega arith)
text_length (Stop x) = simp length_hex (omega arith)
text_length (LoopStart x) = simp length_hex (omega arith)
text_length (LoopEnd x) = simp length_hex (omega arith)
text_length (Loop on) = omega arith
text_length Block = omega arith

long_unknown : (l : List ℕ) → long_enough ≤ length l → command l ≡ None
long_unknown l h =
    elim (lines_are_texts l) [
      | inl e ↦ e
      | inr (k, read, bits, is) ↦ absurd (omega (arith, ap length is, text_length k))
    ]

cut_command : (n : ℕ) (l : List ℕ) → long_enough ≤ n → command (take n l) ≡ command l
cut_command n l h = go (leb (length l) n) (leb-true (length l) n) (leb-false (length l) n)
  where
    go : (t : Bool) → (t ≡ true → length l ≤ n) → (t ≡ false → n < length l) → command (take n l) ≡ command l
    go true p q = ap command (take_all n l (p refl))
    go false p q =
        let long = q refl in
        long_unknown (take n l) (omega (arith, length-take-le n l (omega arith))) ∙ sym (long_unknown l (omega arith))

cut_line : (samples : List ℕ) (s : Session) (words : List ℕ) (n : ℕ) (l : List ℕ) → long_enough ≤ n → obeyed samples s words (take n l) ≡ obeyed samples s words l
unfolding obeyed
cut_line samples s words n l h = rw (cut_command n l h)

module _ (samples : List ℕ) where
  -- the bytes of xs and then those of ys are the bytes of xs ++ ys
  pub after-append : (r : Run) (xs ys : List ℕ) → after samples r (xs ++ ys) ≡ after samples (after samples r xs) ys
  unfolding after
  after-append r [] ys = refl
  after-append r (b ∷ xs) ys = after-append (stepped samples r b) xs ys

  pub spoken_append : (r : Run) (xs ys : List ℕ) → spoken samples r (xs ++ ys) ≡ spoken samples r xs ++ spoken samples (after samples r xs) ys
  unfolding after spoken
  spoken_append r [] ys = refl
  spoken_append r (b ∷ xs) ys = ap (λ (l : List ℕ). said samples r b ++ l) (spoken_append (stepped samples r b) xs ys) ∙ sym (append_assoc (said samples r b) _ _)

  -- ---- a call of `feed` takes some bytes from the front
  record Fronted (f g : Progress) (input : List ℕ) : Type 0 where
    n : ℕ
    within : n ≤ length input
    count : g.taken ≡ f.taken + n
    carried : g.run ≡ after samples f.run (take n input)
    wrote : g.text ≡ f.text ++ spoken samples f.run (take n input)

  none_taken : (f : Progress) (input : List ℕ) → Fronted f f input
  unfolding after spoken
  none_taken f input = record { n = 0; within = omega arith; count = omega arith; carried = refl; wrote = sym (append-nil f.text) }

  fronted : (room : ℕ) (f : Progress) (input : List ℕ) → Fronted f (feeding samples room f input) input
  unfolding feeding advanced after spoken
  fronted room f [] = none_taken f []
  fronted room f (b ∷ bs) = go (fits_behind (length f.text) room) (fronted room (advanced samples f b) bs)
    where
      go : (t : Bool) → Fronted (advanced samples f b) (feeding samples room (advanced samples f b) bs) bs → Fronted f (cond t (feeding samples room (advanced samples f b) bs) f) (b ∷ bs)
      go true h = record {
        n = suc h.n;
        within = omega (arith, h.within);
        count = omega (arith, h.count);
        carried = h.carried;
        wrote = h.wrote ∙ append_assoc f.text (said samples f.run b) (spoken samples (stepped samples f.run b) (take h.n bs));
      }
      go false h = none_taken f (b ∷ bs)

  module _ (room : ℕ) (r : Run) (input : List ℕ) where
    fed_count : (fronted room (progress r 0 []) input).n ≡ (fed samples room r input).taken
    fed_count = omega (arith, (fronted room (progress r 0 []) input).count)

    pub fed_run : (fed samples room r input).run ≡ after samples r (take (fed samples room r input).taken input)
    fed_run = (fronted room (progress r 0 []) input).carried ∙ ap (λ n. after samples r (take n input)) fed_count

    pub fed_text : (fed samples room r input).text ≡ spoken samples r (take (fed samples room r input).taken input)
    fed_text = (fronted room (progress r 0 []) input).wrote ∙ ap (λ n. spoken samples r (take n input)) fed_count

    -- what a caller goes by
    fed_within : (fed samples room r input).taken ≤ length input
    fed_within = omega (arith, fed_count, (fronted room (progress r 0 []) input).within)

  text_within : (room : ℕ) (f : Progress) (input : List ℕ) → length f.text ≤ room → length (feeding samples room f input).text ≤ room
  unfolding feeding advanced
  text_within room f [] h = h
  text_within room f (b ∷ bs) h = go (fits_behind (length f.text) room) (leb-true (length f.text + block_room) room) (text_within room (advanced samples f b) bs)
    where
      go : (t : Bool) → (t ≡ true → length f.text + block_room ≤ room) → (length (advanced samples f b).text ≤ room → length (feeding samples room (advanced samples f b) bs).text ≤ room)
          → length (cond t (feeding samples room (advanced samples f b) bs) f).text ≤ room
      go true p rest = let fits = p refl in rest (omega (arith, length-append f.text (said samples f.run b), said_fits samples f.run b))
      go false p rest = h

  some_taken : (room : ℕ) (r : Run) (input : List ℕ) → 1 ≤ length input → block_room ≤ room → 1 ≤ (fed samples room r input).taken
  unfolding feeding advanced
  some_taken room r [] h fits = absurd (not-suc-le-zero h)
  some_taken room r (b ∷ bs) h fits = rw (le-leb (0 + block_room) room (omega arith)) (omega (arith, (fronted room (advanced samples (progress r 0 []) b) bs).count))

  pub fed_moves : (room : ℕ) (r : Run) (input : List ℕ) (f : Fed) → f ≡ fed_of (fed samples room r input) → Moves (length input) room f
  fed_moves room r input f is = rw is (record { taken = fed_within room r input; printed = text_within room (progress r 0 []) input (omega arith); some = some_taken room r input })

  -- calls of `feed`, one after another
  calls_run : (r : Run) (ks : List Call) → left samples r ks ≡ after samples r (bytes samples r ks)
  unfolding left bytes after
  calls_run r [] = refl
  calls_run r (k ∷ ks) =
      let f = fed samples k.room r k.input in
      calls_run f.run ks ∙ ap (λ (q : Run). after samples q (bytes samples f.run ks)) (fed_run k.room r k.input) ∙ sym (after-append r (take f.taken k.input) (bytes samples f.run ks))

  calls_text : (r : Run) (ks : List Call) → printed samples r ks ≡ spoken samples r (bytes samples r ks)
  unfolding printed bytes spoken
  calls_text r [] = refl
  calls_text r (k ∷ ks) =
      let f = fed samples k.room r k.input in
      let rest = bytes samples f.run ks in
      ap (λ (l : List ℕ). f.text ++ l) (calls_text f.run ks)
      ∙ ap (λ (l : List ℕ). l ++ spoken samples f.run rest) (fed_text k.room r k.input)
      ∙ ap (λ (q : Run). spoken samples r (take f.taken k.input) ++ spoken samples q rest) (fed_run k.room r k.input)
      ∙ sym (spoken_append r (take f.taken k.input) rest)

  -- ---- the slice holds the line so far, cut to its length
  pub record Kept (r : Run) (front : List ℕ) : Type 0 where
    wide : long_enough ≤ length r.line
    used : r.len ≡ min (length front) (length r.line)
    held : take r.len r.line ≡ take (length r.line) front

  obeyed_kept : (r : Run) (front : List ℕ) → Kept r front → line_obeyed samples r ≡ obeyed samples r.session r.words front
  unfolding line_obeyed
  obeyed_kept r front k = ap (obeyed samples r.session r.words) k.held ∙ cut_line samples r.session r.words (length r.line) front k.wide

  -- after a newline nothing is held
  ended_kept : (r : Run) (front : List ℕ) → Kept r front → Kept (ended samples r) []
  unfolding ended
  ended_kept r front k = record { wide = k.wide; used = omega arith; held = sym (take-nil (length r.line)) }

  -- another byte is held if there is room
  more_kept : (r : Run) (front : List ℕ) (b : ℕ) → Kept r front → Kept (extended r b) (front ++ (b ∷ []))
  unfolding extended lengthened
  more_kept r front b k = go (ltb r.len (length r.line)) (ltb-true r.len (length r.line)) (ltb-false r.len (length r.line))
    where
      size : length (set r.line r.len b) ≡ length r.line
      size = length-set r.line r.len b

      longer : length (front ++ (b ∷ [])) ≡ length front + 1
      longer = length-append front (b ∷ [])

      go : (t : Bool) → (t ≡ true → r.len < length r.line) → (t ≡ false → length r.line ≤ r.len)
          → Kept (run r.session (set r.line r.len b) (cond t (r.len + 1) r.len) r.words) (front ++ (b ∷ []))
      go true p q =
          let room = p refl in
          let all : take (length r.line) front ≡ front = take_all (length r.line) front (omega (arith, k.used)) in
          record {
            wide = omega (arith, k.wide, size);
            used = omega (arith, k.used, size, longer);
            held = ap (λ n. take n (set r.line r.len b)) (add-one r.len) ∙ take-suc-set r.line r.len b room ∙ ap (λ (l : List ℕ). l ++ (b ∷ [])) (k.held ∙ all) ∙ sym (take_all (length (set r.line r.len b)) (front ++ (b ∷ [])) (omega (arith, k.used, size, longer)));
          }
      go false p q =
          let full = q refl in
          rw (set_out r.line r.len b full)
          (record {
            wide = k.wide;
            used = omega (arith, k.used, longer);
            held = k.held ∙ sym (take-append-le (length r.line) front (b ∷ []) (omega (arith, k.used)));
          })

  -- ---- lines
  last_line : (r : Run) (front : List ℕ) → Kept r front → (finished samples r).reply.text ≡ texts samples r.session r.words (lines_from front [])
  unfolding finished texts lines_from
  last_line r front k = go (eqb (length front) 0) (eqb-true (length front) 0) (eqb-false (length front) 0)
    where
      go : (t : Bool) → (t ≡ true → length front ≡ 0) → (t ≡ false → length front ≡ 0 → ⊥) → (finished samples r).reply.text ≡ texts samples r.session r.words (cond t [] (front ∷ []))
      go true p q = let z = p refl in rw (eq-eqb r.len 0 (omega (arith, k.used)))
      go false p q =
          rw (ne_eqb r.len 0 (λ e. q refl (omega (arith, k.used, k.wide))))
          (ap (λ (o : Outcome). o.reply.text) (obeyed_kept r front k) ∙ sym (append-nil _))

  pub spoken_lines : (r : Run) (front bs : List ℕ) → Kept r front → spoken samples r bs ++ (finished samples (after samples r bs)).reply.text ≡ texts samples r.session r.words (lines_from front bs)
  unfolding after spoken stepped said ended extended lines_from texts
  spoken_lines r front [] k = last_line r front k
  spoken_lines r front (b ∷ bs) k =
      go (eqb b NEWLINE) (spoken_lines (ended samples r) [] bs (ended_kept r front k)) (spoken_lines (extended r b) (front ++ (b ∷ [])) bs (more_kept r front b k))
    where
      go : (t : Bool) → spoken samples (ended samples r) bs ++ (finished samples (after samples (ended samples r) bs)).reply.text ≡ texts samples (ended samples r).session (ended samples r).words (lines_from [] bs)
          → spoken samples (extended r b) bs ++ (finished samples (after samples (extended r b) bs)).reply.text ≡ texts samples r.session r.words (lines_from (front ++ (b ∷ [])) bs)
          → (cond t (line_obeyed samples r).reply.text [] ++ spoken samples (cond t (ended samples r) (extended r b)) bs) ++ (finished samples (after samples (cond t (ended samples r) (extended r b)) bs)).reply.text
          ≡ texts samples r.session r.words (cond t (front ∷ lines_from [] bs) (lines_from (front ++ (b ∷ [])) bs))
      go true h g = append_assoc (line_obeyed samples r).reply.text (spoken samples (ended samples r) bs) _ ∙ ap (λ (l : List ℕ). (line_obeyed samples r).reply.text ++ l) h ∙ ap (λ (o : Outcome). o.reply.text ++ texts samples o.reply.session o.words (lines_from [] bs)) (obeyed_kept r front k)
      go false h g = g

  pub none_kept : (s : Session) (line words : List ℕ) → long_enough ≤ length line → Kept (run s line 0 words) []
  none_kept s line words wide = record { wide = wide; used = omega arith; held = sym (take-nil (length line)) }

pub any_calls : AnyCalls
any_calls samples s line words calls wide =
    let r = run s line 0 words in
    ap (λ (t : List ℕ). t ++ (finished samples (left samples r calls)).reply.text) (calls_text samples r calls)
    ∙ ap (λ (q : Run). spoken samples r (bytes samples r calls) ++ (finished samples q).reply.text) (calls_run samples r calls)
    ∙ spoken_lines samples r [] (bytes samples r calls) (none_kept samples s line words wide)

-- ---- the calls for chunks take all bytes of them
module _ (samples : List ℕ) (room : ℕ) (fits : block_room ≤ room) where
  bytes_append : (r : Run) (xs ys : List Call) → bytes samples r (xs ++ ys) ≡ bytes samples r xs ++ bytes samples (left samples r xs) ys
  unfolding bytes left
  bytes_append r [] ys = refl
  bytes_append r (k ∷ xs) ys =
      let f = fed samples k.room r k.input in
      ap (λ (l : List ℕ). take f.taken k.input ++ l) (bytes_append f.run xs ys) ∙ sym (append_assoc (take f.taken k.input) _ _)

  chunk_bytes : (n : ℕ) (r : Run) (chunk : List ℕ) → length chunk ≤ n → bytes samples r (calls_for n samples room r chunk) ≡ chunk
  unfolding calls_for bytes
  chunk_bytes zero r [] h = refl
  chunk_bytes zero r (b ∷ bs) h = absurd (not-suc-le-zero h)
  chunk_bytes (suc n) r [] h = refl
  chunk_bytes (suc n) r (b ∷ bs) h =
      let f = fed samples room r (b ∷ bs) in
      let some = some_taken samples room r (b ∷ bs) (omega arith) fits in
      let rest : length (drop f.taken (b ∷ bs)) ≤ n = omega (arith, length-drop f.taken (b ∷ bs), h) in
      rw (ne_eqb (suc (length bs)) 0 (λ e. omega arith))
      (ap (λ (l : List ℕ). take f.taken (b ∷ bs) ++ l) (chunk_bytes n f.run (drop f.taken (b ∷ bs)) rest) ∙ take-append-drop f.taken (b ∷ bs))

  all_bytes : (r : Run) (chunks : List (List ℕ)) → bytes samples r (calls_of samples room r chunks) ≡ joined chunks
  unfolding calls_of joined bytes
  all_bytes r [] = refl
  all_bytes r (c ∷ cs) =
      let ks = calls_for (length c) samples room r c in
      bytes_append r ks (calls_of samples room (left samples r ks) cs)
      ∙ ap (λ (l : List ℕ). l ++ bytes samples (left samples r ks) (calls_of samples room (left samples r ks) cs)) (chunk_bytes (length c) r c (omega arith))
      ∙ ap (λ (l : List ℕ). c ++ l) (all_bytes (left samples r ks) cs)

pub whole_input : WholeInput
whole_input samples s line words room chunks wide fits =
    let r = run s line 0 words in
    any_calls samples s line words (calls_of samples room r chunks) wide ∙ ap (λ (l : List ℕ). texts samples s words (lines_from [] l)) (all_bytes samples room fits r chunks)

pub chunks_told : TranscriptOfChunks
chunks_told = (any_calls, whole_input)
