-- What is written of what was printed, and what a run has written so far. Assumes nothing.
use mathlib.Core.Path.{◌≡◌, refl, sym, ap, subst, ◌∙◌}
use mathlib.Core.Bool.{Bool, true, false}
use mathlib.Core.List.{List, [], ◌++◌, append_assoc, append-nil}
use Prim.Native.Nat.{ℕ, ◌+◌, ◌≤◌}
use native.Mathlib.Omega.{arith}
use borrow.Author.Tests.{le-leb}
use lib.ListN.{length, take, drop, take-append-drop}
use lib.Seq.{sets, sets-eq, take-append_seam}
use Rattle.std.specs.Prelude.{Option, Some, None, IfSome, Result, Ok, Err, OnOk, OnErr}
use Rattle.std.specs.Io.KnownBytes.{Appends, Consumes, IsAtEnd}
use Rattle.text.specs.Lines.{block_room}
use Rattle.obeying.specs.Obeying.{Outcome, has_room, answered, out_after, answer_of}
use Rattle.obeying.specs.declared.Session.{Session}
use Rattle.obeying.specs.declared.Answer.{Answer}
use Rattle.session.specs.declared.Fed.{Fed}
use Rattle.session.specs.Feeding.{Run, run, run_of, fed, finished, after, spoken, fed_of}
use Rattle.session.specs.Transcript.{transcript, no_words}
use Rattle.session.specs.Running.{AppendsFront, Ran}
use Rattle.session.proofs.Chunks.{after-append, spoken_append, fed_run, fed_text, spoken_lines, none_kept}
use Rattle.session.proofs.KnownBytes.{appends_then, consumes_front, consumes_whole, all_front, front_then, front_more}

-- a text that was stored at the start of a slice
pub take_sets : (l t : List ℕ) → length t ≤ length l → take (length t) (sets l 0 t) ≡ t
take_sets l t h =
    let e : sets l 0 t ≡ t ++ drop (0 + length t) l = sets-eq t l 0 (omega (arith, h)) in
    ap (take (length t)) e ∙ take-append_seam t (drop (0 + length t) l)

-- ---- a last line
roomy : (out : List ℕ) → block_room ≤ length out → has_room out ≡ true
roomy out h = le-leb block_room (length out) h

some_answer : (b : Bool) (o : Outcome) (a : Answer) → b ≡ true → Some a ≡ answered b o → a ≡ answer_of o.reply
unfolding answered
some_answer true o a t e = cc
some_answer false o a t e = cc

pub last_written : (o : Outcome) (a : Answer) (out out' : List ℕ) → block_room ≤ length out → Some a ≡ answered (has_room out) o
    → out' ≡ out_after (has_room out) o out → a.printed ≤ length out → take a.printed out' ≡ o.reply.text
unfolding out_after
last_written o a out out' h e stored within =
    let is : a ≡ answer_of o.reply = some_answer (has_room out) o a (roomy out h) e in
    let count : a.printed ≡ length o.reply.text = ap (λ (x : Answer). x.printed) is in
    let all : out' ≡ sets out 0 o.reply.text = stored ∙ rw (roomy out h) refl in
    rw (all, count) (take_sets out o.reply.text (omega (arith, within, count)))

pub never_none : (P : Type 0) (o : Outcome) (out : List ℕ) → block_room ≤ length out → None ≡ answered (has_room out) o → P
unfolding answered
never_none P o out h e = go (has_room out) (roomy out h) e
  where
    go : (b : Bool) → b ≡ true → None ≡ answered b o → P
    go true t n = cc
    go false t n = cc

pub on_err : {A E : Type 0} (P : Type 0) (r : Result A E) → P → OnErr r P
on_err P (Ok a) p = tt
on_err P (Err e) p = p

pub on_err_map : {A E : Type 0} (P Q : Type 0) (r : Result A E) → (P → Q) → OnErr r P → OnErr r Q
on_err_map P Q (Ok a) f p = tt
on_err_map P Q (Err e) f p = f p

pub on_ok_map : {A E : Type 0} (P Q : Type 0) (r : Result A E) → (P → Q) → OnOk r P → OnOk r Q
on_ok_map P Q (Ok a) f p = f p
on_ok_map P Q (Err e) f p = tt

module _ (samples : List ℕ) where
  -- ---- a call of `feed`, whose text is then written
  pub record Written (now : Run) (rest out : List ℕ) (f : Fed) (next : Run) : Type 0 where
    pub text : take f.printed out ≡ spoken samples now (take f.taken rest)
    pub reached : next ≡ after samples now (take f.taken rest)

  pub call_written : (r : Run) (input line words out out' : List ℕ) (f : Fed) → f ≡ fed_of (fed samples (length out) r input)
      → line ≡ (fed samples (length out) r input).run.line → words ≡ (fed samples (length out) r input).run.words
      → out' ≡ sets out 0 (fed samples (length out) r input).text → f.printed ≤ length out
      → Written r input out' f (run_of f.state line words)
  call_written r input line words out out' f is wroteLine wroteWords stored within =
      let q = fed samples (length out) r input in
      let count : f.printed ≡ length q.text = ap (λ (x : Fed). x.printed) is in
      let taken : f.taken ≡ q.taken = ap (λ (x : Fed). x.taken) is in
      let reached : run_of f.state line words ≡ q.run = rw (is, wroteLine, wroteWords) refl in
      record {
        text = rw (stored, count, taken) (take_sets out q.text (omega (arith, within, count)) ∙ fed_text samples (length out) r input);
        reached = reached ∙ rw taken (fed_run samples (length out) r input);
      }

  -- what was taken before, and then these bytes
  pub ran_more : (start now next : Run) (a b : List ℕ) (u v w : Option (List ℕ)) → Ran samples start a u v now → Appends v w (spoken samples now b)
      → next ≡ after samples now b → Ran samples start (a ++ b) u w next
  ran_more start now next a b u v w ran grown reached =
      record {
        grown = subst (Appends u w) (ap (λ (q : Run). spoken samples start a ++ spoken samples q b) ran.carried ∙ sym (spoken_append samples start a b))
            (appends_then u v w _ _ ran.grown grown);
        carried = reached ∙ ap (λ (q : Run). after samples q b) ran.carried ∙ sym (after-append samples start a b);
      }

  pub cut_more : (start now : Run) (a b : List ℕ) (u v w : Option (List ℕ)) → Ran samples start a u v now → AppendsFront v w (spoken samples now b)
      → AppendsFront u w (spoken samples start (a ++ b))
  cut_more start now a b u v w ran cut =
      subst (AppendsFront u w) (ap (λ (q : Run). spoken samples start a ++ spoken samples q b) ran.carried ∙ sym (spoken_append samples start a b))
      (front_then u v w _ _ ran.grown cut)

  -- where a write fails, of bytes of which some were taken before
  pub cut_of : (start now : Run) (bytes done rest : List ℕ) (n : ℕ) (u v w : Option (List ℕ)) → bytes ≡ done ++ rest → Ran samples start done u v now
      → AppendsFront v w (spoken samples now (take n rest)) → AppendsFront u w (spoken samples start bytes)
  cut_of start now bytes done rest n u v w split ran cut =
      let parts : bytes ≡ (done ++ take n rest) ++ drop n rest = split ∙ ap (λ (l : List ℕ). done ++ l) (sym (take-append-drop n rest)) ∙ sym (append_assoc done (take n rest) (drop n rest)) in
      subst (λ (l : List ℕ). AppendsFront u w (spoken samples start l)) (sym parts)
      (subst (AppendsFront u w) (sym (spoken_append samples start (done ++ take n rest) (drop n rest)))
      (front_more u w _ _ (cut_more start now done (take n rest) u v w ran cut)))

  -- what more bytes print comes behind
  pub cut_longer : (start : Run) (a b : List ℕ) (u v : Option (List ℕ)) → AppendsFront u v (spoken samples start a) → AppendsFront u v (spoken samples start (a ++ b))
  cut_longer start a b u v cut = subst (AppendsFront u v) (sym (spoken_append samples start a b)) (front_more u v _ _ cut)

  pub ran_cut : (start now : Run) (a : List ℕ) (u v : Option (List ℕ)) → Ran samples start a u v now → AppendsFront u v (spoken samples start a)
  ran_cut start now a u v ran = subst (AppendsFront u v) (append-nil (spoken samples start a)) (all_front u v (spoken samples start a) [] ran.grown)

  -- ---- the transcript of all bytes
  told : (s : Session) (line : List ℕ) (bytes : List ℕ) → length line ≡ 64
      → spoken samples (run s line 0 no_words) bytes ++ (finished samples (after samples (run s line 0 no_words) bytes)).reply.text ≡ transcript samples s no_words bytes
  told s line bytes long = spoken_lines samples (run s line 0 no_words) [] bytes (none_kept samples s line no_words (omega (arith, long)))

  pub whole_told : (s : Session) (line bytes : List ℕ) (now : Run) (i j : Option (List ℕ)) (u v w : Option (List ℕ)) → length line ≡ 64
      → Consumes i j bytes → IsAtEnd j → Ran samples (run s line 0 no_words) bytes u v now → Appends v w (finished samples now).reply.text
      → IfSome i (λ all. Appends u w (transcript samples s no_words all))
  whole_told s line bytes now i j u v w long read end ran last =
      consumes_whole i j bytes (λ all. Appends u w (transcript samples s no_words all)) read end
      (subst (Appends u w) (ap (λ (q : Run). spoken samples (run s line 0 no_words) bytes ++ (finished samples q).reply.text) ran.carried ∙ told s line bytes long)
      (appends_then u v w _ _ ran.grown last))

  pub last_cut : (s : Session) (line bytes : List ℕ) (now : Run) (i j : Option (List ℕ)) (u v w : Option (List ℕ)) → length line ≡ 64
      → Consumes i j bytes → IsAtEnd j → Ran samples (run s line 0 no_words) bytes u v now → AppendsFront v w (finished samples now).reply.text
      → IfSome i (λ all. AppendsFront u w (transcript samples s no_words all))
  last_cut s line bytes now i j u v w long read end ran last =
      consumes_whole i j bytes (λ all. AppendsFront u w (transcript samples s no_words all)) read end
      (subst (AppendsFront u w) (ap (λ (q : Run). spoken samples (run s line 0 no_words) bytes ++ (finished samples q).reply.text) ran.carried ∙ told s line bytes long)
      (front_then u v w _ _ ran.grown last))

  pub front_told : (s : Session) (line bytes : List ℕ) (i j : Option (List ℕ)) (u w : Option (List ℕ)) → length line ≡ 64
      → Consumes i j bytes → AppendsFront u w (spoken samples (run s line 0 no_words) bytes)
      → IfSome i (λ all. AppendsFront u w (transcript samples s no_words all))
  front_told s line bytes i j u w long read cut =
      consumes_front i j bytes (λ all. AppendsFront u w (transcript samples s no_words all)) read
      (λ rest. subst (AppendsFront u w) (told s line (bytes ++ rest) long) (front_more u w _ _ (cut_longer (run s line 0 no_words) bytes rest u w cut)))
