-- A byte of the input, and bytes one after another. Assumes nothing.
use mathlib.Core.Path.{◌≡◌, refl, sym, ap, ◌∙◌}
use mathlib.Core.Bool.{Bool, true, false, ◌&&◌, cond}
use mathlib.Core.List.{List, [], ◌∷◌, ◌++◌}
use Prim.Native.Nat.{ℕ, ◌+◌, ◌-◌, ◌≤◌, ◌<◌, min}
use native.Mathlib.Numerals.{add-one}
use native.Mathlib.Omega.{arith}
use borrow.Author.Tests.{ltb-false, leb-true, leb-false, le-leb, lt-leb, le-ltb}
use lib.Dec.{leb, ltb, eqb}
use lib.ListN.{length, get_or, take, drop, length-append, drop_of_length-le}
use lib.Seq.{sets, length-sets, take_all, take-length, drop-cons}
use Rattle.text.specs.Lines.{NEWLINE, block_room}
use Rattle.session.proofs.Stores.{sets_append, part_back}
use Rattle.session.specs.declared.State.{State}
use Rattle.session.specs.declared.Taken.{Taken}
use Rattle.session.specs.declared.Fed.{Fed}
use Rattle.session.specs.Feeding.{Run, run_of, line_obeyed, stepped, said, Progress, progress, advanced, feeding, goes_on, fed, taken_of, fed_of}
use Rattle.obeying.proofs.Lengths.{obeyed_fits}

-- ---- lists
-- the first k elements, if there are so many
pub take_min : (k : ℕ) (l : List ℕ) → take (min k (length l)) l ≡ take k l
take_min k l = go (leb k (length l)) (leb-true k (length l)) (leb-false k (length l))
  where
    go : (t : Bool) → (t ≡ true → k ≤ length l) → (t ≡ false → length l < k) → take (min k (length l)) l ≡ take k l
    go true p q =
        let h = p refl in
        let e : min k (length l) ≡ k = omega arith in
        ap (λ m. take m l) e
    go false p q =
        let h = q refl in
        let e : min k (length l) ≡ length l = omega arith in
        ap (λ m. take m l) e ∙ take-length l ∙ sym (take_all k l (omega arith))

-- ---- a byte
pub said_fits : (samples : List ℕ) (r : Run) (b : ℕ) → length (said samples r b) ≤ block_room
unfolding said line_obeyed
said_fits samples r b = go (eqb b NEWLINE) _ (obeyed_fits samples r.session r.words (take r.len r.line))
  where
    go : (t : Bool) (l : List ℕ) → length l ≤ block_room → length (cond t l []) ≤ block_room
    go true l h = h
    go false l h = omega arith

abbrev fed_by : State → ℕ → ℕ → Fed
fed_by state taken printed = record { state = state; taken = taken; printed = printed }

-- ---- why the loop ends: no byte is left, or a block's text might lack room
pub no_byte : (taken input printed room : ℕ) → input ≤ taken → goes_on taken input printed room ≡ false
unfolding goes_on
no_byte taken input printed room none = rw (le-ltb taken input none) refl

pub no_room : (taken input printed room : ℕ) → printed ≤ room → room - printed < block_room → goes_on taken input printed room ≡ false
unfolding goes_on
no_room taken input printed room within less = rw (lt-leb (printed + block_room) room (omega arith)) (go (ltb taken input))
  where
    go : (t : Bool) → (t && false) ≡ false
    go true = refl
    go false = refl

-- what a byte prints fits behind what was printed
pub step_fits : (samples : List ℕ) (r : Run) (b printed room : ℕ) (step : Taken) → step ≡ taken_of samples r b → printed + block_room ≤ room → printed + step.printed ≤ room
step_fits samples r b printed room step is fits = omega (arith, ap (λ (t : Taken). t.printed) is, said_fits samples r b)

-- ---- bytes, one after another: what the loop has made so far
module _ (samples input out₀ : List ℕ) (start : Run) where
  pub record Reached (line words out : List ℕ) (state : State) (taken printed : ℕ) : Type 0 where
    pub text : List ℕ
    pub count : printed ≡ length text
    pub stored : out ≡ sets out₀ 0 text
    pub same : feeding samples (length out₀) (progress (run_of state line words) taken text) (drop taken input) ≡ fed samples (length out₀) start input

  pub reached_none : (line words : List ℕ) (state : State) → start ≡ run_of state line words → Reached line words out₀ state 0 0
  reached_none line words state is = record { text = []; count = refl; stored = refl; same = ap (λ (r : Run). fed samples (length out₀) r input) (sym is) }

  pub reached_length : (line words out : List ℕ) (state : State) (taken printed : ℕ) → Reached line words out state taken printed → length out ≡ length out₀
  reached_length line words out state taken printed at = ap length at.stored ∙ length-sets out₀ 0 at.text

  -- a turn
  feeding_more : (f : Progress) (i : ℕ) → i < length input → length f.text + block_room ≤ length out₀
      → feeding samples (length out₀) f (drop i input) ≡ feeding samples (length out₀) (advanced samples f (get_or input i 0)) (drop (i + 1) input)
  unfolding feeding
  feeding_more f i below room = rw (drop-cons input i 0 below, le-leb (length f.text + block_room) (length out₀) room, add-one i)

  pub reached_more : (line words out line' words' part out' : List ℕ) (state : State) (taken printed : ℕ) (step : Taken) → Reached line words out state taken printed
      → taken < length input → printed + block_room ≤ length out
      → step ≡ taken_of samples (run_of state line words) (get_or input taken 0) → line' ≡ (stepped samples (run_of state line words) (get_or input taken 0)).line
      → words' ≡ (stepped samples (run_of state line words) (get_or input taken 0)).words
      → part ≡ sets (take (length out - printed) (drop printed out)) 0 (said samples (run_of state line words) (get_or input taken 0))
      → out' ≡ take printed out ++ (part ++ drop (length out - printed) (drop printed out))
      → Reached line' words' out' step.state (taken + 1) (printed + step.printed)
  unfolding advanced
  reached_more line words out line' words' part out' state taken printed step at below room is wroteLine wroteWords wrotePart back =
      let r = run_of state line words in
      let b = get_or input taken 0 in
      let text = at.text in
      let count : printed ≡ length text = at.count in
      let whole = reached_length line words out state taken printed at in
      let front : printed ≡ 0 + length text = omega arith in
      let same : run_of step.state line' words' ≡ stepped samples r b = rw (is, wroteLine, wroteWords) in
      let next = feeding_more (progress r taken text) taken below (omega arith) in
      record {
        text = text ++ said samples r b;
        count = omega (arith, count, ap (λ (t : Taken). t.printed) is, length-append text (said samples r b));
        stored = back ∙ part_back out part (said samples r b) printed (omega arith) wrotePart ∙ ap (λ (l : List ℕ). sets l printed (said samples r b)) at.stored ∙ ap (λ k. sets (sets out₀ 0 text) k (said samples r b)) front ∙ sym (sets_append text (said samples r b) out₀ 0);
        same = ap (λ (q : Run). feeding samples (length out₀) (progress q (taken + 1) (text ++ said samples r b)) (drop (taken + 1) input)) same ∙ sym next ∙ at.same;
      }

  -- the end: no byte is left, or no room
  without_room : (f : Progress) (l : List ℕ) → leb (length f.text + block_room) (length out₀) ≡ false → feeding samples (length out₀) f l ≡ f
  unfolding feeding
  without_room f [] h = refl
  without_room f (b ∷ bs) h = rw h

  without_bytes : (f : Progress) (i : ℕ) → length input ≤ i → feeding samples (length out₀) f (drop i input) ≡ f
  unfolding feeding
  without_bytes f i h = rw (drop_of_length-le input {i = i} h)

  feeding_stops : (f : Progress) (i : ℕ) → goes_on i (length input) (length f.text) (length out₀) ≡ false → feeding samples (length out₀) f (drop i input) ≡ f
  unfolding goes_on
  feeding_stops f i h = go (ltb i (length input)) (ltb-false i (length input)) h
    where
      go : (t : Bool) → (t ≡ false → length input ≤ i) → (t && leb (length f.text + block_room) (length out₀)) ≡ false → feeding samples (length out₀) f (drop i input) ≡ f
      go true q e = without_room f (drop i input) e
      go false q e = without_bytes f i (q refl)

  pub reached_end : (line words out : List ℕ) (state : State) (taken printed : ℕ) (t : Bool) → Reached line words out state taken printed
      → t ≡ goes_on taken (length input) printed (length out) → t ≡ false
      → (fed_by state taken printed ≡ fed_of (fed samples (length out₀) start input)) × (line ≡ (fed samples (length out₀) start input).run.line)
      × (words ≡ (fed samples (length out₀) start input).run.words) × (out ≡ sets out₀ 0 (fed samples (length out₀) start input).text)
  reached_end line words out state taken printed t at test ends =
      let f = progress (run_of state line words) taken at.text in
      let stops : goes_on taken (length input) (length at.text) (length out₀) ≡ false = ap (λ k. goes_on taken (length input) k (length out₀)) (sym at.count) ∙ ap (goes_on taken (length input) printed) (sym (reached_length line words out state taken printed at)) ∙ sym test ∙ ends in
      let e : f ≡ fed samples (length out₀) start input = sym (feeding_stops f taken stops) ∙ at.same in
      (ap (fed_by state taken) at.count ∙ ap fed_of e, ap (λ (q : Progress). q.run.line) e, ap (λ (q : Progress). q.run.words) e, at.stored ∙ ap (λ (q : Progress). sets out₀ 0 q.text) e)

  -- the same once all bytes are taken
  pub reached_all : (line words out : List ℕ) (state : State) (taken printed : ℕ) → Reached line words out state taken printed → taken ≡ length input
      → (fed_by state (length input) printed ≡ fed_of (fed samples (length out₀) start input)) × (line ≡ (fed samples (length out₀) start input).run.line)
      × (words ≡ (fed samples (length out₀) start input).run.words) × (out ≡ sets out₀ 0 (fed samples (length out₀) start input).text)
  reached_all line words out state taken printed at all =
      let whole : Reached line words out state (length input) printed = rw all at at in
      reached_end line words out state (length input) printed _ whole refl (no_byte (length input) (length input) printed (length out) (omega arith))
