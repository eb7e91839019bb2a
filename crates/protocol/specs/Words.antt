-- The words of a line (oracle/PROTOCOL.md, 'Lines and words'). Definitions only.
use Rattle.std.specs.Prelude.{◌≡◌, List, [], ◌∷◌, ℕ, cond, eqb, leb, length, Option, Some, None, option_map}
use Rattle.std.specs.Borrow.{Bor}
use Rattle.std.specs.List.{slice_split}
use Rattle.protocol.specs.declared.words.Words.{Words}

-- 'Words are parted by exactly one space', whose byte is 32
unfoldable pub words : List ℕ → List (List ℕ)
words line = slice_split (λ b. eqb b 32) line

unfoldable pub words_of_rest : Option (Bor (List ℕ)) → List (List ℕ)
words_of_rest None = []
words_of_rest (Some rest) = words rest.now

-- the words that are left of a line
abbrev pub left : Words → List (List ℕ)
left w = words_of_rest w.rest

-- the words behind the first
unfoldable pub behind : List (List ℕ) → List (List ℕ)
behind [] = []
behind (w ∷ ws) = ws

-- what is read off the front of the words, and the words behind it
abbrev pub Reads : Type 0 → Type 0
Reads A = List (List ℕ) → Option (A × List (List ℕ))

-- one word, read as f says
unfoldable pub one : {A : Type 0} → (List ℕ → Option A) → Reads A
one f [] = None
one f (w ∷ ws) = option_map (λ x. (x, ws)) (f w)

-- no further word
abbrev pub give : {A : Type 0} → A → Reads A
give x ws = Some (x, ws)

-- what is read behind a value
abbrev pub read_on : {A B : Type 0} → Option (A × List (List ℕ)) → (A → Reads B) → Option (B × List (List ℕ))
read_on None k = None
read_on (Some r) k = k r.0 r.1

infixl 10 ◌>>=◌
abbrev pub ◌>>=◌ : {A B : Type 0} → Reads A → (A → Reads B) → Reads B
(p >>= k) ws = read_on (p ws) k

-- `[p]`: x where no word is left
abbrev pub optional : {A : Type 0} → A → Reads A → Reads A
optional x p ws = cond (eqb (length ws) 0) (Some (x, ws)) (p ws)

-- `[p]` in front of a last word that may be there: x where no more than that is left
abbrev pub optional_before_last : {A : Type 0} → A → Reads A → Reads A
optional_before_last x p ws = cond (leb (length ws) 1) (Some (x, ws)) (p ws)

-- the value that all of the words are
abbrev pub whole_read : {A : Type 0} → Option (A × List (List ℕ)) → Option A
whole_read None = None
whole_read (Some r) = cond (eqb (length r.1) 0) (Some r.0) None

abbrev pub whole : {A : Type 0} → Reads A → List (List ℕ) → Option A
whole p ws = whole_read (p ws)

-- what a function returned, seen by view, and the words that it left are what is read
abbrev pub Gives : {X Y : Type 0} → (X → Y) → Option X → List (List ℕ) → Option (Y × List (List ℕ)) → Type 0
Gives view None ws read = read ≡ None
Gives view (Some x) ws read = read ≡ Some (view x, ws)

-- a word is taken off, and what was returned is what f says of it
abbrev pub Takes : {X Y : Type 0} → (X → Y) → (List ℕ → Option Y) → Words → Option X → Words → Type 0
Takes view f before x after = Gives view x (left after) (one f (left before)) × (left after ≡ behind (left before))
