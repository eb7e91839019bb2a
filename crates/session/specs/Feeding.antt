-- The bytes of an input, taken one after another, and a last line that lacks its newline (docs/REFERENCE.md, 'trial'). Definitions only.
use Rattle.std.specs.Prelude.{Bool, ◌&&◌, cond, List, [], ◌∷◌, ◌++◌, ℕ, ◌+◌, ◌≤◌, leb, ltb, eqb, length, take, set}
use Rattle.text.specs.Lines.{NEWLINE, block_room}
use Rattle.obeying.specs.Obeying.{reply, Outcome, outcome, obeyed}
use Rattle.obeying.specs.declared.Session.{Session}
use Rattle.session.specs.declared.State.{State}
use Rattle.session.specs.declared.Taken.{Taken}
use Rattle.session.specs.declared.Fed.{Fed}

-- what is carried from byte to byte: the session, the lent line and how much of it is used, the words of the lent block output
pub record Run : Type 0 where
  pub session : Session
  pub line : List ℕ
  pub len : ℕ
  pub words : List ℕ

abbrev pub run : Session → List ℕ → ℕ → List ℕ → Run
run s line len words = record { session = s; line = line; len = len; words = words }

abbrev pub run_of : State → List ℕ → List ℕ → Run
run_of state line words = run state.session line state.len words

abbrev pub state_of : Run → State
state_of r = record { session = r.session; len = r.len }

-- ---- a byte
-- the line so far is obeyed
unfoldable pub line_obeyed : List ℕ → Run → Outcome
line_obeyed samples r = obeyed samples r.session r.words (take r.len r.line)

-- a newline ends the line, and the next one begins
unfoldable pub ended : List ℕ → Run → Run
ended samples r = run (line_obeyed samples r).reply.session r.line 0 (line_obeyed samples r).words

-- any other byte is put behind the line so far; past the slice's end it has no room, and is left out
unfoldable pub lengthened : ℕ → ℕ → ℕ
lengthened len room = cond (ltb len room) (len + 1) len

unfoldable pub extended : Run → ℕ → Run
extended r b = run r.session (set r.line r.len b) (lengthened r.len (length r.line)) r.words

unfoldable pub stepped : List ℕ → Run → ℕ → Run
stepped samples r b = cond (eqb b NEWLINE) (ended samples r) (extended r b)

unfoldable pub said : List ℕ → Run → ℕ → List ℕ
said samples r b = cond (eqb b NEWLINE) (line_obeyed samples r).reply.text []

-- ---- all of a list of bytes: what is carried after them, and what they print
unfoldable pub after : List ℕ → Run → List ℕ → Run
after samples r [] = r
after samples r (b ∷ bs) = after samples (stepped samples r b) bs

unfoldable pub spoken : List ℕ → Run → List ℕ → List ℕ
spoken samples r [] = []
spoken samples r (b ∷ bs) = said samples r b ++ spoken samples (stepped samples r b) bs

-- ---- bytes, one after another: what is carried, how many were taken, and the text printed so far
pub record Progress : Type 0 where
  pub run : Run
  pub taken : ℕ
  pub text : List ℕ

abbrev pub progress : Run → ℕ → List ℕ → Progress
progress r taken text = record { run = r; taken = taken; text = text }

unfoldable pub advanced : List ℕ → Progress → ℕ → Progress
advanced samples f b = progress (stepped samples f.run b) (f.taken + 1) (f.text ++ said samples f.run b)

-- until the bytes are used up, or a block's text might not fit into `room` bytes behind what was printed
abbrev pub fits_behind : ℕ → ℕ → Bool
fits_behind printed room = leb (printed + block_room) room

unfoldable pub feeding : List ℕ → ℕ → Progress → List ℕ → Progress
feeding samples room f [] = f
feeding samples room f (b ∷ bs) = cond (fits_behind (length f.text) room) (feeding samples room (advanced samples f b) bs) f

unfoldable pub goes_on : ℕ → ℕ → ℕ → ℕ → Bool
goes_on taken input printed room = ltb taken input && fits_behind printed room

abbrev pub fed : List ℕ → ℕ → Run → List ℕ → Progress
fed samples room r input = feeding samples room (progress r 0 []) input

-- ---- the end of the input: a last line that lacks its newline is obeyed, if there is one
unfoldable pub finished : List ℕ → Run → Outcome
finished samples r = cond (eqb r.len 0) (outcome (reply r.session []) r.words) (line_obeyed samples r)

-- ---- the answers
abbrev pub taken_of : List ℕ → Run → ℕ → Taken
taken_of samples r b = record { state = state_of (stepped samples r b); printed = length (said samples r b) }

abbrev pub fed_of : Progress → Fed
fed_of f = record { state = state_of f.run; taken = f.taken; printed = length f.text }

-- what a caller goes by who writes what was printed and hands in the rest of the bytes: with room for a block, some are taken
pub record Moves (input room : ℕ) (r : Fed) : Type 0 where
  pub taken : r.taken ≤ input
  pub printed : r.printed ≤ room
  pub some : 1 ≤ input → block_room ≤ room → 1 ≤ r.taken
