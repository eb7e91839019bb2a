-- What holds of a whole run (docs/REFERENCE.md, 'trial'): however an input is cut into chunks, and wherever `feed` stops for want of room,
-- what is printed is the transcript of the input.
use Rattle.std.specs.Prelude.{◌≡◌, List, [], ◌∷◌, ◌++◌, cond, ℕ, zero, suc, ◌≤◌, eqb, length, take, drop}
use Rattle.text.specs.Lines.{block_room}
use Rattle.session.specs.Feeding.{Run, run, fed, finished}
use Rattle.session.specs.Transcript.{transcript}
use Rattle.obeying.specs.declared.Session.{Session}

-- a call of `feed`: the bytes that are handed in, and the length of the lent output
pub record Call : Type 0 where
  pub input : List ℕ
  pub room : ℕ

-- ---- calls one after another, each from what the one before it left
-- what is carried at the end
unfoldable pub left : List ℕ → Run → List Call → Run
left samples r [] = r
left samples r (k ∷ ks) = left samples (fed samples k.room r k.input).run ks

-- the bytes that were taken
unfoldable pub bytes : List ℕ → Run → List Call → List ℕ
bytes samples r [] = []
bytes samples r (k ∷ ks) =
    let f = fed samples k.room r k.input in
    take f.taken k.input ++ bytes samples f.run ks

-- what was printed
unfoldable pub printed : List ℕ → Run → List Call → List ℕ
printed samples r [] = []
printed samples r (k ∷ ks) =
    let f = fed samples k.room r k.input in
    f.text ++ printed samples f.run ks

-- the line's slice is longer than any command: what it leaves out of a line doesn't matter
abbrev pub long_enough : ℕ
long_enough = 53

abbrev pub AnyCalls : Type 0
AnyCalls = (samples : List ℕ) (s : Session) (line words : List ℕ) (calls : List Call) → long_enough ≤ length line
    → printed samples (run s line 0 words) calls ++ (finished samples (left samples (run s line 0 words) calls)).reply.text
    ≡ transcript samples s words (bytes samples (run s line 0 words) calls)

-- ---- the calls for an input that comes in chunks: what a call leaves of a chunk is handed in again
-- at most n calls for a chunk, with an output of `room` bytes
unfoldable pub calls_for : ℕ → List ℕ → ℕ → Run → List ℕ → List Call
calls_for zero samples room r chunk = []
calls_for (suc n) samples room r chunk =
    let f = fed samples room r chunk in
    cond (eqb (length chunk) 0) [] (record { input = chunk; room = room } ∷ calls_for n samples room f.run (drop f.taken chunk))

unfoldable pub calls_of : List ℕ → ℕ → Run → List (List ℕ) → List Call
calls_of samples room r [] = []
calls_of samples room r (c ∷ cs) =
    let ks = calls_for (length c) samples room r c in
    ks ++ calls_of samples room (left samples r ks) cs

-- the chunks, one after another
unfoldable pub joined : List (List ℕ) → List ℕ
joined [] = []
joined (c ∷ cs) = c ++ joined cs

abbrev pub WholeInput : Type 0
WholeInput = (samples : List ℕ) (s : Session) (line words : List ℕ) (room : ℕ) (chunks : List (List ℕ))
    → long_enough ≤ length line → block_room ≤ room
    → (let calls = calls_of samples room (run s line 0 words) chunks in
    printed samples (run s line 0 words) calls ++ (finished samples (left samples (run s line 0 words) calls)).reply.text
    ≡ transcript samples s words (joined chunks))

abbrev pub TranscriptOfChunks : Type 0
TranscriptOfChunks = AnyCalls × WholeInput
