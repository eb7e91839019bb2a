-- What a run does to the bytes that are left of its reader and those that its writer holds, where they are known
-- (docs/REFERENCE.md, 'trial'). Definitions only.
use Rattle.std.specs.Prelude.{◌≡◌, List, ◌++◌, ℕ, Option}
use Rattle.std.specs.Io.KnownBytes.{Appends}
use Rattle.session.specs.Feeding.{Run, after, spoken}

-- the known bytes grew by a front of a text
pub record AppendsFront (old new : Option (List ℕ)) (text : List ℕ) : Type 0 where
  pub front : List ℕ
  pub rest : List ℕ
  pub whole : text ≡ front ++ rest
  pub grown : Appends old new front

-- all of some bytes were taken: the known bytes grew by what they print
pub record Ran (samples : List ℕ) (start : Run) (bytes : List ℕ) (old new : Option (List ℕ)) (now : Run) : Type 0 where
  pub grown : Appends old new (spoken samples start bytes)
  pub carried : now ≡ after samples start bytes
