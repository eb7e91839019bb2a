-- A line is a command exactly when it is that command's text (docs/REFERENCE.md, 'trial').
use Rattle.std.specs.Prelude.{◌≡◌, List, [], ◌∷◌, ◌++◌, ◌⊎◌, ℕ, ◌+◌, ◌^◌, ◌<◌, Some, None}
use Rattle.commands.specs.Digits.{SPACE, flag, hex}
use Rattle.commands.specs.Commands.{command}
use Rattle.commands.specs.declared.Command.{Command}
use Rattle.commands.specs.declared.Command.TheVariants.{Start, Stop, LoopStart, LoopEnd, Loop, Block}

-- a letter and a time, whose f64 bits are 16 hex digits with capital letters
abbrev pub time_line : ℕ → ℕ → List ℕ
time_line letter x = letter ∷ SPACE ∷ hex 16 x

-- the text of a command
unfoldable pub line_of : Command → List ℕ
line_of (Start x y z) = time_line 83 x ++ (SPACE ∷ (hex 16 y ++ (SPACE ∷ hex 16 z)))
line_of (Stop x) = time_line 84 x
line_of (LoopStart x) = time_line 80 x
line_of (LoopEnd x) = time_line 69 x
line_of (Loop on) = 76 ∷ SPACE ∷ (48 + flag on) ∷ []
line_of Block = 66 ∷ []

-- a command whose times are 64 bits
abbrev pub IsBits : ℕ → Type 0
IsBits x = x < 2 ^ 64

unfoldable pub IsCommand : Command → Type 0
IsCommand (Start x y z) = IsBits x × IsBits y × IsBits z
IsCommand (Stop x) = IsBits x
IsCommand (LoopStart x) = IsBits x
IsCommand (LoopEnd x) = IsBits x
IsCommand (Loop on) = Unit {0}
IsCommand Block = Unit {0}

abbrev pub TextsAreRead : Type 0
TextsAreRead = (k : Command) → IsCommand k → command (line_of k) ≡ Some k

abbrev pub LinesAreTexts : Type 0
LinesAreTexts = (line : List ℕ) → (command line ≡ None) ⊎ ((k : Command) × (command line ≡ Some k) × IsCommand k × (line ≡ line_of k))

abbrev pub CommandLines : Type 0
CommandLines = TextsAreRead × LinesAreTexts
