-- A line of `trial` as a command (docs/REFERENCE.md, 'trial'). Anything but the exact bytes is none. Definitions only.
use Rattle.std.specs.Prelude.{Bool, true, false, ◌&&◌, cond, List, ℕ, eqb, get_or, length, take, drop, codes, bytes_eq, Option, Some, None, option_and_then}
use Rattle.commands.specs.Digits.{SPACE, hex_number}
use Rattle.commands.specs.declared.Command.{Command}
use Rattle.commands.specs.declared.Command.TheVariants.{Start, Stop, LoopStart, LoopEnd, Loop, Block}

-- the byte at a place
abbrev pub at : List ℕ → ℕ → ℕ
at line k = get_or line k 0

abbrev pub space : List ℕ → ℕ → Bool
space line k = eqb (at line k) SPACE

-- `T x`, `P x`, `E x`
unfoldable pub time_of : ℕ → ℕ → Option Command
time_of letter x =
    cond (eqb letter 84) (Some (Stop x)) (cond (eqb letter 80) (Some (LoopStart x)) (cond (eqb letter 69) (Some (LoopEnd x)) None))

-- a letter, and the time behind it
unfoldable pub time_command : ℕ → List ℕ → Option Command
time_command letter time = option_and_then (time_of letter) (hex_number time)

-- `S when offset duration`
unfoldable pub start_of : Option ℕ → Option ℕ → Option ℕ → Option Command
start_of (Some x) (Some y) (Some z) = Some (Start x y z)
start_of (Some x) (Some y) None = None
start_of (Some x) None z = None
start_of None y z = None

-- the times behind `S`
unfoldable pub start_command : List ℕ → Option Command
start_command times =
    cond (eqb (length times) 50 && (space times 16 && space times 33))
    (start_of (hex_number (take 16 times)) (hex_number (take 16 (drop 17 times))) (hex_number (take 16 (drop 34 times))))
    None

unfoldable pub command : List ℕ → Option Command
command line =
    cond (bytes_eq line (codes "B")) (Some Block)
    (cond (bytes_eq line (codes "L 0")) (Some (Loop false))
    (cond (bytes_eq line (codes "L 1")) (Some (Loop true))
    (cond (space line 1)
    (cond (eqb (at line 0) 83) (start_command (drop 2 line)) (time_command (at line 0) (drop 2 line)))
    None)))
