-- A line as an order (oracle/PROTOCOL.md). Definitions only. Each form has the protocol's words in their order, with a name for each; 'a
-- line of any other form is unknown', and 'so is a wrong count of words'.
use Rattle.std.specs.Prelude.{List, ℕ, Bool, cond, codes, bytes_eq, Float, Option, Some, None, Result, Ok}
use Rattle.std.specs.Float.{binary32}
use Rattle.std.specs.Float.Ieee.{of_bits}
use Rattle.buffer.specs.declared.Shape.{Shape}
use Rattle.buffer.specs.declared.refusals.Refusal.{Refusal}
use Rattle.player.specs.declared.ControlMessage.{ControlMessage}
use Rattle.player.specs.declared.ControlMessage.TheVariants.{Start, Stop, Loop, LoopStart, LoopEnd}
use Rattle.tolerances.specs.declared.Tolerances.{Tolerances}
use Rattle.tolerances.specs.Tolerances.{defaults, made}
use Rattle.protocol.specs.declared.calls.ChannelCopy.{ChannelCopy}
use Rattle.protocol.specs.declared.calls.Call.{Call}
use Rattle.protocol.specs.declared.calls.Call.TheVariants as calls
use Rattle.protocol.specs.declared.orders.Speed.{Speed}
use Rattle.protocol.specs.declared.orders.Speed.TheVariants.{Factor, Cents}
use Rattle.protocol.specs.declared.orders.Request.{Request}
use Rattle.protocol.specs.declared.orders.Order.{Order}
use Rattle.protocol.specs.declared.orders.Order.TheVariants as orders
use Rattle.protocol.specs.Numbers.{decimal, decimal_up_to, f32_word, f64_word, i32_word, flag_word}
use Rattle.protocol.specs.Words.{Reads, one, ◌>>=◌, give, optional, optional_before_last, whole}

-- the values of a copy, and of a block or a preview
pub record Copied : Type 0 where
  pub shape : Shape
  pub channel : ℕ
  pub offset : ℕ
  pub len : ℕ

pub record Asked : Type 0 where
  pub time : Float
  pub rate : Float
  pub speed : Speed
  pub output : ℕ
  pub samples : Option ℕ

-- what an order asks for
pub data Line : Type 0 where
  Fresh : Float → Result Tolerances Refusal → ℕ → Line
  Message : ControlMessage → Line
  Block : Asked → Line
  Preview : Asked → Line
  Show : Line
  ShowRamp : Line
  Clip : Shape → Line
  CopyFrom : Copied → Line
  CopyTo : Copied → Line
  Extend : Shape → Shape → Line
  Split : Shape → ℕ → Line
  Convert : Shape → Float → Result Tolerances Refusal → Line

-- what the program's types say
abbrev pub copied : ChannelCopy → Copied
copied c = record { shape = c.shape; channel = c.channel; offset = c.offset; len = c.len }

abbrev pub asked : Request → Asked
asked q = record { time = q.time; rate = q.rate; speed = q.speed; output = q.output; samples = q.samples }

abbrev pub line_of_call : Call → Line
line_of_call (calls.Clip s) = Clip s
line_of_call (calls.CopyFrom c) = CopyFrom (copied c)
line_of_call (calls.CopyTo c) = CopyTo (copied c)
line_of_call (calls.Extend s t) = Extend s t
line_of_call (calls.Split s point) = Split s point
line_of_call (calls.Convert s wanted t) = Convert s wanted (Ok t)

abbrev pub line_of : Order → Line
line_of (orders.Fresh r t ramp) = Fresh r t ramp
line_of (orders.Message m) = Message m
line_of (orders.Block q) = Block (asked q)
line_of (orders.Preview q) = Preview (asked q)
line_of orders.Show = Show
line_of orders.ShowRamp = ShowRamp
line_of (orders.Call c) = line_of_call c
line_of (orders.Convert s wanted t) = Convert s wanted t

-- `dec`, `f32`, `f64`, a block's factor or cents, and `0|1`
abbrev pub dec : Reads ℕ
dec = one decimal

abbrev pub f32 : Reads Float
f32 = one f32_word

abbrev pub f64 : Reads Float
f64 = one f64_word

abbrev pub factor : Reads Speed
factor = f64 >>= λ x. give (Factor x)

abbrev pub cents : Reads Speed
cents = one i32_word >>= λ x. give (Cents x)

abbrev pub flag : Reads Bool
flag = one flag_word

-- `channels frames rate`
unfoldable pub shape : Reads Shape
shape = do
  channels ← dec
  frames ← dec
  rate ← f32
  give (record { channels = channels; frames = frames; rate = rate })

-- `f64 f64 f32`: 'near, near zero, relabel', made where the line is read
unfoldable pub three_tolerances : Reads (Result Tolerances Refusal)
three_tolerances = f64 >>= λ near. f64 >>= λ near_zero. f32 >>= λ relabel. give (made near near_zero relabel)

-- 'all three or none'; none are 'the defaults'
unfoldable pub tolerances : Reads (Result Tolerances Refusal)
tolerances = optional (Ok defaults) three_tolerances

-- `[f64 f64 f32] [dec]`: a player's tolerances, and 'the length of the player's ramp', '0 where there is none'
unfoldable pub own_tolerances : Reads (Result Tolerances Refusal)
own_tolerances = optional_before_last (Ok defaults) three_tolerances

unfoldable pub ramp : Reads ℕ
ramp = optional 0 dec

-- the words that there is room for (oracle/README.md, 'Our side'), and 'Buffers of KF and KT are at 48,000 (473B8000)'
abbrev pub ROOM : ℕ
ROOM = 262144

abbrev pub copy_rate : Float
copy_rate = of_bits binary32 1195081728

-- `channels frames channel offset len`
unfoldable pub copy : Reads Copied
copy = do
  channels ← dec
  frames ← dec
  channel ← dec
  offset ← dec
  len ← one (decimal_up_to ROOM)
  give (record { shape = record { channels = channels; frames = frames; rate = copy_rate }; channel = channel; offset = offset; len = len })

-- 'the length of the output lent (default 4,096, at most 65,536)', and that of the samples
unfoldable pub output : Reads ℕ
output = optional 4096 (one (decimal_up_to 65536))

unfoldable pub samples : Reads (Option ℕ)
samples = optional None (one (decimal_up_to ROOM) >>= λ n. give (Some n))

-- `f64 f32 f64 [dec [dec]]`, or `f64 f32 i32 [dec [dec]]`
unfoldable pub request : Reads Speed → Reads Asked
request read_speed = do
  time ← f64
  rate ← f32
  speed ← read_speed
  output ← output
  samples ← samples
  give (record { time = time; rate = rate; speed = speed; output = output; samples = samples })

-- the words behind a line's name
unfoldable pub named : List ℕ → Reads Line
named name =
    cond (bytes_eq name (codes "R")) (f32 >>= λ r. own_tolerances >>= λ t. ramp >>= λ n. give (Fresh r t n))
    (cond (bytes_eq name (codes "S")) (f64 >>= λ start. f64 >>= λ offset. f64 >>= λ duration. give (Message (Start start offset duration)))
    (cond (bytes_eq name (codes "T")) (f64 >>= λ x. give (Message (Stop x)))
    (cond (bytes_eq name (codes "P")) (f64 >>= λ x. give (Message (LoopStart x)))
    (cond (bytes_eq name (codes "E")) (f64 >>= λ x. give (Message (LoopEnd x)))
    (cond (bytes_eq name (codes "L")) (flag >>= λ x. give (Message (Loop x)))
    (cond (bytes_eq name (codes "B")) (request factor >>= λ q. give (Block q))
    (cond (bytes_eq name (codes "D")) (request cents >>= λ q. give (Block q))
    (cond (bytes_eq name (codes "M")) (request factor >>= λ q. give (Preview q))
    (cond (bytes_eq name (codes "N")) (request cents >>= λ q. give (Preview q))
    (cond (bytes_eq name (codes "Z")) (give Show)
    (cond (bytes_eq name (codes "Y")) (give ShowRamp)
    (cond (bytes_eq name (codes "C")) (shape >>= λ s. give (Clip s))
    (cond (bytes_eq name (codes "KF")) (copy >>= λ c. give (CopyFrom c))
    (cond (bytes_eq name (codes "KT")) (copy >>= λ c. give (CopyTo c))
    (cond (bytes_eq name (codes "J")) (shape >>= λ s. shape >>= λ t. give (Extend s t))
    (cond (bytes_eq name (codes "V")) (shape >>= λ s. dec >>= λ point. give (Split s point))
    (cond (bytes_eq name (codes "Q")) (shape >>= λ s. f32 >>= λ wanted. tolerances >>= λ t. give (Convert s wanted t))
    (λ ws. None))))))))))))))))))

-- the order that the words of a line are
unfoldable pub order : List (List ℕ) → Option Line
order = whole (one Some >>= named)
