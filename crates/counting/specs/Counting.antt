-- docs/REFERENCE.md, 'Counting player': how it is made, which frame each sample of a block has, and what the block answers. In whole
-- numbers alone. n is the block length. Definitions only.
use Rattle.std.specs.Prelude.{Bool, true, false, not, cond, List, ℕ, ◌+◌, ◌*◌, ◌%◌, leb, eqb, min, length, get_or, Result, Ok, Err}
use Rattle.buffer.specs.Limits.{valid_shape}
use Rattle.buffer.specs.Answers.{answer_of, stored, after_checks}
use Rattle.buffer.specs.declared.refusals.Refusal.{Refusal}
use Rattle.buffer.specs.declared.refusals.Refusal.TheVariants as refused
use Rattle.player.specs.Block.{written}
use Rattle.counting.specs.declared.Counter.{Counter}
use Rattle.counting.specs.declared.Counted.{Counted}

-- ---- making one: 1, then 12
unfoldable pub made : ℕ → ℕ → Bool → Result Counter Refusal
made channels frames looping =
    cond (not (valid_shape channels frames (channels * frames))) (Err refused.Shape)
    (cond (eqb frames 0) (Err refused.Empty)
    (Ok (record { channels = channels; frames = frames; next = 0; looping = looping })))

-- ---- a block
-- ended: no frame comes next
unfoldable pub has_ended : Counter → Bool
has_ended c = leb c.frames c.next

-- the frame of sample i: looped, the remainder by L
unfoldable pub frame_at : Counter → ℕ → ℕ
frame_at c i = cond c.looping ((c.next + i) % c.frames) (c.next + i)

-- sample i in a channel: zero past its last frame, and once ended
unfoldable pub sample : Counter → List ℕ → ℕ → ℕ
sample c channel i = cond (has_ended c) 0 (get_or channel (frame_at c i) 0)

-- after a block the frame that sample n would have comes next; unlooped, at most L
unfoldable pub counted_on : ℕ → Counter → Counter
counted_on n c = record { channels = c.channels; frames = c.frames; next = min (frame_at c n) c.frames; looping = c.looping }

-- silence is one channel of zeros, and counts nothing
abbrev pub silent : Counter → Counted
silent c = record { counter = c; keep_alive = false; ended = true; channels = 1 }

abbrev pub playing : ℕ → Counter → Counted
playing n c = record { counter = counted_on n c; keep_alive = true; ended = has_ended (counted_on n c); channels = c.channels }

unfoldable pub report : ℕ → Counter → Counted
report n c = cond (has_ended c) (silent c) (playing n c)

-- ---- the refusals, 8, then 1; the answer; and what the output then holds
unfoldable pub checked : ℕ → Counter → ℕ → ℕ → Result Unit Refusal
checked n c outLength samplesLength =
    cond (not (eqb outLength (32 * n))) (Err refused.Length)
    (cond (not (valid_shape c.channels c.frames samplesLength)) (Err refused.Shape)
    (Ok tt))

unfoldable pub rendered : ℕ → Counter → ℕ → ℕ → Result Counted Refusal
rendered n c outLength samplesLength = after_checks (checked n c outLength samplesLength) (report n c)

unfoldable pub output : ℕ → Counter → List ℕ → List ℕ → List ℕ
output n c out samples =
    stored (answer_of (checked n c (length out) (length samples)))
    (written n (sample c) c.frames samples out (report n c).channels) out
