-- Taking a channel of interleaved whole numbers, and narrowing f64 samples (docs/REFERENCE.md, 'Whole numbers'). Definitions only.
use Rattle.std.specs.Prelude.{ℕ, ◌+◌, ◌*◌, ◌/◌, ◌==◌, cond, not, nat_lt, List, length, get_or, Result, Ok, Err, Float}
use Rattle.std.specs.Float.{nan}
use Rattle.lists.specs.Table.{table}
use Rattle.rounding.specs.Rounding.{narrow}
use Rattle.buffer.specs.Limits.{valid_shape}
use Rattle.buffer.specs.declared.refusals.Refusal.{Refusal}
use Rattle.buffer.specs.declared.refusals.Refusal.TheVariants as refused
use Rattle.pcm.specs.WholeNumbers.{size, sample_at}
use Rattle.pcm.specs.declared.Bits.{Bits}

-- the bytes of a frame: a sample of each channel, one after another
abbrev pub frame_size : Bits → ℕ → ℕ
frame_size b channels = size b * channels

-- how many whole frames so many bytes are
abbrev pub frames_of : Bits → ℕ → ℕ → ℕ
frames_of b channels len = len / frame_size b channels

-- taking the channel `number` of `len` bytes into an output of the length `lent`: 1 where no buffer has those channels and frames, or the
-- bytes are not whole frames; 3; 8
unfoldable pub taken : Bits → ℕ → ℕ → ℕ → ℕ → Result Unit Refusal
taken b len channels number lent =
    let frames = frames_of b channels len in
    cond (not (valid_shape channels frames (channels * frames))) (Err refused.Shape)
    (cond (not (len == frame_size b channels * frames)) (Err refused.Shape)
    (cond (not (nat_lt number channels)) (Err refused.Channel)
    (cond (not (lent == frames)) (Err refused.Length)
    (Ok tt))))

-- the samples of that channel: frame i's stands behind the frames before it, and those of the channels before it
abbrev pub channel_samples : Bits → List ℕ → ℕ → ℕ → List ℕ
channel_samples b bytes channels number =
    table (frames_of b channels (length bytes)) (λ i. sample_at b bytes (frame_size b channels * i + size b * number))

-- f64 samples, into an output of the length `lent`: 8
abbrev pub narrowed : ℕ → ℕ → Result Unit Refusal
narrowed len lent = cond (not (lent == len)) (Err refused.Length) (Ok tt)

-- each narrowed to f32 bits
abbrev pub narrow_samples : List Float → List ℕ
narrow_samples values = table (length values) (λ i. narrow (get_or values i nan))
