-- Extend: a buffer is joined to another, channel by channel (docs/REFERENCE.md, 'Extend and split').
use Rattle.std.specs.Prelude.{ℕ, ◌+◌, cond, not, List, ◌++◌, ◌==◌, nat_lt}
use Rattle.std.specs.Float.Ieee.{ne}
use Rattle.lists.specs.Rows.{rows}
use Rattle.buffer.specs.declared.refusals.Refusal.TheVariants as refused
use Rattle.buffer.specs.Limits.{valid_shape, valid_rate, max_frames}
use Rattle.buffer.specs.Channels.{channel}
use Rattle.buffer.specs.declared.Shape.{Shape}
use Rattle.buffer.specs.declared.refusals.Refusal.{Refusal}
use Rattle.std.specs.Prelude.{Result, Ok, Err}

-- 1, 2, 4 and 7 for a buffer a of m samples and a buffer b of n samples, then the result's shape
unfoldable pub extended_shape : Shape → ℕ → Shape → ℕ → Result Shape Refusal
extended_shape a m b n =
    cond (not (valid_shape a.channels a.frames m)) (Err refused.Shape)
    (cond (not (valid_shape b.channels b.frames n)) (Err refused.Shape)
    (cond (not (valid_rate a.rate)) (Err refused.Rate)
    (cond (not (valid_rate b.rate)) (Err refused.Rate)
    (cond (ne a.rate b.rate) (Err refused.Unlike)
    (cond (not (a.channels == b.channels)) (Err refused.Unlike)
    (cond (nat_lt max_frames (a.frames + b.frames)) (Err refused.Long)
    (Ok (record { channels = a.channels; frames = a.frames + b.frames; rate = a.rate }))))))))

-- in each channel the frames of a, then those of b
abbrev pub joined : Shape → List ℕ → Shape → List ℕ → List ℕ
joined a samples b other = rows a.channels (λ c. channel samples a.frames c ++ channel other b.frames c)
