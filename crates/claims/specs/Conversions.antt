-- Conversion by a real change keeps time (docs/REFERENCE.md, 'Conversion'): converted clips lie over the originals at the same instants.
-- Definitions only.
use Rattle.std.specs.Prelude.{◌≡◌, ℕ, ◌+◌, ◌-◌, ◌*◌, ◌^◌, ◌<◌, true, false, T, from_bits, min, List, length, slice_index, Float, Ok}
use Rattle.std.specs.Float.{binary32}
use Rattle.std.specs.Float.Ieee.{fits, eq}
use Rattle.std.specs.Float.Ieee.Exact.{HasValue}
use Rattle.std.specs.Float.Ieee.Scale.{finite}
use Rattle.rounding.specs.Laws.{Within}
use Rattle.rounding.specs.Rounding.{widen}
use Rattle.buffer.specs.declared.Shape.{Shape}
use Rattle.buffer.specs.Channels.{channel}
use Rattle.tolerances.specs.declared.Tolerances.{Tolerances}
use Rattle.tolerances.specs.Tolerances.{tolerances_of, defaults}
use Rattle.seconds.specs.Seconds.{float_zero}
use Rattle.reshape.specs.Converting.{relabels_with, converted_shape_with, converted_samples_with, playhead}
use Rattle.reshape.specs.Known.{single, mono}

-- the next f32 above 48,000, and 48,000.5; the distance 1/2
abbrev pub above : Float
above = from_bits binary32 0x473b_8001

abbrev pub half_above : Float
half_above = from_bits binary32 0x473b_8080

abbrev pub half : Float
half = from_bits binary32 0x3f00_0000

-- a conversion by a real change, from one f32 rate to another, that is accepted; it is handed the tolerances t
pub record Converts (t : Tolerances) (shape : Shape) (len : ℕ) (rate : Float) (made : Shape) : Type 0 where
  pub source_single : T (fits binary32 shape.rate)
  pub target_single : T (fits binary32 rate)
  pub accepted : converted_shape_with t shape len rate ≡ Ok made
  pub changes : relabels_with t shape rate ≡ false

-- Frame i of the result lies at the instant i / target, which is i × source / target frames of the source. Where it is read, `playhead`, is
-- p times 2 ^ -1074 frames; the rates are s and t times 2 ^ -149: the smallest f64 and the smallest f32.
pub record SameInstant (source target : Float) (i : ℕ) : Type 0 where
  pub p : ℕ
  pub s : ℕ
  pub t : ℕ
  pub position : HasValue (playhead source target i) false p (2 ^ 1074)
  pub source_rate : HasValue source false s (2 ^ 149)
  pub target_rate : HasValue target false t (2 ^ 149)
  -- the product is exact, and the quotient is rounded: the relative error is 2 ^ -53 at most
  pub rounded : Within (i * s * 2 ^ 1074) (2 ^ 53 * (p * t)) (2 ^ 53 * (i * s * 2 ^ 1074))
  -- and so the position is within 2 ^ -28 frame
  pub frames : Within (2 ^ 1046 * t) (p * t) (i * s * 2 ^ 1074)

-- frame i of channel c of a buffer of n frames
abbrev pub frame_at : List ℕ → ℕ → ℕ → ℕ → ℕ
frame_at samples n c i = slice_index (channel samples n c) i

-- To m times the rate: m times the frames, and in each channel frame m × j of the result has the value of the source's frame j (a zero's
-- sign may differ), where that frame and the next (or last) are finite.
pub record KeepsFrames (t : Tolerances) (shape : Shape) (len : ℕ) (rate : Float) (made : Shape) (m : ℕ) : Type 0 where
  pub times : made.frames ≡ m * shape.frames
  pub kept : (samples : List ℕ) (c j : ℕ) → length samples ≡ len → c < shape.channels → j < shape.frames
      → T (finite (widen (frame_at samples shape.frames c j)))
      → T (finite (widen (frame_at samples shape.frames c (min (j + 1) (shape.frames - 1)))))
      → T (eq (widen (frame_at (converted_samples_with t shape samples rate) made.frames c (m * j)))
      (widen (frame_at samples shape.frames c j)))

-- ---- the claim, whatever tolerances are handed; `single n` is the whole number n as f32, and `mono` the shape of one channel
pub record KeepsTime : Type 0 where
  pub instants : (t : Tolerances) (shape : Shape) (len : ℕ) (rate : Float) (made : Shape) → Converts t shape len rate made → (i : ℕ)
      → i < made.frames
      → SameInstant shape.rate rate i
  pub multiples : (t : Tolerances) (shape : Shape) (len : ℕ) (rate : Float) (made : Shape) → Converts t shape len rate made → (s m : ℕ)
      → shape.rate ≡ single s
      → rate ≡ single (m * s) → KeepsFrames t shape len rate made m
  -- conversions that meet the premises: 2 frames at 24,000 make 4 at 48,000, and 3 at 48,000 make 2 at 32,000
  pub up : Converts defaults (mono 2 24000) 2 (single 48000) (mono 4 48000)
  pub down : Converts defaults (mono 3 48000) 3 (single 32000) (mono 2 32000)
  -- with the distance 0, from 48,000 to the next f32 above it, 2 frames make 3; with the default they are relabelled
  pub next : Converts (tolerances_of float_zero float_zero float_zero) (mono 2 48000) 2 above
      (record { channels = 1; frames = 3; rate = above })
  pub relabelled : relabels_with defaults (mono 2 48000) above ≡ true
  -- to 48,000.5 the default makes 3 frames, and with the distance 1/2 they are relabelled
  pub converted : Converts defaults (mono 2 48000) 2 half_above (record { channels = 1; frames = 3; rate = half_above })
  pub relabelled_wider : relabels_with (tolerances_of float_zero float_zero half) (mono 2 48000) half_above ≡ true
