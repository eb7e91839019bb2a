-- What is known where a split is accepted: every check before it passed. Assumes nothing.
use Rattle.std.proofs.Common.{◌≡◌, ℕ, ◌-◌, ◌*◌, ◌≤◌, Bool, true, false, not, ltb, List, length, take, drop, refl, ap, arith, length-drop, take_all, ltb-false}
use borrow.Author.Tests.{not-false}
use Rattle.lists.specs.Rows.{rows, rows_same}
use Rattle.buffer.specs.declared.refusals.Refusal.TheVariants as refused
use Rattle.buffer.specs.Limits.{valid_shape, valid_rate, Valid, valid}
use Rattle.buffer.specs.Channels.{channel, length_channel}
use Rattle.reshape.specs.Parting.{split_shapes}
use Rattle.buffer.specs.declared.Shape.{Shape}
use Rattle.buffer.specs.declared.refusals.Refusal.{Refusal}
use Rattle.std.specs.Prelude.{Result, Ok, Err}
use Rattle.buffer.proofs.Checks.{passed}

abbrev is_buffers : Result (Shape × Shape) Refusal → Bool
is_buffers (Ok (first, rest)) = true
is_buffers (Err number) = false

pub record Splits (shape : Shape) (len point : ℕ) (first rest : Shape) : Type 0 where
  pub whole : Valid shape.channels shape.frames len
  pub within : point ≤ shape.frames
  pub is_first : record { channels = shape.channels; frames = point; rate = shape.rate } ≡ first
  pub is_rest : record { channels = shape.channels; frames = shape.frames - point; rate = shape.rate } ≡ rest

pub splits : (shape : Shape) (len point : ℕ) (first rest : Shape) → split_shapes shape len point ≡ Ok (first, rest) → Splits shape len point first rest
unfolding split_shapes
splits shape len point first rest h =
    let one = passed is_buffers (not (valid_shape shape.channels shape.frames len)) (Err refused.Shape) _ (Ok (first, rest)) h refl refl in
    let two = passed is_buffers (not (valid_rate shape.rate)) (Err refused.Rate) _ (Ok (first, rest)) one.1 refl refl in
    let f : Shape = record { channels = shape.channels; frames = point; rate = shape.rate } in
    let r : Shape = record { channels = shape.channels; frames = shape.frames - point; rate = shape.rate } in
    let three = passed is_buffers (ltb shape.frames point) (Err refused.Point) (Ok (f, r)) (Ok (first, rest)) two.1 refl refl in
    let same : ◌≡◌ {A = Shape × Shape} (f, r) (first, rest) = cc three.1 in
    record {
      whole = valid _ _ _ (not-false _ one.0);
      within = ltb-false _ _ three.0;
      is_first = ap (λ (t : Shape × Shape). t.0) same;
      is_rest = ap (λ (t : Shape × Shape). t.1) same;
    }

-- the rest of each channel is all that is left of it
pub rest_is : (samples : List ℕ) (frames point count : ℕ) → point ≤ frames → length samples ≡ frames * count
    → rows count (λ c. take (frames - point) (drop point (channel samples frames c))) ≡ rows count (λ c. drop point (channel samples frames c))
rest_is samples frames point count within full =
    rows_same count _ _ (λ k h. take_all (frames - point) (drop point (channel samples frames k)) (simp length-drop (omega (arith, length_channel samples frames count k full h))))
