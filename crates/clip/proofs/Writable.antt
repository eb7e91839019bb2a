-- What is known of a clip that the writer takes. Assumes nothing.
use mathlib.Core.Path.{◌≡◌}
use mathlib.Core.Bool.{true}
use Prim.Native.Nat.{ℕ, ◌+◌, ◌*◌, ◌≤◌, ◌<◌}
use native.Mathlib.Nat.{mul-le-mul_left, mul-one}
use native.Mathlib.Omega.{arith}
use lib.Dec.{leb}
use borrow.Author.Tests.{leb-true, ltb-true}
use Rattle.std.specs.Prelude.{Ok}
use Rattle.buffer.specs.Limits.{valid_shape, valid_rate, valid}
use Rattle.buffer.specs.declared.Shape.{Shape}
use Rattle.clip.specs.Layout.{file_length, max_length}
use Rattle.clip.specs.Writing.{is_file, length_to_write}
use Rattle.clip.specs.declared.Form.TheVariants as form
use Rattle.clip.specs.Passed.{passes}
use Rattle.clip.proofs.Each.{split}

pub record Writable (shape : Shape) (len onset n : ℕ) : Type 0 where
  pub few : shape.channels ≤ 32
  pub some : 1 ≤ shape.frames
  pub short : shape.frames ≤ 16380
  pub full : len ≡ shape.channels * shape.frames
  pub shape_fits : valid_shape shape.channels shape.frames len ≡ true
  pub rate_fits : valid_rate shape.rate ≡ true
  pub below : onset < shape.frames
  pub long : n ≡ 16 + 4 * shape.channels + 4 * len
  pub at_most : n ≤ max_length

pub writable : (shape : Shape) (len onset n : ℕ) → length_to_write shape len onset ≡ Ok n → Writable shape len onset n
unfolding length_to_write
writable shape len onset n e =
    let C = shape.channels in
    let N = shape.frames in
    let p = passes (is_file C N) shape len onset (file_length form.New C N) n e in
    let file = split (leb 1 N) (leb (file_length form.New C N) max_length) p.0.layout in
    let v = valid C N len p.0.shape_fits in
    let most : 16 + 4 * C + 4 * N * C ≤ 65536 = leb-true _ _ file.1 in
    let rows : 4 * N * C ≡ 4 * (C * N) = omega arith in
    record {
      few = v.few;
      some = leb-true _ _ file.0;
      short = omega (arith, most, rows, mul-le-mul_left N v.some, mul-one N);
      full = v.full;
      shape_fits = p.0.shape_fits;
      rate_fits = p.0.rate_fits;
      below = ltb-true _ _ p.0.below;
      long = omega (arith, p.1, rows, v.full);
      at_most = omega (arith, p.1, most);
    }
