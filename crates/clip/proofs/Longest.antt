-- The longest old clip, whose bytes are too many to be computed one by one. Assumes nothing.
use mathlib.Core.Path.{◌≡◌, refl, ap, ◌∙◌}
use mathlib.Core.List.{List, [], ◌∷◌, ◌++◌}
use Prim.Native.Nat.{ℕ, zero, suc, ◌+◌, ◌*◌, ◌/◌, ◌^◌, ◌<◌}
use native.Mathlib.Nat.{mod-lt}
use native.Mathlib.Omega.{arith}
use lib.Dec.{lit<}
use lib.Ieee.{of_bits, of_int, le, lt, eq}
use lib.ListN.{length, replicate, length-replicate}
use Rattle.std.specs.Prelude.{Ok}
use Rattle.buffer.specs.Limits.{valid_shape, valid_rate}
use Rattle.clip.specs.Layout.{onset_bytes, bytes, words, max_length, layout}
use Rattle.clip.specs.Reading.{clip_read}
use Rattle.clip.specs.Statement.{Below, IsClip}
use Rattle.clip.specs.Known.{header, longest}
use Rattle.clip.specs.declared.Form.{Form}
use Rattle.clip.specs.declared.Form.TheVariants as form
use Rattle.clip.proofs.RoundTrip.{length_made, complete}

below_append : (bound : ℕ) (xs ys : List ℕ) → Below bound xs → Below bound ys → Below bound (xs ++ ys)
below_append bound [] ys h g k = g k
below_append bound (x ∷ xs) ys h g zero = h zero
below_append bound (x ∷ xs) ys h g (suc k) = below_append bound xs ys (λ j. h (suc j)) g k

below_bytes : (n v : ℕ) → Below 256 (bytes n v)
unfolding bytes
below_bytes zero v k = lit< tt
below_bytes (suc n) v zero = mod-lt v (lit< tt)
below_bytes (suc n) v (suc k) = below_bytes n (v / 256) k

below_words : (ws : List ℕ) → Below 256 (words ws)
unfolding words
below_words [] k = lit< tt
below_words (w ∷ ws) k = below_append 256 (bytes 4 w) (words ws) (below_bytes 4 w) (below_words ws) k

pub below_layout : (f : Form) (channels frames rate onset : ℕ) (samples : List ℕ) → Below 256 (layout f channels frames rate onset samples)
unfolding layout
below_layout f channels frames rate onset samples =
    below_append 256 _ _ (below_bytes 2 _) (below_append 256 _ _ (below_bytes 2 _) (below_append 256 _ _ (below_bytes 4 _) (below_append 256 _ _ (below_bytes 4 _)
    (below_append 256 _ _ (below_bytes (onset_bytes f) _) (below_append 256 _ _ (below_words _) (below_words samples))))))

below_replicate : (n : ℕ) → Below (2 ^ 32) (replicate n 0)
below_replicate zero k = lit< tt
below_replicate (suc n) zero = lit< tt
below_replicate (suc n) (suc k) = below_replicate n k

full : length {A = ℕ} (replicate 16380 0) ≡ 16380
full = length-replicate {A = ℕ} 16380 0

long : length longest ≡ 65536
long = length_made form.Old 1 16380 0x473B8000 0 (replicate 16380 0) ∙ ap (λ n. 12 + 0 + 4 * 1 + 4 * n) full

is_longest : IsClip form.Old longest 1 16380 0x473B8000 0 (replicate 16380 0)
is_longest = record {
  laid_out = refl;
  some = omega arith;
  full = full;
  frames_fit = lit< tt;
  rate_fits = lit< tt;
  onset_fits = lit< tt;
  samples_fit = below_replicate 16380;
  short = omega (arith, long);
}

pub longest_read : clip_read longest ≡ Ok (header 16380 16)
unfolding clip_read valid_shape valid_rate of_bits of_int le lt eq
longest_read =
    let r = complete form.Old longest 1 16380 0x473B8000 0 (replicate 16380 0) is_longest in
    rw (r.0, r.1, r.2, r.3) refl

pub longest_bytes : Below 256 longest
longest_bytes = below_layout form.Old 1 16380 0x473B8000 0 (replicate 16380 0)

pub longest_length : max_length < length longest + 4
longest_length = omega (arith, long)
