-- The word in the bytes from a place on, byte by byte; and where the bytes of a channel lie. Assumes nothing.
use mathlib.Core.Path.{◌≡◌, refl, ap, ap₂, ◌∙◌}
use mathlib.Core.List.{List}
use Prim.Native.Nat.{ℕ, suc, ◌+◌, ◌*◌, ◌≤◌, ◌<◌}
use native.Mathlib.Nat.{add-zero}
use native.Mathlib.Omega.{arith}
use lib.ListN.{get_or, drop}
use lib.Seq.{get_or-drop, drop-drop}
use Rattle.clip.specs.Reading.{number}
use Rattle.lists.specs.Rows.{row_fits}
use Rattle.buffer.specs.Limits.{valid_shape}
use mathlib.Core.Bool.{Bool, true, false, ◌&&◌}
use borrow.Author.Tests.{lt-leb}
use lib.Dec.{leb}
use Rattle.pcm.specs.WholeNumbers.{size}
use Rattle.pcm.specs.Taking.{frame_size}
use Rattle.pcm.specs.declared.Bits.{Bits}

-- the lowest byte first, and then the number of the others
more : (n : ℕ) (l : List ℕ) (at : ℕ) → number (suc n) (drop at l) ≡ get_or l at 0 + 256 * number n (drop (at + 1) l)
unfolding number
more n l at =
    ap₂ (λ (a b : ℕ). a + 256 * b)
    (get_or-drop at l 0 0 ∙ ap (λ k. get_or l k 0) (add-zero at))
    (ap (number n) (drop-drop 1 at l))

none : (l : List ℕ) → number 0 l ≡ 0
unfolding number
none l = refl

pub one : (l : List ℕ) (at : ℕ) → number 1 (drop at l) ≡ get_or l at 0
one l at = omega (arith, more 0 l at, none (drop (at + 1) l))

pub two : (l : List ℕ) (at : ℕ) → number 2 (drop at l) ≡ get_or l at 0 + 256 * get_or l (at + 1) 0
two l at = omega (arith, more 1 l at, one l (at + 1))

next : (n : ℕ) (l : List ℕ) (at k : ℕ) → number n (drop (at + k + 1) l) ≡ number n (drop (at + (k + 1)) l)
next n l at k = let e : at + k + 1 ≡ at + (k + 1) = omega arith in ap (λ j. number n (drop j l)) e

third : (l : List ℕ) (at : ℕ) → get_or l (at + 1 + 1) 0 ≡ get_or l (at + 2) 0
third l at = let e : at + 1 + 1 ≡ at + 2 = omega arith in ap (λ j. get_or l j 0) e

pub three : (l : List ℕ) (at : ℕ) → number 3 (drop at l) ≡ get_or l at 0 + 256 * get_or l (at + 1) 0 + 65536 * get_or l (at + 2) 0
three l at = omega (arith, more 2 l at, two l (at + 1), third l at)

fourth : (l : List ℕ) (at : ℕ) → get_or l (at + 1 + 2) 0 ≡ get_or l (at + 3) 0
fourth l at = let e : at + 1 + 2 ≡ at + 3 = omega arith in ap (λ j. get_or l j 0) e

pub four : (l : List ℕ) (at : ℕ) → number 4 (drop at l)
    ≡ get_or l at 0 + 256 * get_or l (at + 1) 0 + 65536 * get_or l (at + 2) 0 + 16777216 * get_or l (at + 3) 0
four l at = omega (arith, more 3 l at, three l (at + 1), third l at, fourth l at)

-- the samples of a channel lie within each frame
pub within : (b : Bits) (channels number : ℕ) → number < channels → size b * number + size b ≤ frame_size b channels
within b channels number h = row_fits (size b) number channels h

-- of no channels, and of more than a buffer has, there is no shape
pub no_channels : (channels frames len : ℕ) → channels ≡ 0 → valid_shape channels frames len ≡ false
unfolding valid_shape
no_channels channels frames len h = rw h refl

pub many_channels : (channels frames len : ℕ) → 32 < channels → valid_shape channels frames len ≡ false
unfolding valid_shape
many_channels channels frames len h = rw (lt-leb channels 32 h) (off (leb 1 channels))
  where
    off : (b : Bool) → (b && false) ≡ false
    off true = refl
    off false = refl
