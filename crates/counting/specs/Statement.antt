-- docs/REFERENCE.md, 'Counting player': what a counter plays in each of its blocks, and when it has ended, as one claim for every block
-- length and every clip. Definitions only.
use Rattle.std.specs.Prelude.{◌≡◌, Bool, true, false, List, ℕ, zero, suc, ◌+◌, ◌*◌, ◌/◌, ◌%◌, ◌≤◌, ◌<◌, leb, length, get_or, Ok}
use Rattle.counting.specs.Counting.{made, has_ended, sample, report}
use Rattle.counting.specs.declared.Counter.{Counter}

-- after k accepted blocks of n samples
unfoldable pub after_blocks : ℕ → Counter → ℕ → Counter
after_blocks n c zero = c
after_blocks n c (suc k) = (report n (after_blocks n c k)).counter

-- block k, of n samples, of a counter that was made for a clip of l frames
pub record Counts (n l : ℕ) (looping : Bool) (k : ℕ) (c : Counter) : Type 0 where
  pub looped : looping ≡ true → (channel : List ℕ) (i : ℕ) → sample c channel i ≡ get_or channel ((n * k + i) % l) 0
  pub never_ends : looping ≡ true → has_ended c ≡ false
  -- past the last frame of a channel it is zero
  pub plain : looping ≡ false → (channel : List ℕ) (i : ℕ) → length channel ≤ l → sample c channel i ≡ get_or channel (n * k + i) 0
  pub ends : looping ≡ false → has_ended c ≡ leb l (n * k)

pub record TheCounter : Type 0 where
  pub counts : (n channels l : ℕ) (looping : Bool) (c : Counter) → 0 < n → made channels l looping ≡ Ok c → (k : ℕ)
      → Counts n l looping k (after_blocks n c k)
  -- so that in blocks of 128 it has ended after l / 128 of them, rounded up
  pub rounded_up : (l k : ℕ) → leb l (128 * k) ≡ leb ((l + 127) / 128) k
