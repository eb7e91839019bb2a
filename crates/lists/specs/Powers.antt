-- Powers: a product's, and the whole root of a number, which has one value. That a power grows with its base is pow-le-pow_left and
-- pow-lt-pow_left of native.Mathlib.Nat. Assumes nothing.
use Rattle.std.specs.Prelude.{◌≡◌, ℕ, zero, suc, ◌+◌, ◌*◌, ◌^◌, ◌≤◌, ◌<◌}
use native.Mathlib.Nat.{le_antisymm, le_of_suc-le-suc, lt_of_not-le, lt_of_lt_of_le, lt_irrefl, le_trans, pow-zero, pow-suc, pow-le-pow_left, mul-mul-mul_comm}
use Rattle.std.proofs.Common.{add-one}

-- Nat.mul_pow
pub mul-pow : (a b n : ℕ) → (a * b) ^ n ≡ a ^ n * b ^ n
mul-pow a b zero = rw (pow-zero, pow-zero, pow-zero)
mul-pow a b (suc n) = rw (pow-suc, pow-suc, pow-suc, mul-pow a b n) (mul-mul-mul_comm (a ^ n) (b ^ n) a b)

-- a root that is at most k's is at most one that k's is below
pub root_le : (n : ℕ) {k f g : ℕ} → f ^ n ≤ k → k < (g + 1) ^ n → f ≤ g
root_le n {k} {f} {g} low high =
    le_of_suc-le-suc
    (rw add-one at (lt_of_not-le (λ (h : g + 1 ≤ f). lt_irrefl k (lt_of_lt_of_le high (le_trans (pow-le-pow_left h n) low)))))

-- f, the n-th root of k rounded down, is the only one
pub root_single : (n : ℕ) {k f g : ℕ} → f ^ n ≤ k → k < (f + 1) ^ n → g ^ n ≤ k → k < (g + 1) ^ n → f ≡ g
root_single n fl fh gl gh = le_antisymm (root_le n fl gh) (root_le n gl fh)
