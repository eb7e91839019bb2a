-- A test of every number below a bound. Assumes nothing.
use Rattle.std.proofs.Common.{◌≡◌, refl, Bool, true, false, ◌&&◌, ℕ, zero, suc, ◌+◌, ◌<◌, add-one, arith}
use Rattle.std.proofs.lemmas.Grind.{common_steps}
use Rattle.clip.specs.Reading.{each}

pub both : {a b : Bool} → a ≡ true → b ≡ true → (a && b) ≡ true
both p q = rw (p, q)

pub split : (a b : Bool) → (a && b) ≡ true → (a ≡ true) × (b ≡ true)
split true b h = (refl, h)
split false b h = (cc, cc)

pub each_more : (n : ℕ) (f : ℕ → Bool) → each n f ≡ true → f n ≡ true → each (n + 1) f ≡ true
unfolding each
each_more n f h here = rw (add-one n, h, here)

pub each_fails : (n k : ℕ) (f : ℕ → Bool) → k < n → f k ≡ false → each n f ≡ false
unfolding each
each_fails zero k f h bad = absurd (omega arith)
each_fails (suc n) k f h bad = grind (arith, common_steps, each_fails n k f)

pub each_at : (n k : ℕ) (f : ℕ → Bool) → each n f ≡ true → k < n → f k ≡ true
unfolding each
each_at zero k f h l = absurd (omega arith)
each_at (suc n) k f h l = grind (arith, common_steps, each_at n k f)

pub each_all : (n : ℕ) (f : ℕ → Bool) → ((k : ℕ) → k < n → f k ≡ true) → each n f ≡ true
unfolding each
each_all zero f h = refl
each_all (suc n) f h = grind (arith, common_steps, each_all n f, h)
