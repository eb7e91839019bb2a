-- The window of a fused product and sum: the product's digits p at the place x, and the digits g at the place y, in units of 2 ^ -2148, brought to a common place j.
-- One of the two is a multiple of 2 ^ j, both fit, and what goes below 2 ^ j is not seen by the rounding. Assumes nothing.
use Rattle.std.proofs.Common.{◌≡◌, ℕ, suc, ◌+◌, ◌-◌, ◌*◌, ◌%◌, ◌^◌, ◌<◌, ◌≤◌, ◌⊎◌, sym, refl, ap, ◌∙◌, inl, inr, le_trans, le_of_eq, lt_of_lt_of_le, le-add_right, le_of_lt, mul-le-mul_right, mul_assoc, add-mul, mul-lt-mul_of_pos_right, not-le_of_lt, le-add_left, arith, pow_pos, pow_mono, pow-add}
use Rattle.std.proofs.lemmas.Bool.{cases_lt}
use native.Mathlib.Nat.{mul-mod_left, pow-succ'}
use lib.Ieee.{binary64}
use Rattle.fused.specs.Sticky.{jam, Room, Window}
use Rattle.fused.proofs.Jam.{OneWhole, jam_lt_pow, Sound}
use Rattle.rounding.proofs.Sum.{mul_sub_r}

-- ---- room
pub room : (v e j b k : ℕ) → v < 2 ^ b → e ≤ j + k → b + (k + 1) ≤ 127 → Room v e j
room v e j b k h l s = go (cases_lt e j)
  where
    go : (e < j) ⊎ (j ≤ e) → Room v e j
    go (inl m) = inl m
    go (inr m) = inr (
      omega arith,
      lt_of_lt_of_le (mul-lt-mul_of_pos_right h (pow_pos (e - j + 1))) (le_trans (le_of_eq (sym (pow-add 2 b (e - j + 1)))) (pow_mono {i = b + (e - j + 1)} {j = 128} (omega arith))),
    )

pub shifted_lt : (v e j b k : ℕ) → v < 2 ^ b → e ≤ j + k → b + k ≤ 124 → v * 2 ^ e < 2 ^ (124 + j)
shifted_lt v e j b k h l s = lt_of_lt_of_le (mul-lt-mul_of_pos_right h (pow_pos e)) (le_trans (le_of_eq (sym (pow-add 2 b e))) (pow_mono {i = b + e} {j = 124 + j} (omega arith)))

pub jam_room : (v e j b k : ℕ) → v < 2 ^ b → e ≤ j + k → b + k ≤ 124 → jam (v * 2 ^ e) (2 ^ j) < 2 ^ 126
jam_room v e j b k h l s = lt_of_lt_of_le (jam_lt_pow (v * 2 ^ e) j 124 (shifted_lt v e j b k h l s)) (pow_mono {i = 125} {j = 126} (omega arith))

-- ---- multiples of 2 ^ j
factor : (v e j : ℕ) → j ≤ e → v * 2 ^ e ≡ v * 2 ^ (e - j) * 2 ^ j
factor v e j h = sym (mul_assoc v (2 ^ (e - j)) (2 ^ j) ∙ ap (λ (x : ℕ). v * x) (sym (pow-add 2 (e - j) j) ∙ ap (λ (x : ℕ). 2 ^ x) (back e j h)))
  where
    back : (e j : ℕ) → j ≤ e → e - j + j ≡ e
    back e j h = omega arith

whole : (v e j : ℕ) → j ≤ e → v * 2 ^ e % 2 ^ j ≡ 0
whole v e j h = ap (λ (x : ℕ). x % 2 ^ j) (factor v e j h) ∙ mul-mod_left (v * 2 ^ (e - j)) (2 ^ j)

-- ---- what the window gives
pub x_below : (x y j : ℕ) → Window x y j → x ≤ j + 18
x_below x y j (inl w) = le_of_eq (sym w.1)
x_below x y j (inr w) = let a = w.0 in let b = w.1 in omega arith

pub y_below : (x y j : ℕ) → Window x y j → y ≤ j + 71
y_below x y j (inl w) = let a = w.0 in let b = w.1 in omega arith
y_below x y j (inr w) = le_of_eq (sym w.1)

pub j_low : (x y j : ℕ) → 1074 ≤ y → Window x y j → 200 ≤ j
j_low x y j h (inl w) = let a = w.0 in let b = w.1 in omega arith
j_low x y j h (inr w) = let a = w.0 in let b = w.1 in omega arith

pub j_high : (x y j : ℕ) → x ≤ 4090 → y ≤ 3119 → Window x y j → j ≤ 4500
j_high x y j h k (inl w) = let b = w.1 in omega arith
j_high x y j h k (inr w) = let b = w.1 in omega arith

pub one_whole : (p x g y j : ℕ) → Window x y j → OneWhole (p * 2 ^ x) (g * 2 ^ y) (2 ^ j)
one_whole p x g y j (inl w) = let b = w.1 in inl (whole p x j (omega arith))
one_whole p x g y j (inr w) = let b = w.1 in inr (whole g y j (omega arith))

-- ---- a large number and a small one: a is 2 ^ (k + j) at least, b below 2 ^ (i + j)
gap : (a b c d : ℕ) → 2 * d ≤ c → c ≤ a → b < d → d ≤ a - b
gap a b c d x y z = omega arith

apart : (a b i k j : ℕ) → suc i ≤ k → 2 ^ (k + j) ≤ a → b < 2 ^ (i + j) → 2 ^ (i + j) ≤ a - b
apart a b i k j h p q = gap a b (2 ^ (k + j)) (2 ^ (i + j)) (le_trans (le_of_eq (sym (pow-succ' 2 (i + j)))) (pow_mono (less i k j h))) p q
  where
    less : (i k j : ℕ) → suc i ≤ k → suc (i + j) ≤ k + j
    less i k j h = omega arith

below : (a b i k j : ℕ) → suc i ≤ k → 2 ^ (k + j) ≤ a → b < 2 ^ (i + j) → b < a
below a b i k j h p q = lt_of_lt_of_le q (le_trans (pow_mono (less i k j h)) p)
  where
    less : (i k j : ℕ) → suc i ≤ k → i + j ≤ k + j
    less i k j h = omega arith

grown : (v e j b k : ℕ) → 2 ^ b ≤ v → j + k ≡ e → 2 ^ (b + k + j) ≤ v * 2 ^ e
grown v e j b k h s = le_trans (le_of_eq (ap (λ (x : ℕ). 2 ^ x) (places b k j e s) ∙ pow-add 2 b e)) (mul-le-mul_right (2 ^ e) h)
  where
    places : (b k j e : ℕ) → j + k ≡ e → b + k + j ≡ b + e
    places b k j e s = omega arith

shrunk : (v e j b : ℕ) → v < 2 ^ b → e < j → v * 2 ^ e < 2 ^ (b + j)
shrunk v e j b h l = lt_of_lt_of_le (mul-lt-mul_of_pos_right h (pow_pos e)) (le_trans (le_of_eq (sym (pow-add 2 b e))) (pow_mono (less b e j l)))
  where
    less : (b e j : ℕ) → e < j → b + e ≤ b + j
    less b e j l = omega arith

-- ---- what the rounding needs of the sum and of the differences
abbrev pub AllSound : ℕ → ℕ → ℕ → Type 0
AllSound a b j = Sound binary64 j 2148 (a + b) × (a < b → Sound binary64 j 2148 (b - a)) × (b < a → Sound binary64 j 2148 (a - b))

-- both are multiples
both_whole : (p x g y j : ℕ) → j ≤ x → j ≤ y → AllSound (p * 2 ^ x) (g * 2 ^ y) j
both_whole p x g y j h k =
    let a = p * 2 ^ (x - j) in
    let b = g * 2 ^ (y - j) in
    let t = 2 ^ j in
    let e = factor p x j h in
    let f = factor g y j k in (
      inl (ap (λ (n : ℕ). (n + g * 2 ^ y) % t) e ∙ ap (λ (n : ℕ). (a * t + n) % t) f ∙ ap (λ (n : ℕ). n % t) (sym (add-mul a b t)) ∙ mul-mod_left (a + b) t),
      λ l. inl (ap (λ (n : ℕ). (n - p * 2 ^ x) % t) f ∙ ap (λ (n : ℕ). (b * t - n) % t) e ∙ ap (λ (n : ℕ). n % t) (sym (mul_sub_r b a t)) ∙ mul-mod_left (b - a) t),
      λ l. inl (ap (λ (n : ℕ). (n - g * 2 ^ y) % t) e ∙ ap (λ (n : ℕ). (a * t - n) % t) f ∙ ap (λ (n : ℕ). n % t) (sym (mul_sub_r a b t)) ∙ mul-mod_left (a - b) t),
    )

-- the first is far larger
first_large : (a b i j : ℕ) → 53 ≤ i → 2 ^ (suc i + j) ≤ a → b < 2 ^ (i + j) → AllSound a b j
first_large a b i j h p q = (
  inr (inl (le_trans (pow_mono (more i j h)) (le_trans p (le-add_right a b)))),
  λ l. absurd (not-le_of_lt (below a b i (suc i) j (le_of_eq refl) p q) (le_of_lt l)),
  λ l. inr (inl (le_trans (pow_mono (much i j h)) (apart a b i (suc i) j (le_of_eq refl) p q))),
)
  where
    more : (i j : ℕ) → 53 ≤ i → 53 + j ≤ suc i + j
    more i j h = omega arith

    much : (i j : ℕ) → 53 ≤ i → 53 + j ≤ i + j
    much i j h = omega arith

second_large : (a b i j : ℕ) → 53 ≤ i → 2 ^ (suc i + j) ≤ b → a < 2 ^ (i + j) → AllSound a b j
second_large a b i j h p q = (
  inr (inl (le_trans (pow_mono (more i j h)) (le_trans p (le-add_left b a)))),
  λ l. inr (inl (le_trans (pow_mono (much i j h)) (apart b a i (suc i) j (le_of_eq refl) p q))),
  λ l. absurd (not-le_of_lt (below b a i (suc i) j (le_of_eq refl) p q) (le_of_lt l)),
)
  where
    more : (i j : ℕ) → 53 ≤ i → 53 + j ≤ suc i + j
    more i j h = omega arith

    much : (i j : ℕ) → 53 ≤ i → 53 + j ≤ i + j
    much i j h = omega arith

low_place : (a b j : ℕ) → j ≡ 1003 → AllSound a b j
low_place a b j e = (inr (inr (low j e)), λ l. inr (inr (low j e)), λ l. inr (inr (low j e)))
  where
    low : (j : ℕ) → j ≡ 1003 → j + 1074 < 2148
    low j e = omega arith

-- the product has 52 digits at least unless its place is 0; the other has 52 unless its place is the lowest, 1074
pub all_sound : (p x g y j : ℕ) → p < 2 ^ 106 → g < 2 ^ 53 → (x ≡ 0) ⊎ (2 ^ 52 ≤ p) → (y ≡ 1074) ⊎ (2 ^ 52 ≤ g) → Window x y j → AllSound (p * 2 ^ x) (g * 2 ^ y) j
all_sound p x g y j P G u v (inl w) = go (cases_lt y j) u
  where
    no : (x j : ℕ) → j + 18 ≡ x → x ≡ 0 → ⊥
    no x j e z = omega arith

    up : (x j : ℕ) → j + 18 ≡ x → j ≤ x
    up x j e = omega arith

    go : (y < j) ⊎ (j ≤ y) → (x ≡ 0) ⊎ (2 ^ 52 ≤ p) → AllSound (p * 2 ^ x) (g * 2 ^ y) j
    go (inr k) c = both_whole p x g y j (up x j w.1) k
    go (inl l) (inl z) = absurd (no x j w.1 z)
    go (inl l) (inr h) = first_large (p * 2 ^ x) (g * 2 ^ y) 53 j (le_of_eq refl) (le_trans (pow_mono (less j)) (grown p x j 52 18 h w.1)) (shrunk g y j 53 G l)
      where
        less : (j : ℕ) → 54 + j ≤ 70 + j
        less j = omega arith
all_sound p x g y j P G u v (inr w) = go (cases_lt x j) v
  where
    up : (y j : ℕ) → j + 71 ≡ y → j ≤ y
    up y j e = omega arith

    place : (y j : ℕ) → j + 71 ≡ y → y ≡ 1074 → j ≡ 1003
    place y j e z = omega arith

    go : (x < j) ⊎ (j ≤ x) → (y ≡ 1074) ⊎ (2 ^ 52 ≤ g) → AllSound (p * 2 ^ x) (g * 2 ^ y) j
    go (inr k) c = both_whole p x g y j k (up y j w.1)
    go (inl l) (inl z) = low_place (p * 2 ^ x) (g * 2 ^ y) j (place y j w.1 z)
    go (inl l) (inr h) = second_large (p * 2 ^ x) (g * 2 ^ y) 106 j (big) (le_trans (pow_mono (less j)) (grown g y j 52 71 h w.1)) (shrunk p x j 106 P l)
      where
        big : 53 ≤ 106
        big = omega arith

        less : (j : ℕ) → 107 + j ≤ 123 + j
        less j = omega arith
