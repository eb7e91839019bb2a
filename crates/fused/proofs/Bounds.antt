-- a * b + c rounded after the product and after the sum, beside a * b + c rounded once, in whole numbers. In units of the smallest value the product is M / D, the rounded product P, c C.
-- Of the sums and differences of their magnitudes, q is that of P and C, Y is q rounded, T / D that of the product and C, and R is T / D rounded. Assumes nothing.
use Rattle.std.proofs.Common.{◌≡◌, ℕ, zero, suc, ◌+◌, ◌-◌, ◌*◌, ◌^◌, ◌<◌, ◌≤◌, sym, ap, subst, inl, inr, le_of_lt, mul-le-mul_right, mul_comm, lt_of_mul-lt-mul_right, mul-le-mul_left, mul-pos, pow-suc, lt_of_not-le, le_of_mul-le-mul_right, mul_left_comm, arith, pow_pos, pow_mono, pow-add}
use lib.Ieee.Nearest.{closest}
use Rattle.rounding.specs.Laws.{Within}
use Rattle.rounding.specs.Fields.{Full}
use Rattle.rounding.proofs.Closest.{closest_near}
use Rattle.rounding.proofs.Sum.{Order, order, less, more, none}

-- ---- what is nearer to q than half is rounded to q
pub closest_is : (n q u : ℕ) → 2 * (q * u) < 2 * n + u → 2 * n < 2 * (q * u) + u → 0 < u → closest n u ≡ q
closest_is n q u h k U = go (closest n u) (closest_near n u U)
  where
    go : (z : ℕ) → (2 * (z * u) ≤ 2 * n + u) × (2 * n ≤ 2 * (z * u) + u) → z ≡ q
    go z near =
        let a : z < q + 1 = lt_of_mul-lt-mul_right u {m = z} {n = q + 1} (omega arith) in
        let b : q < z + 1 = lt_of_mul-lt-mul_right u {m = q} {n = z + 1} (omega arith) in
        omega arith

-- ---- the errors of the two roundings, and of the one
-- M / D rounded to P, with G = 2 ^ prec
abbrev pub Off : ℕ → ℕ → ℕ → ℕ → Type 0
Off G D M P = Within (2 * M + G * D) (2 * (G * (P * D))) (2 * (G * M))

pub cancel_unit : (G D u T R : ℕ) → 0 < u → Off G (D * u) (T * u) R → Off G D T R
cancel_unit G D u T R U h = (le_of_mul-le-mul_right {k = u} (omega arith) U, le_of_mul-le-mul_right {k = u} (omega arith) U)

-- T / D is off from q by the product's error alone, and is not large beside Y
abbrev pub Linked : ℕ → ℕ → ℕ → ℕ → ℕ → ℕ → Type 0
Linked G D M q Y T = Within (2 * M + G * D) (2 * (G * T)) (2 * (G * (q * D))) × (T ≤ 66 * (Y * D) + D)

module _ (G D M C P Y q : ℕ) (large : 512 ≤ G) (pos : 0 < D) (some : 6 ≤ Y) (product : Off G D M P) (total : Within q (G * Y) (G * q)) (most : P ≤ 32 * Y) where
  at_most_twice : q ≤ 2 * Y
  at_most_twice = let a = mul-le-mul_right q large in le_of_mul-le-mul_right {k = G} (omega arith) (omega arith)

  at_least_half : Y ≤ 2 * q
  at_least_half = let a = mul-le-mul_right q large in le_of_mul-le-mul_right {k = G} (omega arith) (omega arith)

  product_most : M ≤ 64 * (Y * D) + D
  product_most =
      let a = mul-le-mul_right M large in
      let b : M ≤ 2 * (P * D) + D = le_of_mul-le-mul_right {k = G} (omega arith) (omega arith) in
      let c = mul-le-mul_right D most in
      omega arith

  -- where P is above C by q, or C above P, so are the exact terms
  pub product_above : q + C ≡ P → C * D < M
  product_above e = lt_of_not-le (λ (g : M ≤ C * D). no g)
    where
      no : M ≤ C * D → ⊥
      no g =
          let a = mul-le-mul_left G g in
          let b = ap (λ (x : ℕ). x * (G * D)) e in
          let c = ap (λ (x : ℕ). x * D) e in
          let d = mul-le-mul_right D most in
          let f = mul-le-mul_right D at_least_half in
          let h = mul-le-mul_right (q * D) large in
          let i : 3 ≤ q = omega (arith, at_least_half) in
          let j = mul-le-mul_right (G * D) i in
          let k : 0 < G * D = mul-pos (omega arith) pos in
          omega arith

  pub product_below : q + P ≡ C → M < C * D
  product_below e = lt_of_not-le (λ (g : C * D ≤ M). no g)
    where
      no : C * D ≤ M → ⊥
      no g =
          let a = mul-le-mul_left G g in
          let b = ap (λ (x : ℕ). x * (G * D)) e in
          let c = product_most in
          let f = mul-le-mul_right D at_least_half in
          let h = mul-le-mul_right (q * D) large in
          let i : 3 ≤ q = omega (arith, at_least_half) in
          let j = mul-le-mul_right (G * D) i in
          let l = mul-le-mul_right D large in
          let k : 0 < G * D = mul-pos (omega arith) pos in
          omega arith

  pub linked_sum : P + C ≡ q → (T : ℕ) → M + C * D ≡ T → Linked G D M q Y T
  linked_sum e T t =
      let a = ap (λ (x : ℕ). x * (G * D)) e in
      let b = ap (λ (x : ℕ). x * D) e in
      let c = ap (λ (x : ℕ). G * x) t in
      let d = mul-le-mul_right D at_most_twice in
      let f = product_most in
      (omega arith, omega arith)

  pub linked_above : q + C ≡ P → (T : ℕ) → T + C * D ≡ M → Linked G D M q Y T
  linked_above e T t =
      let a = ap (λ (x : ℕ). x * (G * D)) e in
      let c = ap (λ (x : ℕ). G * x) t in
      let f = product_most in
      (omega arith, omega arith)

  pub linked_below : q + P ≡ C → (T : ℕ) → T + M ≡ C * D → Linked G D M q Y T
  linked_below e T t =
      let a = ap (λ (x : ℕ). x * (G * D)) e in
      let b = ap (λ (x : ℕ). x * D) e in
      let c = ap (λ (x : ℕ). G * x) t in
      let d = mul-le-mul_right D at_most_twice in
      let f = mul-le-mul_right D most in
      (omega arith, omega arith)

  -- T / D is near the sum rounded twice
  pub sum_near : (T K : ℕ) → Linked G D M q Y T → Y ≤ G * K → 3 ≤ K → Within (128 * (K * D)) T (Y * D)
  sum_near T K link y k =
      let m = product_most in
      let s0 = mul-le-mul_right D total.0 in
      let s1 = mul-le-mul_right D total.1 in
      let t = mul-le-mul_right D at_most_twice in
      let yk = mul-le-mul_right D y in
      let kk = mul-le-mul_right (G * D) k in
      let g = mul-le-mul_right D large in
      let l = link.0 in
      let z : 0 < 2 * G = mul-pos (omega arith) (omega arith) in
      (le_of_mul-le-mul_right {k = 2 * G} (omega arith) z, le_of_mul-le-mul_right {k = 2 * G} (omega arith) z)

-- and so is the sum rounded once
pub once_near : (G D T Y R K : ℕ) → 512 ≤ G → 0 < D → Within (128 * (K * D)) T (Y * D) → T ≤ 66 * (Y * D) + D → Off G D T R → Y ≤ G * K → 3 ≤ K → Within (256 * K) R Y
once_near G D T Y R K large pos near most once y k =
    let a0 = mul-le-mul_left G near.0 in
    let a1 = mul-le-mul_left G near.1 in
    let yk = mul-le-mul_right D y in
    let kk = mul-le-mul_right (G * D) k in
    let g = mul-le-mul_right D large in
    let z : 0 < 2 * (G * D) = mul-pos (omega arith) (mul-pos (omega arith) pos) in
    (le_of_mul-le-mul_right {k = 2 * (G * D)} (omega arith) z, le_of_mul-le-mul_right {k = 2 * (G * D)} (omega arith) z)

-- ---- values and their patterns. H is the weight of the field; the digits d stand at the place k, and e at j
module _ (H : ℕ) (large : 1024 ≤ H) where
  -- the place is the same
  same_place : (d e K : ℕ) → 0 < K → Within (256 * K) (e * K) (d * K) → Within 256 e d
  same_place d e K k w = (le_of_mul-le-mul_right {k = K} (omega arith) k, le_of_mul-le-mul_right {k = K} (omega arith) k)

  -- it is lower or higher by one or more: J is a power of two
  lower_place : (d e K J : ℕ) → 0 < K → H ≤ d → e < 2 * H → Within (256 * (2 * J * K)) (e * K) (d * (2 * J * K)) → 0 < J → (J < 2) × (2 * (d * J) ≤ e + 512 * J)
  lower_place d e K J k full short w j =
      let a : 2 * (d * J) ≤ e + 512 * J = le_of_mul-le-mul_right {k = K} (omega arith) k in
      let b = mul-le-mul_right J full in
      let c = mul-le-mul_right J large in
      (lt_of_mul-lt-mul_right H {m = J} {n = 2} (omega arith), a)

  higher_place : (d e K J : ℕ) → 0 < K → H ≤ e → d < 2 * H → Within (256 * K) (e * (2 * J * K)) (d * K) → (J < 2) × (2 * (e * J) ≤ d + 256)
  higher_place d e K J k full short w =
      let a : 2 * (e * J) ≤ d + 256 = le_of_mul-le-mul_right {k = K} (omega arith) k in
      let b = mul-le-mul_right J full in
      (lt_of_mul-lt-mul_right H {m = J} {n = 2} (omega arith), a)

  powers : (j i : ℕ) → 2 ^ (j + suc i) ≡ 2 * 2 ^ i * 2 ^ j
  powers j i = rw (pow-add, pow-suc) (simp (mul_comm, mul_left_comm))

  not_two : (i : ℕ) → 2 ^ suc i < 2 → ⊥
  not_two i h = let a : 0 < 2 ^ i = pow_pos i in let b = pow-suc 2 i in omega arith

  next_lower : (d e j i : ℕ) → H ≤ d → e < 2 * H → Within (256 * 2 ^ (j + suc i)) (e * 2 ^ j) (d * 2 ^ (j + suc i)) → Within 512 (j * H + e) ((j + suc i) * H + d)
  next_lower d e j zero full short w =
      let a = lower_place d e (2 ^ j) 1 (pow_pos j) full short (rw powers at w) (omega arith) in
      let b : 2 * (d * 1) ≤ e + 512 * 1 = a.1 in
      omega arith
  next_lower d e j (suc i) full short w = absurd (not_two i (lower_place d e (2 ^ j) (2 ^ suc i) (pow_pos j) full short (rw powers at w) (pow_pos (suc i))).0)

  next_higher : (d e k i : ℕ) → H ≤ e → d < 2 * H → Within (256 * 2 ^ k) (e * 2 ^ (k + suc i)) (d * 2 ^ k) → Within 512 ((k + suc i) * H + e) (k * H + d)
  next_higher d e k zero full short w =
      let a = higher_place d e (2 ^ k) 1 (pow_pos k) full short (rw powers at w) in
      let b : 2 * (e * 1) ≤ d + 256 = a.1 in
      omega arith
  next_higher d e k (suc i) full short w = absurd (not_two i (higher_place d e (2 ^ k) (2 ^ suc i) (pow_pos k) full short (rw powers at w)).0)

  rest : (j k : ℕ) → j < k → k ≡ j + suc (k - j - 1)
  rest j k h = omega arith

  in_use : (j k e : ℕ) → k < j → Full H j e → H ≤ e
  in_use j k e h (inl z) = absurd (omega arith)
  in_use j k e h (inr l) = l

  -- near values have near patterns
  pub near_patterns : (d k e j : ℕ) → H ≤ d → d < 2 * H → Full H j e → e < 2 * H → Within (256 * 2 ^ k) (e * 2 ^ j) (d * 2 ^ k) → Within 512 (j * H + e) (k * H + d)
  near_patterns d k e j full short full' short' w = go (order j k)
    where
      go : Order j k → Within 512 (j * H + e) (k * H + d)
      go (less h) = subst (λ (x : ℕ). Within 512 (j * H + e) (x * H + d)) (sym (rest j k h)) (next_lower d e j (k - j - 1) full short' (subst (λ (x : ℕ). Within (256 * 2 ^ x) (e * 2 ^ j) (d * 2 ^ x)) (rest j k h) w))
      go (more h) = subst (λ (x : ℕ). Within 512 (x * H + e) (k * H + d)) (sym (rest k j h)) (next_higher d e k (j - k - 1) (in_use j k e h full') short (subst (λ (x : ℕ). Within (256 * 2 ^ k) (e * 2 ^ x) (d * 2 ^ k)) (rest k j h) w))
      go (none q) =
          let a : Within 256 e d = same_place d e (2 ^ k) (pow_pos k) (subst (λ (x : ℕ). Within (256 * 2 ^ k) (e * 2 ^ x) (d * 2 ^ k)) q w) in
          let b = ap (λ (x : ℕ). x * H) q in
          omega arith

  -- a pattern that is larger by at most 5 fields stands for at most 32 times the value
  pub at_most_32 : (d k e j : ℕ) → H ≤ d → d < 2 * H → Full H j e → e < 2 * H → j * H + e ≤ k * H + d + 5 * H → e * 2 ^ j ≤ 32 * (d * 2 ^ k)
  at_most_32 d k e j full short full' short' h = go (order j (k + 5))
    where
      up : 2 ^ (k + 5) ≡ 2 ^ k * 32
      up = pow-add 2 k 5

      below : j < k + 5 → 2 * 2 ^ j ≤ 2 ^ (k + 5)
      below l = let a = pow-suc 2 j in let b = pow_mono {i = suc j} {j = k + 5} l in omega arith

      go : Order j (k + 5) → e * 2 ^ j ≤ 32 * (d * 2 ^ k)
      go (less l) =
          let a = mul-le-mul_left H (below l) in
          let b = mul-le-mul_right (2 ^ j) (le_of_lt short') in
          let c = mul-le-mul_right (2 ^ k) full in
          let f = ap (λ (x : ℕ). H * x) up in
          omega arith
      go (none q) =
          let a : e ≤ d = le_of_mul-le-mul_right {k = 1} (let b = ap (λ (x : ℕ). x * H) q in omega arith) (omega arith) in
          let c = mul-le-mul_right (2 ^ k) a in
          let f : 2 ^ j ≡ 2 ^ k * 32 = subst (λ (x : ℕ). 2 ^ x ≡ 2 ^ k * 32) (sym q) up in
          let g = ap (λ (x : ℕ). e * x) f in
          omega arith
      go (more l) =
          let a = in_use j (k + 5) e l full' in
          let b = mul-le-mul_right H l in
          absurd (omega arith)
