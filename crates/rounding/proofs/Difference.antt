-- Sterbenz' lemma, in any format f: where neither is negative and y ≤ x ≤ 2 * y, `sub` of x and y is exact. Assumes nothing.
use Rattle.std.proofs.Common.{◌≡◌, ℕ, ◌-◌, ◌*◌, ◌^◌, ◌<◌, ◌≤◌, Bool, true, false, not, T, leb, sym, ap, ◌∙◌, ap₂, le_trans, le_of_eq, lt_of_le_of_lt, le_of_lt, mul_assoc, sub-add_cancel, le_of_mul-le-mul_right, sub-le, arith, leb→le, pow_pos, pow-add}
use lib.Dec.{nleb→lt}
use lib.Ieee.{Float, Format, prec, low, sub, fits}
use lib.Ieee.Exact.{HasValue, round_exact}
use lib.Ieee.Scale.{overflow}
use Rattle.rounding.proofs.Exact.{Significand, significand, value_unique, fits_under}
use Rattle.rounding.proofs.Operations.{sub_is}
use Rattle.rounding.proofs.Sum.{mul_sub_r}

-- x is X units, y is Y; a difference that is s * 2 ^ i, with an s of at most prec digits
exact_at : (f : Format) (x y : Float) (X Y s i : ℕ) → HasValue x false X (2 ^ low f) → HasValue y false Y (2 ^ low f) → Y ≤ X → X < overflow f → X - Y ≡ s * 2 ^ i → s < 2 ^ prec f → HasValue (sub f x y) false (X - Y) (2 ^ low f)
exact_at f x y X Y s i h k l b e short =
    rw (sub_is f x y X Y h k l)
    (round_exact f false (X - Y) (2 ^ low f) s i (pow_pos (low f)) short (lt_of_le_of_lt (le_trans (le_of_eq (sym e)) (sub-le X Y)) b) (ap (λ (z : ℕ). z * 2 ^ low f) e))

-- both are multiples of the finer last digit, 2 ^ i
pub align : (q i j : ℕ) → i ≤ j → q * 2 ^ j ≡ q * 2 ^ (j - i) * 2 ^ i
align q i j l = ap (λ (z : ℕ). q * 2 ^ z) (sym (sub-add_cancel l)) ∙ ap (λ (z : ℕ). q * z) (pow-add 2 (j - i) i) ∙ sym (mul_assoc q (2 ^ (j - i)) (2 ^ i))

pub sterbenz : (f : Format) (x y : Float) (X Y : ℕ) → T (fits f x) → T (fits f y) → HasValue x false X (2 ^ low f) → HasValue y false Y (2 ^ low f) → Y ≤ X → X ≤ 2 * Y → HasValue (sub f x y) false (X - Y) (2 ^ low f)
sterbenz f x y X Y p q h k l m = go (leb a.j b.j) (leb→le a.j b.j) (nleb→lt a.j b.j)
  where
    u : ℕ
    u = 2 ^ low f

    a : Significand f x false
    a = significand f x false X u p h

    b : Significand f y false
    b = significand f y false Y u q k

    eX : X ≡ a.q * 2 ^ a.j
    eX = value_unique x false X (a.q * 2 ^ a.j) u h a.value

    eY : Y ≡ b.q * 2 ^ b.j
    eY = value_unique y false Y (b.q * 2 ^ b.j) u k b.value

    under : X < overflow f
    under = fits_under f x false X p h

    half : X - Y ≤ Y
    half = omega arith

    go : (t : Bool) → (T t → a.j ≤ b.j) → (T (not t) → b.j < a.j) → HasValue (sub f x y) false (X - Y) u
    go true le gt =
        let s = a.q - b.q * 2 ^ (b.j - a.j) in
        exact_at f x y X Y s a.j h k l under (ap₂ (λ (m n : ℕ). m - n) eX (eY ∙ align b.q a.j b.j (le tt)) ∙ sym (mul_sub_r a.q (b.q * 2 ^ (b.j - a.j)) (2 ^ a.j)))
        (lt_of_le_of_lt (sub-le a.q (b.q * 2 ^ (b.j - a.j))) a.short)
    go false le gt =
        let s = a.q * 2 ^ (a.j - b.j) - b.q in
        let e : X - Y ≡ s * 2 ^ b.j = ap₂ (λ (m n : ℕ). m - n) (eX ∙ align a.q b.j a.j (le_of_lt (gt tt))) eY ∙ sym (mul_sub_r (a.q * 2 ^ (a.j - b.j)) b.q (2 ^ b.j)) in
        exact_at f x y X Y s b.j h k l under e (lt_of_le_of_lt (le_of_mul-le-mul_right (le_trans (le_of_eq (sym e)) (le_trans half (le_of_eq eY))) (pow_pos b.j)) b.short)
