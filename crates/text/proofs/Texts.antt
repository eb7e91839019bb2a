-- Texts printed one after another.
use Rattle.std.proofs.Common.{◌≡◌, refl, ap, sym, ◌∙◌, List, [], ◌∷◌, ◌++◌, Bool, true, false, cond, ltb, ℕ, zero, suc, ◌+◌, ◌-◌, ◌*◌, ◌/◌, ◌%◌, ◌^◌, ◌≤◌, ◌<◌, length, set, arith, length-set, add-one, add-zero, zero-add, not-suc-le-zero}
use mir.Val.{bool_byte}
use Rattle.std.proofs.Math.Nat.{pow-suc}
use Rattle.std.proofs.lemmas.Bool.{lt-ltb, le-ltb}
use Rattle.std.proofs.lemmas.List.Edits.{sets}
use Rattle.commands.specs.Digits.{flag, digit, hex, decimal_of, decimal}
use Rattle.text.specs.Stored.{Stored, stored, put_byte, put, stored_of, Prints}
use Rattle.text.specs.declared.printing.Text.{Text}

pub put_append : (s : Stored) (a b : List ℕ) → put s (a ++ b) ≡ put (put s a) b
unfolding put
put_append s [] b = refl
put_append s (x ∷ a) b = put_append (put_byte s x) a b

-- ---- a text that has room is stored as it is
put_within : (out t : List ℕ) (i : ℕ) → i + length t ≤ length out → put (stored out i) t ≡ stored (sets out i t) (i + length t)
unfolding put put_byte
put_within out [] i h = rw (add-zero i)
put_within out (b ∷ t) i h =
    let e : i + 1 + length t ≡ i + suc (length t) = omega arith in
    let more : i + 1 + length t ≤ length (set out i b) = rw (length-set) (omega arith) in
    rw (lt-ltb i (length out) (omega arith)) (put_within (set out i b) t (i + 1) more ∙ ap (λ k. stored (sets (set out i b) (i + 1) t) k) e ∙ ap (λ k. stored (sets (set out i b) k t) (i + suc (length t))) (add-one i))

pub put_whole : (out t : List ℕ) → length t ≤ length out → put (stored out 0) t ≡ stored (sets out 0 t) (length t)
put_whole out t h = put_within out t 0 (rw (zero-add (length t)) h) ∙ ap (stored (sets out 0 t)) (zero-add (length t))

-- a flag as a number
pub flag_is : (b : Bool) → bool_byte b ≡ flag b
flag_is true = refl
flag_is false = refl

-- while a loop prints: `left` is still to come of the text `whole`
abbrev pub Printing : Text → Text → List ℕ → List ℕ → Type 0
Printing start now left whole = (put (stored_of now) left ≡ put (stored_of start) whole) × (now.out.ghost_name ≡ start.out.ghost_name)

pub goes_on : (start now next : Text) (left a b whole : List ℕ) → Printing start now left whole → left ≡ a ++ b → Prints now next a → Printing start next b whole
goes_on start now next left a b whole h e p =
    (ap (λ s. put s b) p.0 ∙ sym (put_append (stored_of now) a b) ∙ ap (put (stored_of now)) (sym e) ∙ h.0, p.1 ∙ h.1)

-- ---- decimals
-- a place that isn't needed
decimal_place : (n v : ℕ) → v < 10 ^ suc n → decimal_of (suc (suc n)) v ≡ decimal_of (suc n) v
unfolding decimal_of
decimal_place zero v h = rw (lt-ltb v 10 h)
decimal_place (suc n) v h = ap (λ (l : List ℕ). cond (ltb v 10) (digit v ∷ []) (l ++ (digit (v % 10) ∷ []))) (decimal_place n (v / 10) (omega (arith, pow-suc 10 (suc n))))

decimal_ten : (n v : ℕ) → 10 ≤ v → decimal_of (suc n) v ≡ decimal_of n (v / 10) ++ (digit (v % 10) ∷ [])
unfolding decimal_of
decimal_ten n v h = rw (le-ltb v 10 h)

pub decimal_more : (v : ℕ) → 10 ≤ v → v < 2 ^ 64 → decimal v ≡ decimal (v / 10) ++ (digit (v % 10) ∷ [])
decimal_more v h k = decimal_ten 19 v h ∙ ap (λ (l : List ℕ). l ++ (digit (v % 10) ∷ [])) (sym (decimal_place 18 (v / 10) (omega arith)))

decimal_one : (n v : ℕ) → v < 10 → decimal_of (suc n) v ≡ digit (v % 10) ∷ []
unfolding decimal_of
decimal_one n v h =
    let e : v % 10 ≡ v = omega arith in
    rw (lt-ltb v 10 h, e)

pub decimal_less : (v : ℕ) → v < 10 → decimal v ≡ digit (v % 10) ∷ []
decimal_less v h = decimal_one 19 v h

-- ---- hex digits
pub hex_more : (n v : ℕ) → 0 < n → hex n v ≡ digit (v / 2 ^ (4 * (n - 1)) % 16) ∷ hex (n - 1) v
unfolding hex
hex_more zero v h = absurd (not-suc-le-zero h)
hex_more (suc n) v h =
    let e : suc n - 1 ≡ n = omega arith in
    rw e

pub hex_done : (n v : ℕ) → n ≤ 0 → hex n v ≡ []
unfolding hex
hex_done zero v h = refl
hex_done (suc n) v h = absurd (not-suc-le-zero h)
