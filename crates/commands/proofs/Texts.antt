-- A command's text is read as that command, and nothing else is.
use Rattle.std.proofs.Common.{◌≡◌, refl, ap, sym, ◌∙◌, Bool, true, false, ◌&&◌, cond, List, [], ◌∷◌, ◌++◌, ◌⊎◌, inl, inr, ℕ, zero, suc, ◌+◌, ◌*◌, ◌/◌, ◌%◌, ◌^◌, ◌<◌, eqb, length, get_or, take, drop, length-append, length-drop, take-append-drop, drop-drop, drop-cons, Option, Some, None, arith}
use Rattle.std.specs.Prelude.{codes, bytes_eq, option_and_then}
use Rattle.std.specs.Cmp.Lexicographic.{same_text}
use Rattle.std.proofs.Math.Nat.{div-div-eq-div-mul}
use Rattle.std.proofs.Math.Pow.{pow-add}
use Rattle.std.proofs.Math.Seq.{take-append_seam, take_all, drop-append-add, get_or-append-add}
use Rattle.std.proofs.lemmas.Bool.{eqb-true}
use Rattle.commands.specs.Digits.{SPACE, digit, hex, hex_digit, hex_from, hex_number}
use Rattle.commands.specs.Commands.{at, space, time_of, time_command, start_of, start_command, command}
use Rattle.commands.specs.Statement.{time_line, line_of, IsBits, IsCommand, TextsAreRead, LinesAreTexts, CommandLines}
use Rattle.commands.specs.declared.Command.{Command}
use Rattle.commands.specs.declared.Command.TheVariants.{Start, Stop, LoopStart, LoopEnd, Loop, Block}
use Rattle.commands.proofs.Hex.{digit_small}
use Rattle.commands.proofs.Lengths.{length_hex}

-- ---- digits
digit_read : (d : ℕ) → d < 16 → hex_digit (digit d) ≡ Some d
unfolding digit hex_digit
digit_read d h = grind arith

digit_only : (b d : ℕ) → hex_digit b ≡ Some d → digit d ≡ b
unfolding digit hex_digit
digit_only b d h = grind arith

-- ---- hex digits: what lies above n digits of x is v
above : (n x : ℕ) → x / 2 ^ (4 * suc n) ≡ x / 2 ^ (4 * n) / 16
above n x =
    let e : 4 * suc n ≡ 4 * n + 4 = omega arith in
    ap (λ k. x / 2 ^ k) e ∙ ap (λ k. x / k) (pow-add 2 (4 * n) 4) ∙ sym (div-div-eq-div-mul x (2 ^ (4 * n)) 16)

hex_read : (n v x : ℕ) → x / 2 ^ (4 * n) ≡ v → hex_from v (hex n x) ≡ Some x
unfolding hex_from hex
hex_read zero v x h = ap Some (omega arith)
hex_read (suc n) v x h =
    let q = x / 2 ^ (4 * n) in
    let up : q / 16 ≡ v = sym (above n x) ∙ h in
    rw (digit_read (q % 16) (omega arith)) (hex_read n (16 * v + q % 16) x (omega arith))

hex_only : (v x : ℕ) (l : List ℕ) → hex_from v l ≡ Some x → (x / 2 ^ (4 * length l) ≡ v) × (l ≡ hex (length l) x)
unfolding hex_from hex
hex_only v x [] h =
    let e : v ≡ x = cc in
    (omega arith, refl)
hex_only v x (b ∷ bs) h = go (hex_digit b) refl (λ d. hex_only (16 * v + d) x bs) h
  where
    go : (o : Option ℕ) → hex_digit b ≡ o → ((d : ℕ) → hex_from (16 * v + d) bs ≡ Some x → (x / 2 ^ (4 * length bs) ≡ 16 * v + d) × (bs ≡ hex (length bs) x))
        → option_and_then (λ d. hex_from (16 * v + d) bs) o ≡ Some x → (x / 2 ^ (4 * suc (length bs)) ≡ v) × (b ∷ bs ≡ digit (x / 2 ^ (4 * length bs) % 16) ∷ hex (length bs) x)
    go None is rest h = (cc, cc)
    go (Some d) is rest h =
        let r = rest d h in
        let q = x / 2 ^ (4 * length bs) in
        let small = digit_small b d is in
        let up : q / 16 ≡ v = omega (arith, r.0, small) in
        let last : q % 16 ≡ d = omega (arith, r.0, small) in
        (above (length bs) x ∙ up, rw (last, digit_only b d is) (ap (λ (m : List ℕ). b ∷ m) r.1))

-- 16 digits are 64 bits
number_read : (x : ℕ) → IsBits x → hex_number (hex 16 x) ≡ Some x
unfolding hex_number
number_read x h = rw (length_hex 16 x) (hex_read 16 0 x (omega arith))

number_only : (l : List ℕ) (x : ℕ) → hex_number l ≡ Some x → IsBits x × (l ≡ hex 16 x)
unfolding hex_number
number_only l x h = go (eqb (length l) 16) (eqb-true (length l) 16) h
  where
    go : (t : Bool) → (t ≡ true → length l ≡ 16) → cond t (hex_from 0 l) None ≡ Some x → IsBits x × (l ≡ hex 16 x)
    go true size is =
        let r = hex_only 0 x l is in
        let n = size refl in
        let whole : x / 2 ^ (4 * 16) ≡ 0 = ap (λ k. x / 2 ^ (4 * k)) (sym n) ∙ r.0 in
        (omega arith, r.1 ∙ ap (λ k. hex k x) n)
    go false size is = cc

-- ---- the text of a command is read
time_read : (letter x : ℕ) → IsBits x → time_command letter (hex 16 x) ≡ time_of letter x
unfolding time_command
time_read letter x h = rw (number_read x h)

-- a number in front of the rest
module _ (x : ℕ) (rest : List ℕ) where
  front : take 16 (hex 16 x ++ rest) ≡ hex 16 x
  front = ap (λ n. take n (hex 16 x ++ rest)) (sym (length_hex 16 x)) ∙ take-append_seam (hex 16 x) rest

  behind : (n : ℕ) → drop (16 + n) (hex 16 x ++ rest) ≡ drop n rest
  behind n = ap (λ k. drop (k + n) (hex 16 x ++ rest)) (sym (length_hex 16 x)) ∙ drop-append-add (hex 16 x) rest n

  beyond : (n : ℕ) → at (hex 16 x ++ rest) (16 + n) ≡ at rest n
  beyond n = ap (λ k. get_or (hex 16 x ++ rest) (k + n) 0) (sym (length_hex 16 x)) ∙ get_or-append-add (hex 16 x) rest n 0

started : (l : List ℕ) (x y z : ℕ) → length l ≡ 50 → at l 16 ≡ SPACE → at l 33 ≡ SPACE
    → hex_number (take 16 l) ≡ Some x → hex_number (take 16 (drop 17 l)) ≡ Some y → hex_number (take 16 (drop 34 l)) ≡ Some z → start_command l ≡ Some (Start x y z)
unfolding start_command start_of
started l x y z n a b hx hy hz = rw (n, a, b, hx, hy, hz)

start_read : (x y z : ℕ) → IsBits x → IsBits y → IsBits z → start_command (hex 16 x ++ (SPACE ∷ (hex 16 y ++ (SPACE ∷ hex 16 z)))) ≡ Some (Start x y z)
start_read x y z hx hy hz =
    let end = SPACE ∷ hex 16 z in
    let rest = SPACE ∷ (hex 16 y ++ end) in
    let size : length (hex 16 x ++ rest) ≡ 50 = simp (length-append, length_hex) in
    let last : take 16 (hex 16 z) ≡ hex 16 z = take_all 16 (hex 16 z) (omega (arith, length_hex 16 z)) in
    started (hex 16 x ++ rest) x y z size (beyond x rest 0) (beyond x rest 17 ∙ beyond y end 0)
    (ap hex_number (front x rest) ∙ number_read x hx)
    (ap (λ (r : List ℕ). hex_number (take 16 r)) (behind x rest 1) ∙ ap hex_number (front y end) ∙ number_read y hy)
    (ap (λ (r : List ℕ). hex_number (take 16 r)) (behind x rest 18 ∙ behind y end 1) ∙ ap hex_number last ∙ number_read z hz)

texts_are_read : TextsAreRead
unfolding command line_of IsCommand time_of
texts_are_read (Start x y z) h = start_read x y z h.0 h.1 h.2
texts_are_read (Stop x) h = time_read 84 x h
texts_are_read (LoopStart x) h = time_read 80 x h
texts_are_read (LoopEnd x) h = time_read 69 x h
texts_are_read (Loop true) h = refl
texts_are_read (Loop false) h = refl
texts_are_read Block h = refl

-- ---- what is read is its text
abbrev Good : List ℕ → Option Command → Type 0
Good l o = (o ≡ None) ⊎ ((k : Command) × (o ≡ Some k) × IsCommand k × (l ≡ line_of k))

time_only : (letter : ℕ) (rest : List ℕ) → Good (letter ∷ SPACE ∷ rest) (time_command letter rest)
unfolding time_command time_of IsCommand line_of
time_only letter rest = go (hex_number rest) (λ x. number_only rest x)
  where
    is : (b x : ℕ) → letter ≡ b → rest ≡ hex 16 x → letter ∷ SPACE ∷ rest ≡ time_line b x
    is b x e r = rw (e, r) refl

    letters : (x : ℕ) → IsBits x → rest ≡ hex 16 x → (a b d : Bool) → (a ≡ true → letter ≡ 84) → (b ≡ true → letter ≡ 80) → (d ≡ true → letter ≡ 69)
        → Good (letter ∷ SPACE ∷ rest) (cond a (Some (Stop x)) (cond b (Some (LoopStart x)) (cond d (Some (LoopEnd x)) None)))
    letters x s r true b d p q t = inr (Stop x, refl, s, is 84 x (p refl) r)
    letters x s r false true d p q t = inr (LoopStart x, refl, s, is 80 x (q refl) r)
    letters x s r false false true p q t = inr (LoopEnd x, refl, s, is 69 x (t refl) r)
    letters x s r false false false p q t = inl refl

    go : (o : Option ℕ) → ((x : ℕ) → o ≡ Some x → IsBits x × (rest ≡ hex 16 x)) → Good (letter ∷ SPACE ∷ rest) (option_and_then (time_of letter) o)
    go None h = inl refl
    go (Some x) h =
        let r = h x refl in
        letters x r.0 r.1 (eqb letter 84) (eqb letter 80) (eqb letter 69) (eqb-true letter 84) (eqb-true letter 80) (eqb-true letter 69)

-- 16 digits and a space from a place on
group : (l : List ℕ) (k x : ℕ) → k + 16 < length l → take 16 (drop k l) ≡ hex 16 x → at l (k + 16) ≡ SPACE → drop k l ≡ hex 16 x ++ (SPACE ∷ drop (k + 17) l)
group l k x h e s =
    let next : suc (k + 16) ≡ k + 17 = omega arith in
    sym (take-append-drop 16 (drop k l))
    ∙ ap (λ (r : List ℕ). r ++ drop 16 (drop k l)) e
    ∙ ap (λ (r : List ℕ). hex 16 x ++ r) (drop-drop 16 k l ∙ drop-cons l (k + 16) 0 h ∙ ap (λ b. b ∷ drop (suc (k + 16)) l) s ∙ ap (λ n. SPACE ∷ drop n l) next)

start_only : (l : List ℕ) → Good (83 ∷ SPACE ∷ l) (start_command l)
unfolding start_command start_of IsCommand line_of
start_only l = go (eqb (length l) 50) (space l 16) (space l 33) (eqb-true (length l) 50) (eqb-true (at l 16) SPACE) (eqb-true (at l 33) SPACE)
    (hex_number (take 16 l)) (hex_number (take 16 (drop 17 l))) (hex_number (take 16 (drop 34 l))) refl refl refl
  where
    began : (x y z : ℕ) → length l ≡ 50 → at l 16 ≡ SPACE → at l 33 ≡ SPACE
        → hex_number (take 16 l) ≡ Some x → hex_number (take 16 (drop 17 l)) ≡ Some y → hex_number (take 16 (drop 34 l)) ≡ Some z → Good (83 ∷ SPACE ∷ l) (Some (Start x y z))
    began x y z n a b hx hy hz =
        let ex = number_only (take 16 l) x hx in
        let ey = number_only (take 16 (drop 17 l)) y hy in
        let ez = number_only (take 16 (drop 34 l)) z hz in
        let last : drop 34 l ≡ hex 16 z = sym (take_all 16 (drop 34 l) (omega (arith, length-drop 34 l))) ∙ ez.1 in
        let whole : l ≡ hex 16 x ++ (SPACE ∷ (hex 16 y ++ (SPACE ∷ hex 16 z))) =
        group l 0 x (omega arith) ex.1 a ∙ ap (λ (r : List ℕ). hex 16 x ++ (SPACE ∷ r)) (group l 17 y (omega arith) ey.1 b ∙ ap (λ (r : List ℕ). hex 16 y ++ (SPACE ∷ r)) last) in
        inr (Start x y z, refl, (ex.0, ey.0, ez.0), ap (λ (r : List ℕ). 83 ∷ SPACE ∷ r) whole)

    go : (t a b : Bool) → (t ≡ true → length l ≡ 50) → (a ≡ true → at l 16 ≡ SPACE) → (b ≡ true → at l 33 ≡ SPACE)
        → (u v w : Option ℕ) → hex_number (take 16 l) ≡ u → hex_number (take 16 (drop 17 l)) ≡ v → hex_number (take 16 (drop 34 l)) ≡ w
        → Good (83 ∷ SPACE ∷ l) (cond (t && (a && b)) (start_of u v w) None)
    go true true true n p q (Some x) (Some y) (Some z) eu ev ew = began x y z (n refl) (p refl) (q refl) eu ev ew
    go true true true n p q (Some x) (Some y) None eu ev ew = inl refl
    go true true true n p q (Some x) None w eu ev ew = inl refl
    go true true true n p q None v w eu ev ew = inl refl
    go true true false n p q u v w eu ev ew = inl refl
    go true false b n p q u v w eu ev ew = inl refl
    go false a b n p q u v w eu ev ew = inl refl

pub lines_are_texts : LinesAreTexts
unfolding command line_of IsCommand
lines_are_texts l =
    go (bytes_eq l (codes "B")) (bytes_eq l (codes "L 0")) (bytes_eq l (codes "L 1")) (same_text l (codes "B")) (same_text l (codes "L 0")) (same_text l (codes "L 1"))
  where
    spaced : (m : List ℕ) → (t s : Bool) → (t ≡ true → at m 1 ≡ SPACE) → (s ≡ true → at m 0 ≡ 83) → Good m (cond t (cond s (start_command (drop 2 m)) (time_command (at m 0) (drop 2 m))) None)
    spaced m false s p q = inl refl
    spaced [] true s p q = absurd (omega (arith, p refl))
    spaced (a ∷ []) true s p q = absurd (omega (arith, p refl))
    spaced (a ∷ b ∷ rest) true true p q = rw (p refl, q refl) (start_only rest)
    spaced (a ∷ b ∷ rest) true false p q = rw (p refl) (time_only a rest)

    go : (a b d : Bool) → (true ≡ a → l ≡ codes "B") → (true ≡ b → l ≡ codes "L 0") → (true ≡ d → l ≡ codes "L 1")
        → Good l (cond a (Some Block) (cond b (Some (Loop false)) (cond d (Some (Loop true)) (cond (space l 1) (cond (eqb (at l 0) 83) (start_command (drop 2 l)) (time_command (at l 0) (drop 2 l))) None))))
    go true b d p q r = inr (Block, refl, tt, p refl)
    go false true d p q r = inr (Loop false, refl, tt, q refl)
    go false false true p q r = inr (Loop true, refl, tt, r refl)
    go false false false p q r = spaced l (space l 1) (eqb (at l 0) 83) (eqb-true (at l 1) SPACE) (eqb-true (at l 0) 83)

pub command_lines : CommandLines
command_lines = (texts_are_read, lines_are_texts)
