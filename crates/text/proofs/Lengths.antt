-- How long lines are.
use Rattle.std.proofs.Common.{List, [], ◌∷◌, ◌++◌, Bool, true, false, cond, ℕ, zero, suc, ◌+◌, ◌*◌, ◌≤◌, eqb, length, take, drop, length-append, length-take, arith}
use Rattle.commands.specs.Digits.{flag}
use Rattle.commands.proofs.Lengths.{length_hex, length_decimal}
use Rattle.text.specs.Lines.{field, run_line, runs_from, runs, channel_lines, block_line, block_text, refusal_text}

pub length_field : (v after : ℕ) → length (field v after) ≤ 21
unfolding field
length_field v after = simp length-append (omega (arith, length_decimal 20 v))

length_run : (c f n x : ℕ) → length (run_line c f n x) ≤ 72
unfolding run_line
length_run c f n x = simp (length-append, length_hex) (omega (arith, length_field c 32, length_field f 32, length_field n 32))

length_runs_from : (c f n x : ℕ) (xs : List ℕ) → length (runs_from c f n x xs) ≤ 72 * (1 + length xs)
unfolding runs_from
length_runs_from c f n x [] = length_run c f n x
length_runs_from c f n x (y ∷ ys) = go _ (eqb y x) (length_runs_from c f _ x ys) (length_runs_from c (f + n) 1 y ys)
  where
    go : (same : List ℕ) (t : Bool) → length same ≤ 72 * (1 + length ys) → length (runs_from c (f + n) 1 y ys) ≤ 72 * (1 + length ys)
        → length (cond t same (run_line c f n x ++ runs_from c (f + n) 1 y ys)) ≤ 72 * (1 + suc (length ys))
    go same true h k = omega arith
    go same false h k = simp length-append (omega (arith, length_run c f n x))

length_runs : (c f : ℕ) (l : List ℕ) → length (runs c f l) ≤ 72 * length l
unfolding runs
length_runs c f [] = omega arith
length_runs c f (x ∷ xs) = omega (arith, length_runs_from c f 1 x xs)

length_channels : (n c : ℕ) (words : List ℕ) → length (channel_lines n c words) ≤ 9216 * n
unfolding channel_lines
length_channels zero c words = omega arith
length_channels (suc n) c words = simp length-append (omega (arith, length_runs c 0 (take 128 words), length-take 128 words, length_channels n (c + 1) (drop 128 words)))

length_line : (n c : ℕ) (k e : Bool) → length (block_line n k e c) ≤ 128
unfolding block_line
length_line n c k e = simp length-append (omega (arith, length_field n 32, length_field (flag k) 32, length_field (flag e) 32, length_field c 10))

pub length_block : (n c : ℕ) (k e : Bool) (words : List ℕ) → length (block_text n k e c words) ≤ 128 + 9216 * c
unfolding block_text
length_block n c k e words = simp length-append (omega (arith, length_line n c k e, length_channels c 0 words))

pub length_refusal : (n : ℕ) → length (refusal_text n) ≤ 23
unfolding refusal_text
length_refusal n = omega (arith, length_field n 10)
