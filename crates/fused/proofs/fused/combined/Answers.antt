-- `fused::fused::combined` meets its contract: `sum` where the signs differ, by its three cases. Assumes nothing.
-- By hand: with laws named on the function some of its 3 goals are not proved.
use Rattle.std.proofs.Common.{◌≡◌, ℕ, ◌*◌, ◌^◌, sym, ap, ◌∙◌, mul-lt-mul_of_pos_right, arith, pow_pos}
use lib.Ieee.{binary64, round, to_bits}
use Rattle.rounding.proofs.Pattern.{zero_pattern}
use Rattle.rounding.proofs.Sum.{sum_less, sum_more, sum_none, mul_sub_r}
use Rattle.fused.proofs.fused.combined.Goals as goal

pub returns-then-m-n : goal.returns-then-m-n
returns-then-m-n c =
    let a = c.args.m * 2 ^ c.args.j in
    let b = c.args.n * 2 ^ c.args.j in
    c.finished-then-m-n.ensures
    ∙ ap (λ (x : ℕ). to_bits binary64 (round binary64 c.args.t x (2 ^ 2149))) (mul_sub_r c.args.n c.args.m (2 ^ c.args.j))
    ∙ ap (to_bits binary64) (sym (sum_less binary64 c.args.s c.args.t a b (2 ^ 2149) c.if-s-t.false (mul-lt-mul_of_pos_right c.if-m-n.true (pow_pos c.args.j))))

pub returns-then-n-m : goal.returns-then-n-m
returns-then-n-m c =
    let a = c.args.m * 2 ^ c.args.j in
    let b = c.args.n * 2 ^ c.args.j in
    c.finished-then-n-m.ensures
    ∙ ap (λ (x : ℕ). to_bits binary64 (round binary64 c.args.s x (2 ^ 2149))) (mul_sub_r c.args.m c.args.n (2 ^ c.args.j))
    ∙ ap (to_bits binary64) (sym (sum_more binary64 c.args.s c.args.t a b (2 ^ 2149) c.if-s-t.false (mul-lt-mul_of_pos_right c.if-n-m.true (pow_pos c.args.j))))

pub returns-else-n-m : goal.returns-else-n-m
returns-else-n-m c =
    let a = c.args.m * 2 ^ c.args.j in
    let b = c.args.n * 2 ^ c.args.j in
    let e : c.args.m ≡ c.args.n = omega arith in
    sym (zero_pattern binary64 1075) ∙ ap (to_bits binary64) (sym (sum_none binary64 c.args.s c.args.t a b (2 ^ 2149) c.if-s-t.false (ap (λ (x : ℕ). x * 2 ^ c.args.j) e)))
