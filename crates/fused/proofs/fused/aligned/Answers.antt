-- `fused::fused::aligned` meets its contract: down by `jam_scale`, and up by `jam_whole`. Assumes nothing.
-- By hand: with laws named on the function `returns-then-e-j`, `returns-else-e-j` are not proved.
use Rattle.std.proofs.Common.{◌≡◌, ℕ, ◌+◌, ◌-◌, ◌*◌, ◌^◌, ◌<◌, ◌≤◌, sym, ap, ◌∙◌, inl, inr, mul_assoc, mod-eq_of_lt, not-le_of_lt, arith, pow_pos, pow-add}
use Rattle.fused.specs.Sticky.{jam, Room}
use Rattle.fused.proofs.Jam.{jam_whole, jam_scale}
use Rattle.fused.proofs.fused.aligned.Goals as goal

fits : (v e j : ℕ) → Room v e j → j ≤ e → v * 2 ^ (e - j + 1) < 2 ^ 128
fits v e j (inl l) h = absurd (not-le_of_lt l h)
fits v e j (inr r) h = r.1

back : (x y : ℕ) → y ≤ x → 2 ^ (x - y) * 2 ^ y ≡ 2 ^ x
back x y h = sym (pow-add 2 (x - y) y) ∙ ap (λ (n : ℕ). 2 ^ n) (omega arith)

pub returns-then-e-j : goal.returns-then-e-j
returns-then-e-j c =
    let v = c.args.v in
    let e = c.args.e in
    let j = c.args.j in
    c.jammed.ensures ∙ sym (jam_scale v (2 ^ (j - e)) (2 ^ e) (pow_pos (j - e)) (pow_pos e)) ∙ ap (jam (v * 2 ^ e)) (back j e (omega arith))

pub returns-else-e-j : goal.returns-else-e-j
returns-else-e-j c =
    let v = c.args.v in
    let e = c.args.e in
    let j = c.args.j in
    let w = v * 2 ^ (e - j) in
    mod-eq_of_lt (fits v e j c.requires c.if-e-j.false)
    ∙ ap (λ (x : ℕ). v * x) (pow-add 2 (e - j) 1)
    ∙ sym (mul_assoc v (2 ^ (e - j)) 2)
    ∙ sym (jam_whole w (2 ^ j) (pow_pos j))
    ∙ ap (λ (x : ℕ). jam x (2 ^ j)) (mul_assoc v (2 ^ (e - j)) (2 ^ j) ∙ ap (λ (x : ℕ). v * x) (back e j c.if-e-j.false))
