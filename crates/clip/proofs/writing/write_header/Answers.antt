-- By hand: the words of the fields are the layout's bytes.
use Rattle.std.proofs.Common.{◌≡◌, ap, ◌∙◌, ◌+◌, ◌*◌, List, ℕ, to_bits, arith}
use Rattle.std.specs.Float.{binary32}
use Rattle.lists.specs.Table.{table, over}
use Rattle.clip.specs.Layout.{words, offset}
use Rattle.clip.specs.declared.Form.TheVariants as form
use Rattle.clip.proofs.HeaderWords.{written_whole, written_front, header_words}
use Rattle.clip.proofs.writing.write_header.Goals as goal

pub returns : goal.returns
returns c =
    let C = c.args.shape.channels in
    let N = c.args.shape.frames in
    let part = c.split_at_mut-fields.result in
    let offsets : c.write_words-2.new.out ≡ words (table C (offset form.New C N)) =
    c.write_words-2.ensures ∙ ap (λ (l : List ℕ). over (words l) part.1.now) c.starts.ensures
    ∙ written_front C 32 (offset form.New C N) part.1.now c.requires.few (omega (arith, c.split_at_mut-fields.ensures.back_len, c.requires.room))
    in
    rw (c.write_words.ensures ∙ written_whole _ part.0.now (omega (arith, c.split_at_mut-fields.ensures.front_len)), offsets, c.to_pattern.ensures)
    (header_words (16 + 4 * C) C N (to_bits binary32 c.args.shape.rate) c.args.onset _ (omega (arith, c.requires.few)) (omega (arith, c.requires.few)))
