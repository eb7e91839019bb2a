-- By hand: the words are the layout's bytes, in a slice of just their length.
use Rattle.std.proofs.Common.{rules, ◌≡◌, ◌∙◌, length, refl, Ok, append_assoc, arith}
use Rattle.clip.specs.Layout.{words, layout}
use Rattle.clip.specs.Writing.{length_to_write, exactly}
use Rattle.clip.proofs.HeaderWords.{written_whole}
use Rattle.clip.proofs.Writable.{writable}
use Rattle.clip.proofs.writing.write_clip.Goals as goal

pub returns : goal.returns
unfolding exactly layout
returns c =
    let taken : length_to_write c.args.shape (length c.args.samples.now) c.args.onset ≡ Ok c.in_ok-len.len = search rules in
    let w = writable c.args.shape (length c.args.samples.now) c.args.onset c.in_ok-len.len taken in
    let body : c.write_words.new.out ≡ words c.args.samples.now =
    c.write_words.ensures ∙ written_whole c.args.samples.now c.split_at_mut-header.result.1.now (omega (arith, c.split_at_mut-header.ensures.back_len, c.if-file-len.false, w.long))
    in
    (search rules, rw (c.write_header.ensures, body) (simp append_assoc refl))
