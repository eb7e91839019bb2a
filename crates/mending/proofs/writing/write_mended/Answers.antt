-- By hand: the words are the mended file's bytes, and its samples are the file's.
use Rattle.std.proofs.Common.{◌≡◌, refl, ap, ◌∙◌, ◌+◌, ◌*◌, ◌≤◌, List, [], ◌∷◌, ◌++◌, ℕ, length, take, drop, arith}
use Rattle.lists.specs.Table.{table, over}
use Rattle.clip.specs.Layout.{bytes, words, onset_bytes, offset}
use Rattle.clip.specs.Reading.{channels_field, frames_from}
use Rattle.clip.proofs.HeaderWords.{written_front}
use Rattle.clip.proofs.RoundTrip.{one_word}
use Rattle.mending.specs.Mending.{header_of_file, frames_held, mended_length}
use Rattle.mending.specs.declared.Held.{Held}
use Rattle.mending.proofs.Fields.{written_fields, written_parts}
use Rattle.mending.proofs.Frames.{fits}
use Rattle.mending.proofs.Marked.{words_part}
use Rattle.mending.proofs.writing.write_mended.Goals as goal

pub returns : goal.returns
returns c =
    let h = c.args.held in
    let file = c.args.file.now in
    let k = c.requires.mendable in
    let start : h.start ≡ header_of_file file = ap (λ (x : Held). x.start) c.requires.own in
    let channels : h.channels ≡ channels_field file = ap (λ (x : Held). x.channels) c.requires.own in
    let frames : h.frames ≡ frames_held file = ap (λ (x : Held). x.frames) c.requires.own in
    let f = h.form in
    let C = h.channels in
    let N = h.frames in
    let parts = c.split_at_mut-header in
    let part = c.split_at_mut-fields in
    let own : header_of_file file ≡ 12 + onset_bytes f + 4 * C =
    rw (channels, ap (λ (x : Held). x.form) c.requires.own) refl
    in
    let size : mended_length file ≡ h.start + 4 * (C * N) = rw (start, channels, frames) (omega arith) in
    let within = (fits file (length file) (λ i. (c.type_inv.file i).fits) k).0 in
    let few : C ≤ 32 = rw channels k.few in
    let E : c.onset_bytes.result ≡ onset_bytes f = c.onset_bytes.ensures in
    let one = one_word f in
    let fields : c.write_words.new.out ≡ bytes 2 h.start ++ (bytes 2 C ++ (bytes 4 N ++ (bytes 4 h.rate_bits ++ bytes (onset_bytes f) h.onset))) =
    c.write_words.ensures
    ∙ ap (λ n. over (words ((h.start + 65536 * n) ∷ (c.from-frames.result ∷ (h.rate_bits ∷ (h.onset ∷ []))))) part.result.0.now) c.from.ensures
    ∙ ap (λ n. over (words ((h.start + 65536 * C) ∷ (n ∷ (h.rate_bits ∷ (h.onset ∷ []))))) part.result.0.now) c.from-frames.ensures
    ∙ written_fields f h.start C N h.rate_bits h.onset part.result.0.now (omega (arith, start, k.room, few, own, one)) (omega (arith, few)) (omega (arith, part.ensures.front_len, E))
    in
    let offsets : c.write_words-2.new.out ≡ words (table C (offset f C N)) =
    c.write_words-2.ensures ∙ ap (λ (l : List ℕ). over (words l) part.result.1.now) c.starts.ensures
    ∙ written_front C 32 (offset f C N) part.result.1.now few (omega (arith, part.ensures.back_len, parts.ensures.front_len, start, own, E))
    in
    let samples : c.copy_from_slice.new.self ≡ words (frames_from file h.start (C * N)) =
    c.copy_from_slice.ensures.after ∙ ap (λ n. take n (drop h.start file)) (omega (arith, parts.ensures.back_len, c.requires.room, size)) ∙ words_part (C * N) h.start file (omega (arith, within, size)) (λ i. (c.type_inv.file i).fits)
    in
    written_parts h file c.write_words.new.out c.write_words-2.new.out c.copy_from_slice.new.self c.requires.own fields offsets samples
