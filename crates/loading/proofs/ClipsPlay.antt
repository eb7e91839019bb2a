-- An accepted clip is refused by no later step, and its onset moves no sample. Assumes nothing.
use mathlib.Core.Path.{◌≡◌, refl, subst}
use mathlib.Core.List.{List, []}
use Prim.Native.Nat.{ℕ, ◌*◌, ◌≤◌, ◌<◌}
use native.Mathlib.Omega.{arith}
use borrow.Author.Tests.{le-ltb, ne_eqb, ltb-true}
use Rattle.std.specs.Prelude.{Ok}
use Rattle.player.specs.Record.{fresh, fresh_with, given}
use Rattle.player.specs.Messages.{made, buffered, clamped}
use Rattle.text.specs.Lines.{refusal_text}
use Rattle.clip.specs.Reading.{number, onset_field, is_layout, header_of, form_of, clip_checks, read_as, read_with_onset}
use Rattle.clip.proofs.LaidOut.{laid_out}
use Rattle.clip.specs.Statement.{frames_of}
use Rattle.clip.specs.Passed.{passes, read_passes}
use Rattle.clip.specs.declared.WithOnset.{WithOnset}
use Rattle.loading.specs.Loading.{count_of, loaded, samples_out}
use Rattle.loading.specs.Playing.{clip_room, told}
use Rattle.loading.proofs.Telling.{front_read}
use Rattle.loading.specs.Statement.{ClipsPlay}

sent : (file : List ℕ) (read : WithOnset) (room : ℕ) → read_with_onset file ≡ Ok read → count_of read.header.shape ≤ room
    → loaded file room ≡ Ok (clamped (given (fresh read.header.shape.rate) read.header.shape), count_of read.header.shape)
unfolding made buffered fresh fresh_with
sent file read room e fits =
    let shape = read.header.shape in
    let p = read_passes (form_of file) file read e in
    let below : read.onset < shape.frames = ltb-true _ _ p.below in
    rw (e, le-ltb _ _ fits, p.rate_fits, p.shape_fits, p.rate_fits, ne_eqb shape.frames 0 (λ none. omega (arith, below, none))) refl

fits : (file : List ℕ) (read : WithOnset) → read_with_onset file ≡ Ok read → count_of read.header.shape ≤ clip_room
unfolding read_as is_layout
fits file read e =
    let f = form_of file in
    let h = header_of f file in
    let p = passes (is_layout f file) h.shape (h.shape.channels * h.shape.frames) (onset_field f file) _ _ e in
    let l = laid_out f file p.0.layout in
    let rows : 4 * h.shape.frames * h.shape.channels ≡ 4 * (h.shape.channels * h.shape.frames) = omega arith in
    let most : h.shape.channels * h.shape.frames ≤ clip_room = omega (arith, l.short, l.long, rows) in
    subst (λ (x : WithOnset). count_of x.header.shape ≤ clip_room) p.1 most

played : (file : List ℕ) (read : WithOnset) → read_with_onset file ≡ Ok read
    → loaded file clip_room ≡ Ok (clamped (given (fresh read.header.shape.rate) read.header.shape), count_of read.header.shape)
played file read e = sent file read clip_room e (fits file read e)

no_clip : (lines : List ℕ) → told [] lines ≡ refusal_text 15
unfolding number is_layout clip_checks read_as
no_clip lines = refl

onset_moves_nothing : (file other : List ℕ) (read same : WithOnset) (samples : List ℕ) (room : ℕ)
    → read_with_onset file ≡ Ok read → read_with_onset other ≡ Ok same
    → read.header.shape ≡ same.header.shape → frames_of file read.header ≡ frames_of other same.header
    → (loaded file room ≡ loaded other room) × (samples_out (loaded file room) file samples ≡ samples_out (loaded other room) other samples)
onset_moves_nothing file other read same samples room e f shape frames =
    let one : loaded file room ≡ loaded other room = rw (e, f, shape) refl in
    (one, rw (one, e, f, frames) refl)

pub clips_play : ClipsPlay
clips_play = record { sent = sent; fits = fits; played = played; no_clip = no_clip; front_read = front_read; onset_moves_nothing = onset_moves_nothing }
