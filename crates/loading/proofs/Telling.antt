-- What is printed of a clip that was sent and of one that is refused, and files that are too long. Assumes nothing.
use mathlib.Core.Path.{◌≡◌, refl, sym, ap, subst, ◌∙◌}
use mathlib.Core.Bool.{Bool, true, false, cond}
use mathlib.Core.List.{List, ◌++◌}
use Prim.Native.Nat.{ℕ, ◌+◌, ◌≤◌, ◌<◌}
use native.Mathlib.Omega.{arith}
use borrow.Author.Tests.{ltb-false}
use lib.Dec.{ltb}
use lib.ListN.{length, take, drop}
use lib.Seq.{sets, sets-eq, take-append_seam}
use Rattle.std.specs.Prelude.{Option, Some, None, IfSome, Result, Ok, Err}
use Rattle.std.specs.Io.KnownBytes.{Consumes, IsAtEnd}
use Rattle.text.specs.Lines.{refusal_text, printed, printed_out}
use Rattle.lists.specs.Table.{over, length_table}
use Rattle.buffer.specs.declared.Shape.{Shape}
use Rattle.buffer.specs.declared.refusals.Refusal.{Refusal}
use Rattle.buffer.specs.declared.refusals.Refusal.TheVariants as refused
use Rattle.clip.specs.Layout.{max_length}
use Rattle.clip.specs.Reading.{is_layout, form_of, clip_checks, read_as, read_with_onset, header_read}
use Rattle.clip.specs.Statement.{frames_of}
use Rattle.clip.specs.declared.Form.{Form}
use Rattle.clip.specs.declared.ClipHeader.{ClipHeader}
use Rattle.clip.proofs.HeaderWords.{over_front}
use Rattle.clip.proofs.LaidOut.{laid_out}
use Rattle.player.specs.Messages.{made}
use Rattle.player.specs.declared.Player.{Player}
use Rattle.obeying.specs.Obeying.{session_of}
use Rattle.session.specs.Transcript.{transcript, no_words}
use Rattle.loading.specs.Loading.{count_of, with_count, sent, sent_clip, samples_of, loaded}
use Rattle.loading.specs.Playing.{clip_room, file_room, told, OfTheRead}
use Rattle.loading.proofs.Fronts.{front_of, read_whole, some_map}

-- ---- a refusal's text
pub text_stored : (t out out' : List ℕ) (n : ℕ) → Some n ≡ printed true t → out' ≡ printed_out true t out → length t ≤ length out
    → (n ≤ length out) × (take n out' ≡ t)
unfolding printed printed_out
text_stored t out out' n is stored fits =
    let count : n ≡ length t = cc in
    let e : sets out 0 t ≡ t ++ drop (0 + length t) out = sets-eq t out 0 (omega (arith, fits)) in
    (omega (arith, count, fits), rw (stored, count) (ap (take (length t)) e ∙ take-append_seam t (drop (0 + length t) out)))

pub text_there : (P : Type 0) (t : List ℕ) → None ≡ printed true t → P
unfolding printed
text_there P t is = cc

-- ---- the samples of a clip that was sent
second : Result (Player × ℕ) Refusal → ℕ
second (Ok x) = x.1
second (Err refusal) = 0

counted : (p : Result Player Refusal) (shape : Shape) (player : Player) (n : ℕ) → with_count p (count_of shape) ≡ Ok (player, n) → n ≡ count_of shape
unfolding second
counted (Ok q) shape player n e = sym (ap second e)
counted (Err refusal) shape player n e = cc

sent_count : (p : Result Player Refusal) (shape : Shape) (player : Player) (n : ℕ) → sent p shape ≡ Ok (player, n) → n ≡ count_of shape
sent_count (Ok fresh) shape player n e = counted _ shape player n e
sent_count (Err refusal) shape player n e = cc

passed : {A : Type 0} (t : Bool) (i : Refusal) (r : Result A Refusal) (x : A) → cond t (Err i) r ≡ Ok x → (t ≡ false) × (r ≡ Ok x)
passed true i r x e = (cc, cc)
passed false i r x e = (refl, e)

pub front_samples : (r : Result ClipHeader Refusal) (file samples : List ℕ) (n : ℕ) (player : Player) → sent_clip r (length samples) ≡ Ok (player, n)
    → take n (over (samples_of r file) samples) ≡ samples_of r file
front_samples (Err refusal) file samples n player e = cc
front_samples (Ok h) file samples n player e =
    let p = passed (ltb (length samples) (count_of h.shape)) refused.Length (sent (made h.shape.rate) h.shape) (player, n) e in
    let count : n ≡ count_of h.shape = sent_count (made h.shape.rate) h.shape player n p.1 in
    let room : count_of h.shape ≤ length samples = ltb-false _ _ p.0 in
    let full : length (frames_of file h) ≡ count_of h.shape = length_table _ _ in
    let front = over_front (frames_of file h) samples (omega (arith, full, room)) in
    let F = frames_of file h in
    let whole : n ≡ length F = count ∙ sym full in
    ap (take n) front ∙ ap (λ k. take k (F ++ drop (length F) samples)) whole ∙ take-append_seam F (drop (length F) samples)

pub told_ok : (file samples out lines : List ℕ) (n : ℕ) (player : Player) → length samples ≡ clip_room → Ok (player, n) ≡ loaded file clip_room
    → out ≡ over (samples_of (header_read (read_with_onset file)) file) samples
    → transcript (take n out) (session_of player 0) no_words lines ≡ told file lines
told_ok file samples out lines n player long is stored =
    let room : loaded file (length samples) ≡ Ok (player, n) = ap (loaded file) long ∙ sym is in
    let front = front_samples (header_read (read_with_onset file)) file samples n player room in
    rw (← is, stored, front) refl

-- ---- a file that is longer than any clip
too_long : (f : Form) (file : List ℕ) → max_length < length file → read_as f file ≡ Err refused.Layout
unfolding read_as clip_checks
too_long f file long = go (is_layout f file) refl
  where
    go : (b : Bool) → is_layout f file ≡ b → read_as f file ≡ Err refused.Layout
    go false p = rw p refl
    go true p = absurd (omega (arith, (laid_out f file p).short, long))

told_long : (file lines : List ℕ) → max_length < length file → told file lines ≡ refusal_text 15
told_long file lines long = rw (too_long (form_of file) file long) refl

pub front_read : (file lines : List ℕ) → told (take file_room file) lines ≡ told file lines
front_read file lines = front_of (λ (l : List ℕ). told l lines) (refusal_text 15) (λ l long. told_long l lines long) file

-- what was read of a file, up to its end or to as many bytes as count, tells what all of it does
pub file_told : (u v : Option (List ℕ)) (bytes lines : List ℕ) (n : ℕ) → length bytes ≡ file_room → n ≤ file_room → Consumes u v (take n bytes)
    → (n < file_room → IsAtEnd v) → IfSome u (λ file. told (take n bytes) lines ≡ told file lines)
file_told u v bytes lines n = read_whole (λ (l : List ℕ). told l lines) (refusal_text 15) (λ l long. told_long l lines long) u v bytes n

-- ---- what holds of known bytes
pub told_whole : (u v i : Option (List ℕ)) (bytes : List ℕ) (n : ℕ) (P : List ℕ → Type 0) → length bytes ≡ file_room → n ≤ file_room
    → Consumes u v (take n bytes) → (n < file_room → IsAtEnd v) → IfSome i (λ lines. P (told (take n bytes) lines))
    → IfSome u (λ file. IfSome i (λ lines. P (told file lines)))
told_whole None v i bytes n P long within read end p = tt
told_whole (Some xs) v i bytes n P long within read end p =
    some_map i (λ lines. P (told (take n bytes) lines)) (λ lines. P (told xs lines))
    (λ lines t. subst P (file_told (Some xs) v bytes lines n long within read end) t) p

-- what holds of the bytes that were read holds of some that were
pub of_the_read : (u v i : Option (List ℕ)) (clip : List ℕ) (P : List ℕ → List ℕ → Type 0) → Consumes u v clip → IfSome i (P clip)
    → IfSome i (λ lines. OfTheRead u v (λ file. P file lines))
of_the_read u v i clip P read = some_map i (P clip) _ (λ lines p. record { clip = clip; read = read; holds = p })
