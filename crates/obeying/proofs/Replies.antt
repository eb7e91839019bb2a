-- What the parts of a line's reply come to. Assumes nothing.
use Rattle.std.proofs.Common.{◌≡◌, ℕ, ◌+◌, ◌≤◌, true, List, length, sym, refl, ap, ◌∙◌, eq-eqb, le-leb}
use lib.Seq.{sets}
use lib.Ieee as ieee
use lib.Ieee.{Float, binary32, of_bits}
use Rattle.seconds.specs.Seconds.{one}
use Rattle.player.specs.Block.{rendered, output}
use Rattle.player.specs.declared.BlockReport.{BlockReport}
use Rattle.std.specs.Prelude.{Result, Ok, Option, Some, unwrap_or}
use Rattle.buffer.specs.declared.refusals.Refusal.{Refusal}
use Rattle.text.specs.Lines.{block_text, block_room, fits, printed, printed_out}
use Rattle.obeying.specs.declared.Session.{Session}
use Rattle.obeying.specs.declared.Answer.{Answer}
use Rattle.obeying.specs.Obeying.{reply, session_of, counted, block_time, after_block, played_words, played, answer_of}
use Rattle.obeying.proofs.Accepted.{few_channels, whole_output}

abbrev answer : Session → ℕ → Answer
answer s n = record { session = s; printed = n }

-- 1 as an f32 is 1 as an f64
abbrev unit : Float
unit = of_bits binary32 0x3f80_0000

unit_is : unit ≡ one
unfolding ieee.of_bits
unit_is = refl

module _ (samples : List ℕ) (s : Session) (words : List ℕ) where
  -- the block call, by the time that the code found
  pub called : (r : Result BlockReport Refusal) (after : List ℕ) (t : Float) → t ≡ block_time s → r ≡ rendered 128 s.player (length words) (length samples) t unit one → after ≡ output 128 s.player words samples t unit one
      → (rendered 128 s.player (length words) (length samples) (block_time s) one one ≡ r) × (after ≡ played_words samples s words)
  unfolding played_words
  called r after t at is wrote = (
    sym (is ∙ ap (λ (u : Float). rendered 128 s.player (length words) (length samples) t u one) unit_is ∙ ap (λ (u : Float). rendered 128 s.player (length words) (length samples) u one one) at),
    wrote ∙ ap (λ (u : Float). output 128 s.player words samples t u one) unit_is ∙ ap (λ (u : Float). output 128 s.player words samples u one one) at,
  )

  block_done : (r : BlockReport) → rendered 128 s.player (length words) (length samples) (block_time s) one one ≡ Ok r
      → played samples s words ≡ reply (session_of r.player (counted s.number + 1)) (block_text s.number r.keep_alive r.ended r.channels (played_words samples s words))
  unfolding played after_block
  block_done r h = rw h

-- an accepted block's text has room
room_for : (r : BlockReport) (words out : ℕ) → r.channels ≤ 32 → words ≡ 4096 → block_room ≤ out → fits r.channels words out ≡ true
unfolding fits
room_for r words out few all room = simp (le-leb r.channels 32 few, eq-eqb words 4096 all, le-leb block_room out room)

text_printed : (r : BlockReport) (words : ℕ) (text out after : List ℕ) (p : Option ℕ) (n : ℕ)
    → r.channels ≤ 32 → words ≡ 4096 → block_room ≤ length out → n ≡ unwrap_or p 0
    → p ≡ printed (fits r.channels words (length out)) text → after ≡ printed_out (fits r.channels words (length out)) text out
    → (n ≡ length text) × (after ≡ sets out 0 text)
unfolding printed printed_out
text_printed r words text out after p n few all room count said stored =
    let fit = room_for r words (length out) few all room in
    let is : p ≡ Some (length text) = said ∙ rw fit in
    (count ∙ ap (λ o. unwrap_or o 0) is, stored ∙ rw fit)

-- an accepted block's reply
pub block_printed : (samples : List ℕ) (s : Session) (words : List ℕ) (r : BlockReport) (after out out_after : List ℕ) (p : Option ℕ) (n next : ℕ) → block_room ≤ length out
    → rendered 128 s.player (length words) (length samples) (block_time s) one one ≡ Ok r
    → after ≡ played_words samples s words → length after ≡ length words → next ≡ counted s.number → n ≡ unwrap_or p 0
    → p ≡ printed (fits r.channels (length after) (length out)) (block_text s.number r.keep_alive r.ended r.channels after)
    → out_after ≡ printed_out (fits r.channels (length after) (length out)) (block_text s.number r.keep_alive r.ended r.channels after) out
    → (answer (session_of r.player (next + 1)) n ≡ answer_of (played samples s words)) × (after ≡ played_words samples s words) × (out_after ≡ sets out 0 (played samples s words).text)
block_printed samples s words r after out out_after p n next room is wrote same up count said stored =
    let all = whole_output s.player (length words) (length samples) (block_time s) one one r is in
    let few = few_channels s.player (length words) (length samples) (block_time s) one one r is in
    let text = block_text s.number r.keep_alive r.ended r.channels in
    let t = text_printed r (length after) (text after) out out_after p n few (same ∙ all) room count said stored in
    rw (block_done samples s words r is) (
      ap (λ k. answer (session_of r.player (k + 1)) n) up ∙ ap (answer (session_of r.player (counted s.number + 1))) (t.0 ∙ ap (λ (w : List ℕ). length (text w)) wrote),
      wrote,
      t.1 ∙ ap (λ (w : List ℕ). sets out 0 (text w)) wrote,
    )
