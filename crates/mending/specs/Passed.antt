-- What is known of a file whose checks pass (docs/REFERENCE.md, 'Mending'): each has passed, and the answer is what stands behind them.
use Rattle.std.specs.Prelude.{◌≡◌, Bool, true, false, not, ◌&&◌, cond, ℕ, ◌≤◌, List, leb, eqb, length, Ok, Err}
use Rattle.std.proofs.Common.{refl, leb-true, eqb-true}
use Rattle.std.specs.Float.{binary32}
use Rattle.std.specs.Float.Ieee.{of_bits}
use Rattle.buffer.specs.Limits.{max_channels, valid_rate}
use Rattle.buffer.specs.Answers.{after_checks}
use Rattle.buffer.specs.declared.refusals.Refusal.{Refusal}
use Rattle.clip.specs.Layout.{max_length}
use Rattle.clip.specs.Reading.{length_field, channels_field, rate_field, has_length, form_of}
use Rattle.mending.specs.Mending.{header_of_file, has_header, has_channels, frames_held, mend_checks}

pub record Mendable (file : List ℕ) (lent : ℕ) : Type 0 where
  pub short : length file ≤ max_length
  pub room : header_of_file file ≤ length file
  pub header : length_field file ≡ header_of_file file
  pub some : 1 ≤ channels_field file
  pub few : channels_field file ≤ max_channels
  pub rate : valid_rate (of_bits binary32 (rate_field file)) ≡ true
  pub left : 1 ≤ frames_held file
  pub lent_all : lent ≡ length file

both : (a b : Bool) → (a && b) ≡ true → (a ≡ true) × (b ≡ true)
both true b h = (refl, h)
both false b h = (cc, cc)

checked : {A : Type 0} (a b c d e : Bool) (x y : A) (i j k l m : Refusal)
    → after_checks
    (cond (not a) (Err i) (cond (not b) (Err j) (cond (not c) (Err k) (cond (not d) (Err l) (cond (not e) (Err m) (Ok tt)))))) x ≡ Ok y
    → (a ≡ true) × (b ≡ true) × (c ≡ true) × (d ≡ true) × (e ≡ true) × (x ≡ y)
checked true true true true true x y i j k l m h = (refl, refl, refl, refl, refl, cc)
checked true true true true false x y i j k l m h = (cc, cc, cc, cc, cc, cc)
checked true true true false e x y i j k l m h = (cc, cc, cc, cc, cc, cc)
checked true true false d e x y i j k l m h = (cc, cc, cc, cc, cc, cc)
checked true false c d e x y i j k l m h = (cc, cc, cc, cc, cc, cc)
checked false b c d e x y i j k l m h = (cc, cc, cc, cc, cc, cc)

pub mend_passes : {A : Type 0} (file : List ℕ) (lent : ℕ) (x y : A) → after_checks (mend_checks file lent) x ≡ Ok y
    → Mendable file lent × (x ≡ y)
unfolding mend_checks
mend_passes file lent x y h =
    let p =
    checked (has_header file) (has_channels (channels_field file)) (valid_rate (of_bits binary32 (rate_field file))) (leb 1 (frames_held file))
    (eqb lent (length file)) x y _ _ _ _ _ h
    in
    let a = both (leb (length file) max_length) _ p.0 in
    let b = both (leb (header_of_file file) (length file)) (has_length (form_of file) file) a.1 in
    let c = both (leb 1 (channels_field file)) (leb (channels_field file) max_channels) p.1 in (
      record {
        short = leb-true _ _ a.0;
        room = leb-true _ _ b.0;
        header = eqb-true _ _ b.1;
        some = leb-true _ _ c.0;
        few = leb-true _ _ c.1;
        rate = p.2;
        left = leb-true _ _ p.3;
        lent_all = eqb-true _ _ p.4;
      },
      p.5,
    )
