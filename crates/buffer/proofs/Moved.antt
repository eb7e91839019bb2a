-- What a copy leaves in a channel. `from` is the offset, or the channel's end where the offset is past it. Assumes nothing.
use Rattle.std.proofs.Common.{◌≡◌, ℕ, ◌+◌, ◌-◌, ◌<◌, ◌≤◌, min, Bool, true, false, not, T, leb, List, ◌++◌, take, drop, sym, ap, ◌∙◌, arith, leb→le}
use lib.Dec.{nleb→lt}
use Rattle.lists.specs.Parts.{put, put_none, span}

-- a place past the channel's end is as good as the end, since nothing is put there
placed : (samples source : List ℕ) (frames start offset n nf : ℕ) → n ≡ min (frames - offset) nf
    → put (start + min offset frames) n (take n source) samples ≡ put (start + offset) n (take n source) samples
placed samples source frames start offset n nf moved = go (leb offset frames) (leb→le offset frames) (nleb→lt offset frames)
  where
    go : (t : Bool) → (T t → offset ≤ frames) → (T (not t) → frames < offset)
        → put (start + min offset frames) n (take n source) samples ≡ put (start + offset) n (take n source) samples
    go true p q =
        let h = p tt in
        let e : min offset frames ≡ offset = omega arith in
        ap (λ m. put (start + m) n (take n source) samples) e
    go false p q =
        let h = q tt in
        let z : n ≡ 0 = omega arith in
        rw z (put_none (start + min offset frames) samples ∙ sym (put_none (start + offset) samples))

-- n frames into the channel of `frames` frames that begins at `start`
pub into : (samples source part : List ℕ) (frames start offset from n nf : ℕ) → from ≡ min offset frames → n ≡ min (frames - offset) nf → part ≡ take n source
    → take (start + from) samples ++ (part ++ drop (start + from + n - (start + from)) (drop (start + from) samples)) ≡ put (start + offset) n (take n source) samples
unfolding put
into samples source part frames start offset from n nf clamped moved back =
    rw (back, span (start + from) n, clamped) (placed samples source frames start offset n nf moved)
