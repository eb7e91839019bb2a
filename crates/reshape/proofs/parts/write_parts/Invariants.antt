-- `reshape::parts::write_parts` meets its contract. The invariant: the first c parts are written (`rows`), the rest is as it was. Assumes nothing.
use Rattle.std.proofs.Common.{◌≡◌, ℕ, ◌*◌, ◌<◌, List, ◌++◌, length, drop}
use Rattle.lists.specs.Rows.{rows}
use Rattle.buffer.specs.Channels.{channel}
use Rattle.reshape.proofs.parts.write_parts.Given as goal

abbrev pub invariant-loop-c : goal.invariant-loop-c
invariant-loop-c g l =
    (f : ℕ → List ℕ → List ℕ) → ((part : _) (c : ℕ) (after : _) → c < l.count → length part.now ≡ l.size → goal.F-post g l.write part c tt after → after.now ≡ f c part.now)
    → ((c : ℕ) (part : List ℕ) → c < l.count → length part ≡ l.size → length (f c part) ≡ l.size)
    → l.out ≡ rows l.c (λ c. f c (channel l.initial.out l.size c)) ++ drop (l.size * l.c) l.initial.out
