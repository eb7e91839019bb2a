-- The rule has one solution for each c, so two tables that obey it agree. Assumes nothing.
use mathlib.Core.Path.{◌≡◌, refl, sym, ap, ◌∙◌}
use mathlib.Core.List.{List}
use Prim.Native.Nat.{ℕ}
use lib.ListN.{length, get_or}
use Rattle.lists.specs.Powers.{root_single}
use Rattle.lists.specs.Table.{table, table_get_or, table_same}
use Rattle.detune.specs.Table.{entries}
use Rattle.detune.specs.Detune.{Rule}
use Rattle.detune.specs.Statement.{IsTable, TheTable}
use Rattle.detune.proofs.Rule.{obeys}

long : length entries ≡ 1200
unfolding entries
long = refl

single : (c f g : ℕ) → Rule c f → Rule c g → f ≡ g
single c f g r s = root_single 1200 r.0 r.1 s.0 s.1

-- a list of 1,200 is the table of its entries
of : (l : List ℕ) → length l ≡ 1200 → table 1200 (λ c. get_or l c 0) ≡ l
of l h = ap (λ (n : ℕ). table n (λ c. get_or l c 0)) (sym h) ∙ table_get_or l 0

only : (l : List ℕ) → IsTable l → l ≡ entries
only l h =
    sym (of l h.0)
    ∙ table_same 1200 (λ c. get_or l c 0) (λ c. get_or entries c 0) (λ c b. single c (get_or l c 0) (get_or entries c 0) (h.1 c b) (obeys c b))
    ∙ of entries long

pub the_table : TheTable
the_table = record { obeys = (long, obeys); single = single; only = only }
