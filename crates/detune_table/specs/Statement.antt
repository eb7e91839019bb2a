-- The numbers that are printed are the table: they obey its rule (docs/REFERENCE.md, 'Detune in cents').
use Rattle.std.specs.Prelude.{◌≡◌, List, ℕ, ◌+◌, ◌*◌, ◌/◌, ◌^◌, ◌≤◌, ◌<◌}
use Rattle.lists.specs.Table.{table}
use Rattle.detune.specs.Table.{entries}
use Rattle.detune.specs.Statement.{IsTable}
use Rattle.detune_table.specs.Bounds.{lower, upper, found}

pub record Generated : Type 0 where
  -- lower c ≤ 2^(c/1200) × 2^62 ≤ upper c, for every c
  pub below : (c : ℕ) → lower c ^ 1200 ≤ 2 ^ (c + 62 * 1200)
  pub above : (c : ℕ) → 2 ^ (c + 62 * 1200) ≤ upper c ^ 1200
  -- both leave the same entry, for each of the 1,200
  pub agree : (c : ℕ) → c < 1200 → upper c / 2 ^ 32 ≡ found c
  -- so what is found obeys the rule; it is the only list that does, and so the table
  pub obeys : IsTable (table 1200 found)
  pub only : (l : List ℕ) → IsTable l → l ≡ table 1200 found
  pub same : entries ≡ table 1200 found
