-- What contracts see of a journal, and how the reads of its entries are counted.
use Rattle.std.specs.Prelude.{◌≡◌, ◌<◌, ℕ, zero, suc, ◌+◌, ◌^◌, List, length}
use Rattle.mirror.specs.Table.{counted}
use Rattle.centre_events.specs.declared.entry.Entry.{Entry}

-- the entries that were folded, and those since, both the oldest first; how often entries were read; for how many more
-- there is room
pub record JournalState : Type 0 where
  pub folded : List Entry
  pub entries : List Entry
  pub reads : ℕ
  pub room : ℕ

-- so many entries were folded, and each entry has a number of 64 bits
pub record IsNumbered (count : ℕ) (folded entries : List Entry) : Type 0 where
  pub counted : count ≡ length folded
  pub fits : length folded + length entries < 2 ^ 64

-- n after k reads more, each counted; the greatest value of 64 bits stays
abbrev pub counted_by : ℕ → ℕ → ℕ
counted_by zero n = n
counted_by (suc k) n = counted (counted_by k n)
