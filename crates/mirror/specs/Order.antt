-- The orders in which a table keeps its lines and the cells that are down.
use Rattle.std.specs.Prelude.{ℕ, ◌+◌, ◌*◌, ◌/◌, ◌%◌, ◌^◌}
use Rattle.std.specs.Ordering.{ordering_then, nat_cmp}
use Rattle.std.specs.declared.cmp.Ordering.{Ordering}
use Rattle.common.specs.Cell.{cell_cmp}
use Rattle.common.specs.declared.cell.Cell.{Cell}

-- a cell at a BSC
pub record Place : Type 0 where
  pub bsc : ℕ
  pub cell : Cell

-- where a line stands
pub record Slot : Type 0 where
  pub bsc : ℕ
  pub cell : Cell
  pub warning : ℕ

-- lines by BSC, then by cell, then by warning
abbrev pub slot_cmp : Slot → Slot → Ordering
slot_cmp x y = ordering_then (nat_cmp x.bsc y.bsc) (ordering_then (cell_cmp x.cell y.cell) (nat_cmp x.warning y.warning))

-- lines by warning, then by BSC, then by cell
abbrev pub warning_slot_cmp : Slot → Slot → Ordering
warning_slot_cmp x y = ordering_then (nat_cmp x.warning y.warning) (ordering_then (nat_cmp x.bsc y.bsc) (cell_cmp x.cell y.cell))

-- cells that are down by BSC, then by cell
abbrev pub place_cmp : Place → Place → Ordering
place_cmp x y = ordering_then (nat_cmp x.bsc y.bsc) (cell_cmp x.cell y.cell)

-- the slot of a BSC, a cell and a warning
abbrev pub slot_of : ℕ → Cell → ℕ → Slot
slot_of b c w = record { bsc = b; cell = c; warning = w }

-- the first slot that a BSC can have
abbrev pub least_slot : ℕ → Slot
least_slot b = record { bsc = b; cell = record { lac = 0; ci = 0 }; warning = 0 }

-- no slot of the warning comes before it
abbrev pub first_of : ℕ → Slot
first_of w = slot_of 0 (record { lac = 0; ci = 0 }) w

-- the slot that stands in two numbers: in the one the warning highest, then the BSC; in the other the location area, then
-- the cell identity
abbrev pub slot_in : ℕ → ℕ → Slot
slot_in m n = record { bsc = m % 2 ^ 16; cell = record { lac = n / 2 ^ 16; ci = n % 2 ^ 16 }; warning = m / 2 ^ 16 }

-- the two numbers in which a slot stands, by which it is hashed
abbrev pub front_of : Slot → ℕ
front_of s = s.warning * 2 ^ 16 + s.bsc

abbrev pub cell_number : Slot → ℕ
cell_number s = s.cell.lac * 2 ^ 16 + s.cell.ci

-- the place of a BSC and a cell
abbrev pub place_of : ℕ → Cell → Place
place_of b c = record { bsc = b; cell = c }

-- the first place that a BSC can have
abbrev pub least_place : ℕ → Place
least_place b = record { bsc = b; cell = record { lac = 0; ci = 0 } }

-- the place that stands in the number: the BSC highest, then the location area and the cell identity
abbrev pub place_in : ℕ → Place
place_in n = record { bsc = n / 2 ^ 32; cell = record { lac = n % 2 ^ 32 / 2 ^ 16; ci = n % 2 ^ 16 } }
