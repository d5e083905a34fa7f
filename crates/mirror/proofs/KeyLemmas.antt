-- What the orders of slots, places and cells say of their numbers.
use Rattle.std.proofs.Common.{◌≡◌, ℕ, ◌+◌, true, false, nat_eq, arith, Less}
use Rattle.std.proofs.lemmas.Bool.Decides.{nat_tests}
use Rattle.std.proofs.lemmas.Grind.{common_steps}
use Rattle.std.specs.BTreeMap.{is_at}
use Rattle.std.specs.BTreeMap.Range.{range_contains}
use Rattle.std.specs.declared.ops.Bound.TheVariants.{Included, Excluded}
use Rattle.common.specs.Cell.{cell_eq, cell_lt, cell_cmp}
use Rattle.common.specs.declared.cell.Cell.{Cell}
use Rattle.mirror.specs.OnAir.{is_slot_for}
use Rattle.mirror.specs.Order.{Place, Slot, slot_cmp, warning_slot_cmp, place_cmp, slot_of, least_slot, place_of, least_place}
use Rattle.mirror.specs.Table.{is_slot, is_that_place}

pub at_cell : (c d : Cell) → is_at (cell_cmp c) d ≡ cell_eq c d
at_cell c d = grind (arith, nat_tests, common_steps)

pub at_slot : (b : ℕ) (c : Cell) (w : ℕ) (s : Slot) → is_at (slot_cmp (slot_of b c w)) s ≡ is_slot b c w s
at_slot b c w s = grind (arith, nat_tests, common_steps)

pub at_warning_slot : (b : ℕ) (c : Cell) (w : ℕ) (s : Slot) → is_at (warning_slot_cmp (slot_of b c w)) s ≡ is_slot b c w s
at_warning_slot b c w s = grind (arith, nat_tests, common_steps)

pub at_place : (b : ℕ) (c : Cell) (p : Place) → is_at (place_cmp (place_of b c)) p ≡ is_that_place b c p
at_place b c p = grind (arith, nat_tests, common_steps)

pub slots_between : (b : ℕ) (s : Slot) → range_contains slot_cmp (Included (least_slot b)) (Excluded (least_slot (b + 1))) s ≡ nat_eq b s.bsc
slots_between b s = grind (arith, nat_tests, common_steps)

pub places_between : (b : ℕ) (p : Place) → range_contains place_cmp (Included (least_place b)) (Excluded (least_place (b + 1))) p ≡ nat_eq b p.bsc
places_between b p = grind (arith, nat_tests, common_steps)

-- of two slots of one BSC and one warning, the one that comes first is of the cell that comes first
pub before_cell_of : (b w : ℕ) (s t : Slot) → is_slot_for b w s ≡ true → is_slot_for b w t ≡ true → warning_slot_cmp s t ≡ Less → cell_lt s.cell t.cell ≡ true
before_cell_of b w s t h g l = grind (arith, nat_tests, common_steps)

-- what comes after a slot is another slot
pub other_slot : (b : ℕ) (c : Cell) (w : ℕ) (s t : Slot) → is_slot b c w s ≡ true → warning_slot_cmp s t ≡ Less → is_slot b c w t ≡ false
other_slot b c w s t h l = grind (arith, nat_tests, common_steps)

pub other_index_slot : (b : ℕ) (c : Cell) (w : ℕ) (s t : Slot) → is_slot b c w s ≡ true → slot_cmp s t ≡ Less → is_slot b c w t ≡ false
other_index_slot b c w s t h l = grind (arith, nat_tests, common_steps)

-- no cell comes before itself
pub not_before_itself : (c : Cell) → cell_lt c c ≡ false
not_before_itself c = grind (arith, nat_tests, common_steps)

-- a cell that comes before another is not that one
pub cell_apart : (c d : Cell) → cell_lt c d ≡ true → cell_eq c d ≡ false
cell_apart c d h = grind (arith, nat_tests, common_steps)
