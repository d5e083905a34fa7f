use Rattle.std.proofs.Common.{◌≡◌, ◌≤◌, ◌<◌, ◌+◌, ◌-◌, ◌^◌, ◌++◌, length, take}
use Rattle.mirror.specs.Lines.{lines_at}
use Rattle.mirror.specs.OnAir.{lines_for, on_air_cells, until_found}
use Rattle.mirror.specs.Table.{counted_all}
use Rattle.mirror.proofs.on_air.first_on_air.Given as goal

-- the cells found and the first of those to come are the first of all, the lines counted and those to come are no more
-- than all, with those to come until all cells are found each was counted, and the meter hasn't fallen
-- and fits 64 bits
abbrev pub invariant-loop-slot : goal.invariant-loop-slot
invariant-loop-slot l =
    (l.cells.items ++ take (l.most - length l.cells.items) (on_air_cells l.v.serial (lines_for l.v.bsc l.v.warning (lines_at l.slot-iterator l.lines))) ≡ take l.most (on_air_cells l.v.serial (lines_for l.v.bsc l.v.warning (lines_at l.fn.slots l.lines))))
    × (l.meter + length (lines_for l.v.bsc l.v.warning (lines_at l.slot-iterator l.lines)) ≤ l.initial.meter + length (lines_for l.v.bsc l.v.warning (lines_at l.fn.slots l.lines)))
    × (counted_all (length (until_found l.v.serial (l.most - length l.cells.items) (lines_for l.v.bsc l.v.warning (lines_at l.slot-iterator l.lines)))) l.meter ≡ counted_all (length (until_found l.v.serial l.most (lines_for l.v.bsc l.v.warning (lines_at l.fn.slots l.lines)))) l.initial.meter)
    × (l.initial.meter ≤ l.meter)
    × (l.meter < 2 ^ 64)
