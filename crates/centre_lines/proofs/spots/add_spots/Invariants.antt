use Rattle.std.proofs.Common.{◌≡◌, ◌++◌, map, take}
use Rattle.centre_past.specs.Reach.{spot}
use Rattle.centre_lines.proofs.spots.add_spots.Given as goal

-- the cells passed stand last
abbrev pub invariant-loop-cell : goal.invariant-loop-cell
invariant-loop-cell l = l.spots.items ≡ l.fn.spots.items ++ map (spot l.b) (take l.cell-index l.cells)
