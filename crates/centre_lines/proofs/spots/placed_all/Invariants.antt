use Rattle.std.proofs.Common.{◌≡◌, take}
use Rattle.std.specs.List.{flat_map}
use Rattle.cell_register.specs.Register.{place_in}
use Rattle.centre_past.specs.Reach.{at_bsc}
use Rattle.centre_lines.proofs.spots.placed_all.Given as goal

-- the cells passed, each at its BSC
abbrev pub invariant-loop-cell : goal.invariant-loop-cell
invariant-loop-cell l = l.spots.items ≡ flat_map (λ c. at_bsc c (place_in l.register c)) (take l.cell-index l.cells)
