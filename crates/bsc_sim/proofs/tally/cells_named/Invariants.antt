use Rattle.std.proofs.Common.{◌≡◌, take}
use Rattle.bsc_sim.specs.Answering.{cells_named}
use Rattle.bsc_sim.proofs.tally.cells_named.Given as goal

-- the cells of the identifications so far
abbrev pub invariant-loop-id : goal.invariant-loop-id
invariant-loop-id l = l.cells.items ≡ cells_named (take l.id-index l.ids)
