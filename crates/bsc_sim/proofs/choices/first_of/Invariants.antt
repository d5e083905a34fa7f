use Rattle.std.proofs.Common.{◌≡◌, drop}
use Rattle.std.specs.Map.{lookup}
use Rattle.common.specs.Cell.{cell_eq}
use Rattle.bsc_sim.proofs.choices.first_of.Given as goal

-- the first pair of the cell is among those to come
abbrev pub invariant-loop-named : goal.invariant-loop-named
invariant-loop-named g l = lookup (cell_eq l.cell) (drop l.named-index l.pairs) ≡ lookup (cell_eq l.cell) l.pairs
