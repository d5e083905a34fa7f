use Rattle.std.proofs.Common.{◌≡◌, drop}
use Rattle.mirror.specs.Known.{are_of_cells}
use Rattle.mirror.proofs.naming.are_of_cells.Given as goal

-- each of those passed has a cell of its own
abbrev pub invariant-loop-id : goal.invariant-loop-id
invariant-loop-id l = are_of_cells (drop l.id-index l.ids) ≡ are_of_cells l.ids
