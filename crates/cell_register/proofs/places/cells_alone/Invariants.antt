use Rattle.std.proofs.Common.{◌≡◌, ◌++◌, drop, map}
use Rattle.cell_register.specs.Register.{cell_of}
use Rattle.cell_register.proofs.places.cells_alone.Given as goal

-- the cells found, and those to come
abbrev pub invariant-loop-place : goal.invariant-loop-place
invariant-loop-place l = l.found.items ++ map cell_of (drop l.place-index l.places) ≡ map cell_of l.places
