use Rattle.std.proofs.Common.{◌≡◌, ◌++◌, drop, nat_eq, filter, map}
use Rattle.cell_register.specs.Register.{cell_of}
use Rattle.cell_register.proofs.places.cells_without_index.Given as goal

-- the cells found, and those to come
abbrev pub invariant-loop-place : goal.invariant-loop-place
invariant-loop-place l =
    l.found.items ++ map cell_of (filter (λ p. nat_eq p.bsc l.b) (drop l.place-index l.places)) ≡ map cell_of (filter (λ p. nat_eq p.bsc l.b) l.places)
