use Rattle.std.proofs.Common.{drop}
use Rattle.cell_register.proofs.IndexLemmas.{IsIndexOfFirst}
use Rattle.cell_register.proofs.places.index_of.Given as goal

-- the index of the cells so far
abbrev pub invariant-loop-place : goal.invariant-loop-place
invariant-loop-place l = IsIndexOfFirst l.seats (drop l.place-index l.places) l.places
