use Rattle.std.proofs.Common.{◌≡◌, reverse, take}
use Rattle.cbsp_ie.specs.CellId.{names}
use Rattle.common.specs.declared.cell.Cell.{Cell}
use Rattle.centre_events.specs.LastPlaces.{last_place, place_in}
use Rattle.centre_events.proofs.last_places.LastPlaces.of_counts.Given as goal

-- the places of the entries passed
abbrev pub invariant-loop-before : goal.invariant-loop-before
invariant-loop-before l = (c : Cell) → place_in l.places c ≡ last_place (λ i. names l.network i.id c) (reverse (take l.before l.entries))
