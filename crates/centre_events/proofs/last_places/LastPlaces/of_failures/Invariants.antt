use Rattle.std.proofs.Common.{◌≡◌, ◌-◌, drop, length}
use Rattle.cbsp_ie.specs.CellId.{names}
use Rattle.common.specs.declared.cell.Cell.{Cell}
use Rattle.centre_events.specs.LastPlaces.{last_place, place_in}
use Rattle.centre_events.proofs.last_places.LastPlaces.of_failures.Given as goal

-- the places of the failures passed, from the last on
abbrev pub invariant-loop-behind : goal.invariant-loop-behind
invariant-loop-behind l = (c : Cell) → place_in l.places c ≡ last_place (λ f. names l.network f.id c) (drop (length l.failures - l.behind) l.failures)
