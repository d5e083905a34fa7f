use Rattle.std.proofs.Common.{◌≡◌, map, take}
use Rattle.centre_past.specs.Lists.{kept_row}
use Rattle.centre_answers.proofs.lists.named_areas.rows_of.Given as goal

-- the rows of the areas passed
abbrev pub invariant-loop-area : goal.invariant-loop-area
invariant-loop-area l = l.rows.items ≡ map kept_row (take l.area-index l.areas)
