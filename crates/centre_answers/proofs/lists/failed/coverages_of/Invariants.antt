use Rattle.std.proofs.Common.{◌≡◌, map, take}
use Rattle.areas.specs.Areas.{selectors_of}
use Rattle.centre_answers.proofs.lists.failed.coverages_of.Given as goal

-- what the areas passed cover
abbrev pub invariant-loop-name : goal.invariant-loop-name
invariant-loop-name l = l.coverages.items ≡ map (selectors_of l.areas) (take l.name-index l.names)
