use Rattle.std.proofs.Common.{◌≡◌, ◌++◌, drop}
use Rattle.std.specs.List.{flat_map}
use Rattle.centre_past.specs.Legal.{past}
use Rattle.centre_questions.specs.Surveys.{area_of}
use Rattle.centre_questions.proofs.surveying.areas_in.Given as goal

-- the areas so far, and those ahead, are all of them
abbrev pub invariant-loop-name : goal.invariant-loop-name
invariant-loop-name l = l.areas.items ++ flat_map (area_of (past l.centre.known) l.warning) (drop l.name-index l.names) ≡ flat_map (area_of (past l.centre.known) l.warning) l.names
