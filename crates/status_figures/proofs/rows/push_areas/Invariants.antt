use Rattle.std.proofs.Common.{◌≡◌, ◌++◌, drop}
use Rattle.std.specs.List.{flat_map}
use Rattle.status_figures.specs.Tables.{area_record}
use Rattle.status_figures.proofs.rows.push_areas.Given as goal

-- what was appended so far, and what is ahead, are all of it
abbrev pub invariant-loop-area : goal.invariant-loop-area
invariant-loop-area l = l.out.items ++ flat_map (area_record l.warning) (drop l.area-index l.areas) ≡ l.initial.out.items ++ flat_map (area_record l.warning) l.areas
