use Rattle.std.proofs.Common.{◌≡◌, ◌++◌, drop}
use Rattle.std.specs.List.{flat_map}
use Rattle.status_pages.specs.Causes.{area_if}
use Rattle.status_pages.proofs.causes.push_failed_areas.Given as goal

-- what was appended so far, and what is ahead, are all of it
abbrev pub invariant-loop-area : goal.invariant-loop-area
invariant-loop-area l = l.out.items ++ flat_map (area_if) (drop l.area-index l.areas) ≡ l.initial.out.items ++ flat_map (area_if) l.areas
