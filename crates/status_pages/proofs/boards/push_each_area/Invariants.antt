use Rattle.std.proofs.Common.{◌≡◌, ◌++◌, drop}
use Rattle.std.specs.List.{flat_map}
use Rattle.status_pages.specs.Boards.{area_html}
use Rattle.status_pages.proofs.boards.push_each_area.Given as goal

-- what was appended so far, and what is ahead, are all of it
abbrev pub invariant-loop-area : goal.invariant-loop-area
invariant-loop-area l = l.out.items ++ flat_map (area_html) (drop l.area-index l.areas) ≡ l.initial.out.items ++ flat_map (area_html) l.areas
