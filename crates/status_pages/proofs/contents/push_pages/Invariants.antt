use Rattle.std.proofs.Common.{◌≡◌, ◌++◌, drop}
use Rattle.std.specs.List.{flat_map}
use Rattle.status_pages.specs.WarningParts.{page_digits}
use Rattle.status_pages.proofs.contents.push_pages.Given as goal

-- what was appended so far, and what is ahead, are all of it
abbrev pub invariant-loop-page : goal.invariant-loop-page
invariant-loop-page l = l.out.items ++ flat_map (page_digits) (drop l.page-index l.pages) ≡ l.initial.out.items ++ flat_map (page_digits) l.pages
