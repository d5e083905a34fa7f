use Rattle.std.proofs.Common.{◌≡◌, length, take}
use Rattle.std.specs.List.{AllByRecursion}
use Rattle.cbsp_messages.proofs.ranges.each_page_range.Given as goal

-- each page that the walk has passed has 82 octets
abbrev pub invariant-loop-page : goal.invariant-loop-page
invariant-loop-page l = AllByRecursion (λ page. length page.octets ≡ 82) (take l.page-index l.pages)
