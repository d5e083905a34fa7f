use Rattle.std.proofs.Common.{◌≡◌, ◌++◌, drop}
use Rattle.std.specs.List.{flat_map}
use Rattle.lists_text.specs.ListTexts.{page_line}
use Rattle.lists_text.proofs.pages.push_octets.Given as goal

-- the text so far, and the pages ahead, are the whole text
abbrev pub invariant-loop-page : goal.invariant-loop-page
invariant-loop-page l = l.text.items ++ flat_map page_line (drop l.page-index l.pages) ≡ l.initial.text.items ++ flat_map page_line l.pages
