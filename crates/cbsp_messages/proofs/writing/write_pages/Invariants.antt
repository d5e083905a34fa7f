use Rattle.std.proofs.Common.{◌≡◌, ◌++◌, map, take}
use Rattle.std.specs.List.{flat_map}
use Rattle.cbsp_ie.specs.Written.{element_octets}
use Rattle.cbsp_messages.specs.Parts.{page_element}
use Rattle.cbsp_messages.proofs.writing.write_pages.Given as goal

-- the pages before the index are appended
abbrev pub invariant-loop-page : goal.invariant-loop-page
invariant-loop-page l = l.out.items ≡ l.fn.out.items ++ flat_map element_octets (map page_element (take l.page-index l.pages))
