use Rattle.std.proofs.Common.{◌≡◌, ◌++◌, drop}
use Rattle.std.specs.List.{flat_map}
use Rattle.status_pages.specs.Pages.{centre_html}
use Rattle.status_pages.proofs.items.push_centre_items.Given as goal

-- what was appended so far, and what is ahead, are all of it
abbrev pub invariant-loop-item : goal.invariant-loop-item
invariant-loop-item l = l.out.items ++ flat_map (centre_html l.picture) (drop l.item-index l.items) ≡ l.initial.out.items ++ flat_map (centre_html l.picture) l.items
