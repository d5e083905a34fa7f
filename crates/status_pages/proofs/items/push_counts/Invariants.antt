use Rattle.std.proofs.Common.{◌≡◌, ◌++◌, drop}
use Rattle.std.specs.List.{flat_map}
use Rattle.status_pages.specs.Pages.{count_html}
use Rattle.status_pages.proofs.items.push_counts.Given as goal

-- what was appended so far, and what is ahead, are all of it
abbrev pub invariant-loop-item : goal.invariant-loop-item
invariant-loop-item l = l.out.items ++ flat_map (count_html l.counts) (drop l.item-index l.items) ≡ l.initial.out.items ++ flat_map (count_html l.counts) l.items
