use Rattle.std.proofs.Common.{◌≡◌, take}
use Rattle.centre_past.proofs.kept_links.copied.Given as goal

-- the links that the walk has passed are copied
abbrev pub invariant-loop-link : goal.invariant-loop-link
invariant-loop-link l = l.copy.items ≡ take l.link-index l.links
