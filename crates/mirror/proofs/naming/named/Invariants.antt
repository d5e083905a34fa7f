use Rattle.std.proofs.Common.{◌≡◌, take, filter}
use Rattle.mirror.specs.Known.{is_named}
use Rattle.mirror.proofs.naming.named.Given as goal

-- those of the cells passed that are named
abbrev pub invariant-loop-c : goal.invariant-loop-c
invariant-loop-c l = l.found.items ≡ filter (is_named l.fn.network l.ids) (take l.c-index l.cells)
