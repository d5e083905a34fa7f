use Rattle.std.proofs.Common.{◌≡◌, take}
use Rattle.common.proofs.names.Names.copied.Given as goal

-- the names that the walk has passed are copied
abbrev pub invariant-loop-name : goal.invariant-loop-name
invariant-loop-name l = l.names.items ≡ take l.name-index l.all
