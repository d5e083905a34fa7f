use Rattle.std.proofs.Common.{◌≡◌, ◌||◌, drop}
use Rattle.common.specs.declared.cell.Cell.{Cell}
use Rattle.mirror.specs.Known.{is_named}
use Rattle.mirror.specs.NamedSet.{is_in}
use Rattle.mirror.proofs.named_set.NamedSet.of.Given as goal

-- what those to come name, and what is put in, is all
abbrev pub invariant-loop-id : goal.invariant-loop-id
invariant-loop-id l = (c : Cell) → (is_named l.network (drop l.id-index l.ids) c || is_in l.set c) ≡ is_named l.network l.ids c
