use Rattle.std.proofs.Common.{◌≡◌, drop}
use Rattle.areas.specs.Areas.{is_among}
use Rattle.areas.specs.declared.selector.Selector.TheVariants as selector
use Rattle.areas.proofs.lookups.has_cell_by_steps.Given as goal

-- whether the cell is among those to come is whether it is among all
abbrev pub invariant-loop-s : goal.invariant-loop-s
invariant-loop-s l = is_among (selector.Cell l.c) (drop l.s-index l.selectors) ≡ is_among (selector.Cell l.c) l.selectors
