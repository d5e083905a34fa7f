use Rattle.std.proofs.Common.{◌≡◌, take, filter, not}
use Rattle.areas.specs.Areas.{has_selector}
use Rattle.areas.specs.declared.selector.Selector.TheVariants.{Cell}
use Rattle.coverage_plan.proofs.reach.only_cells_in.Given as goal

-- those passed that the area does not select one by one
abbrev pub invariant-loop-cell : goal.invariant-loop-cell
invariant-loop-cell l = l.found.items ≡ filter (λ c. not (has_selector l.areas l.a (Cell c))) (take l.cell-index l.cells)
