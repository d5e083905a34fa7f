use Rattle.std.proofs.Common.{◌≡◌, take}
use Rattle.std.specs.List.{flat_map}
use Rattle.coverage_plan.specs.Plan.{items_at}
use Rattle.coverage_plan.proofs.plan.Plan.plan_of.Given as goal

-- what is planned in the cells passed
abbrev pub invariant-loop-cell : goal.invariant-loop-cell
invariant-loop-cell l = l.items.items ≡ flat_map (items_at l.self) (take l.cell-index l.cells)
