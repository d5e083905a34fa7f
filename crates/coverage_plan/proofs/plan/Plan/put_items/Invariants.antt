use Rattle.std.proofs.Common.{◌≡◌, ◌++◌, take}
use Rattle.std.specs.List.{flat_map}
use Rattle.coverage_plan.specs.Plan.{items_of}
use Rattle.coverage_plan.proofs.plan.Plan.put_items.Given as goal

-- what is planned of those passed stands last
abbrev pub invariant-loop-warning : goal.invariant-loop-warning
invariant-loop-warning l = l.out.items ≡ l.fn.out.items ++ flat_map (items_of l.self l.c) (take l.warning-index l.warnings)
