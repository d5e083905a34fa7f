use Rattle.std.proofs.Common.{◌≡◌, ◌++◌, take}
use Rattle.coverage_plan.specs.Reach.{pairs_with}
use Rattle.coverage_plan.proofs.reached_pairs.put_pairs.Given as goal

-- the cell stands with those passed
abbrev pub invariant-loop-number : goal.invariant-loop-number
invariant-loop-number l = l.out.items ≡ l.fn.out.items ++ pairs_with (take l.number-index l.numbers) l.c
