use Rattle.std.proofs.Common.{◌≡◌, take}
use Rattle.coverage_plan.specs.Reach.{pairs_of}
use Rattle.coverage_plan.proofs.reached_pairs.pairs_of.Given as goal

-- the cells passed, with each of the warnings
abbrev pub invariant-loop-cell : goal.invariant-loop-cell
invariant-loop-cell l = l.pairs.items ≡ pairs_of (take l.cell-index l.cells) l.numbers
