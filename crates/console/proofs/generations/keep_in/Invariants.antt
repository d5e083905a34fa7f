use Rattle.std.proofs.Common.{◌≡◌, ◌++◌, take, drop}
use Rattle.console.specs.Generations.{with_generation}
use Rattle.console.proofs.generations.keep_in.Given as goal

-- the BSC is not among those before, which stay
abbrev pub invariant-loop-i : goal.invariant-loop-i
invariant-loop-i l = record {
  same : l.kept.items ≡ l.initial.kept.items;
  rest : take l.i l.kept.items ++ with_generation l.bsc l.generation (drop l.i l.kept.items) ≡ with_generation l.bsc l.generation l.initial.kept.items;
}
