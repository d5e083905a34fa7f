use Rattle.std.proofs.Common.{◌≡◌, map, take}
use Rattle.bsc_sim.specs.Indications.{failure_in}
use Rattle.bsc_sim.proofs.indications.fail_message.Given as goal

-- the cells so far failed with the cause
abbrev pub invariant-loop-cell : goal.invariant-loop-cell
invariant-loop-cell l = l.failures ≡ map (λ c. failure_in c l.cause) (take l.cell-index l.cells)
