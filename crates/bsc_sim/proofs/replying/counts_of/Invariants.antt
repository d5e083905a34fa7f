use Rattle.std.proofs.Common.{◌≡◌, take}
use Rattle.bsc_sim.specs.Answering.{counts_of}
use Rattle.bsc_sim.proofs.replying.counts_of.Given as goal

-- the numbers of the cells so far
abbrev pub invariant-loop-cell : goal.invariant-loop-cell
invariant-loop-cell l = l.counts ≡ counts_of l.choices (take l.cell-index l.done)
