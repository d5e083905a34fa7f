use Rattle.std.proofs.Common.{◌≡◌, drop}
use Rattle.bsc_sim.specs.Answering.{tallied, tally_from, tally_of}
use Rattle.bsc_sim.proofs.tally.Tally.of.Given as goal

-- the cells to come make of the tally so far what all cells come to
abbrev pub invariant-loop-cell : goal.invariant-loop-cell
invariant-loop-cell l = tally_from l.own l.choices l.request (tallied l.tally) (drop l.cell-index l.cell-items) ≡ tally_of l.own l.choices l.request l.keys l.cell-items
