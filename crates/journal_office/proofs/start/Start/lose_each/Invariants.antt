use Rattle.std.proofs.Common.{take}
use Rattle.journal_office.specs.Losses.{LosesEach, row_losses}
use Rattle.journal_office.proofs.start.Start.lose_each.Given as goal

-- the links of the rows that were passed are lost
abbrev pub invariant-loop-row : goal.invariant-loop-row
invariant-loop-row g l = LosesEach (row_losses (take l.row-index l.rows)) l.initial.held.centre l.initial.writing l.held.centre l.writing
