use Rattle.std.proofs.Common.{◌≡◌, take, All}
use Rattle.office.specs.Shuffles.{HasItsEntries}
use Rattle.office.proofs.settling.mismatch.Given as goal

-- the centre stays as it was, and the desks passed have their entries
abbrev pub invariant-loop-desk : goal.invariant-loop-desk
invariant-loop-desk g l = (l.centre.known ≡ l.initial.centre.known) × All (HasItsEntries l.initial.centre.known.folded l.initial.centre.known.journal) (take l.desk-index l.desks)
