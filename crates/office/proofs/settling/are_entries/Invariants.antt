use Rattle.std.proofs.Common.{◌≡◌, ◌↔◌, drop, length}
use Rattle.office.specs.Shuffles.{AreEntriesOf}
use Rattle.office.proofs.settling.are_entries.Given as goal

-- the centre stays as it was, and all receipts are entries just where those not yet passed are
abbrev pub invariant-loop-receipt : goal.invariant-loop-receipt
invariant-loop-receipt l = (l.centre.known ≡ l.initial.centre.known) × (AreEntriesOf l.desk (length l.initial.centre.known.folded) l.initial.centre.known.journal l.before (drop l.receipt-index l.receipts) ↔ AreEntriesOf l.desk (length l.initial.centre.known.folded) l.initial.centre.known.journal 0 l.receipts)
