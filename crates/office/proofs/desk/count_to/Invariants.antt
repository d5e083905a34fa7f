use Rattle.std.proofs.Common.{◌≡◌, ◌≤◌, take, All}
use Rattle.office.specs.declared.receipt.Receipt.{Receipt}
use Rattle.office.proofs.desk.count_to.Given as goal

-- the receipts passed are counted, and none is above the place
abbrev pub invariant-loop-receipt : goal.invariant-loop-receipt
invariant-loop-receipt l = (l.count ≡ l.receipt-index) × All (λ (r : Receipt). r.place ≤ l.place) (take l.receipt-index l.receipts)
