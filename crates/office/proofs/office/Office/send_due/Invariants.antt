use Rattle.office.specs.Offices.{IsSameDesk}
use Rattle.office.proofs.office.Office.send_due.Given as goal

-- the loop goes on, and the desk let go of receipts alone
abbrev pub invariant-loop : goal.invariant-loop
invariant-loop g l = record {
  can : (goal.iterator-loop g).can_next l.iterator';
  finite : (goal.iterator-loop g).is_finite l.iterator';
  same : IsSameDesk l.initial.desk l.desk;
}
