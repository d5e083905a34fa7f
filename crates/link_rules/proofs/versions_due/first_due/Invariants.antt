use Rattle.std.proofs.Common.{◌≡◌, drop}
use Rattle.link_rules.specs.QueryPaces.{due_first}
use Rattle.link_rules.proofs.versions_due.first_due.Given as goal

-- the first that is due is among those ahead
abbrev pub invariant-loop-other : goal.invariant-loop-other
invariant-loop-other l = due_first l.now (drop l.other-index l.all) ≡ due_first l.now l.all
