use Rattle.std.proofs.Common.{◌≡◌, ◌+◌}
use Rattle.office.specs.Shuffles.{receipt_count}
use Rattle.office.proofs.auditing.audit.Given as goal

-- each turn takes one desk
abbrev pub decreases-loop-desk : goal.decreases-loop-desk
decreases-loop-desk g l = goal.left-loop-desk g l

-- what was counted, and what the desks that are left have
abbrev pub invariant-loop-desk : goal.invariant-loop-desk
invariant-loop-desk g l = receipt_count l.desks.items + l.rest.amount ≡ receipt_count l.initial.desks.items + l.initial.rest.amount
