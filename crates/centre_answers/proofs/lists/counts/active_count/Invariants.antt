use Rattle.std.proofs.Common.{◌≡◌, count_by, take}
use Rattle.centre_answers.proofs.lists.counts.active_count.Given as goal

-- the active ones of those passed
abbrev pub invariant-loop-warning : goal.invariant-loop-warning
invariant-loop-warning l = l.count ≡ count_by (λ w. w.active) (take l.warning-index l.warnings)
