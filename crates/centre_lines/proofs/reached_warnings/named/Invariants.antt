use Rattle.std.proofs.Common.{◌≡◌, filter, map, take}
use Rattle.centre_events.specs.Reported.{names_warning}
use Rattle.centre_lines.proofs.reached_warnings.named.Given as goal

-- those of the warnings passed
abbrev pub invariant-loop-warning : goal.invariant-loop-warning
invariant-loop-warning l = l.numbers.items ≡ map (λ w. w.number) (filter (names_warning l.flight) (take l.warning-index l.warnings))
