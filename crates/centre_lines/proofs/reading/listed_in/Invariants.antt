use Rattle.std.proofs.Common.{◌≡◌, ◌||◌, nat_eq, filter, take}
use Rattle.std.specs.List.{list_any}
use Rattle.centre_lines.proofs.reading.listed_in.Given as goal

-- those of the warnings passed
abbrev pub invariant-loop-warning : goal.invariant-loop-warning
invariant-loop-warning l = l.near.items ≡ filter (λ n. list_any (nat_eq n) l.kept || list_any (nat_eq n) l.named) (take l.warning-index l.warnings)
