use Rattle.std.proofs.Common.{◌≡◌, ◌&&◌, drop}
use Rattle.std.specs.List.{list_all}
use Rattle.mirror.specs.Blank.{state_eq}
use Rattle.mirror.specs.Line.{blank}
use Rattle.mirror.proofs.line.are_blank.Given as goal

-- whether those passed and those to come are blank is whether all are
abbrev pub invariant-loop-state : goal.invariant-loop-state
invariant-loop-state l = (l.is_blank && list_all (λ s. state_eq s blank) (drop l.state-index l.states)) ≡ list_all (λ s. state_eq s blank) l.states
