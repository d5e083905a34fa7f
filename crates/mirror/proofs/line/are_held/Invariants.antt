use Rattle.std.proofs.Common.{◌≡◌, ◌||◌, drop}
use Rattle.std.specs.List.{list_any}
use Rattle.std.specs.Option.{is_some}
use Rattle.mirror.proofs.line.are_held.Given as goal

-- whether one of those passed or to come has a hold is whether one of all has
abbrev pub invariant-loop-state : goal.invariant-loop-state
invariant-loop-state l = (l.is_held || list_any (λ s. is_some s.hold) (drop l.state-index l.states)) ≡ list_any (λ s. is_some s.hold) l.states
