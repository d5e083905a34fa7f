use Rattle.std.proofs.Common.{◌<◌, ℕ, get_or}
use Rattle.mirror.specs.Line.{blank}
use Rattle.mirror.proofs.line.Line.tell_counts.Given as goal

-- the counts of the states passed fit 16 bits
abbrev pub invariant-loop-state : goal.invariant-loop-state
invariant-loop-state l = (i : ℕ) → i < l.state-index → (get_or l.self.states i blank).count < 65536
