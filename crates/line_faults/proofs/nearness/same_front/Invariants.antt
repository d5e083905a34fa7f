use Rattle.std.proofs.Common.{◌≡◌, ◌+◌, ◌≤◌, drop, length}
use Rattle.line_faults.specs.Nearest.{same_front}
use Rattle.line_faults.proofs.nearness.same_front.Given as goal

-- those so far are the same, and with those ahead they are all that are
abbrev pub invariant-loop-place : goal.invariant-loop-place
invariant-loop-place l = record {
  same : same_front (drop l.place l.one) (drop l.place l.other) + l.place ≡ same_front l.one l.other;
  within : l.place ≤ length l.other;
}
