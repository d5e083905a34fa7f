use Rattle.std.proofs.Common.{ℕ, ◌<◌, ◌≤◌, get_or}
use Rattle.server_http.specs.declared.visitor.Visitor.{Visitor}
use Rattle.server_http.proofs.turns.most_silent.Given as goal

-- none of those so far has been silent for a longer time
abbrev pub invariant-loop-place : goal.invariant-loop-place
invariant-loop-place l = record {
  found : l.found < l.place;
  silent : (k : ℕ) (d : Visitor) → k < l.place → (get_or l.visitors l.found d).visit.heard ≤ (get_or l.visitors k d).visit.heard;
}
