use Rattle.std.proofs.Common.{◌≡◌, ℕ, ◌<◌, ◌≤◌, length, MatchOption}
use Rattle.line_faults.specs.Nearest.{distance}
use Rattle.line_faults.specs.Faults.{first_at}
use Rattle.line_faults.proofs.nearest.nearest_place.Given as goal

-- the least distance so far, and where it is
abbrev pub invariant-loop-place : goal.invariant-loop-place
invariant-loop-place l = record {
  least : (k : ℕ) → k < l.place → l.least ≤ distance l.word (first_at l.rows k);
  found : MatchOption l.found (l.least ≡ 3) (λ k. (k < length l.rows) × (l.least ≡ distance l.word (first_at l.rows k)) × (l.least < 3));
}
