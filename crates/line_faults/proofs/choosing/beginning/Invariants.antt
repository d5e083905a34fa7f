use Rattle.std.proofs.Common.{◌≡◌, ℕ, ◌<◌, true, false, length, MatchOption}
use Rattle.line_faults.specs.Faults.{begins, form_at}
use Rattle.line_faults.proofs.choosing.beginning.Given as goal

-- the last row so far, or none so far is one
abbrev pub invariant-loop-place : goal.invariant-loop-place
invariant-loop-place l = MatchOption l.last ((k : ℕ) → k < l.place → begins (form_at l.rows k) l.words ≡ false) (λ k. (k < length l.rows) × (begins (form_at l.rows k) l.words ≡ true))
