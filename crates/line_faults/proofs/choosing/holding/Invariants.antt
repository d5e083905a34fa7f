use Rattle.std.proofs.Common.{◌≡◌, ℕ, ◌<◌, ◌&&◌, false}
use Rattle.line_faults.specs.Faults.{begins, form_at, has_room}
use Rattle.line_faults.proofs.choosing.holding.Given as goal

-- no row so far is one
abbrev pub invariant-loop-place : goal.invariant-loop-place
invariant-loop-place l = (k : ℕ) → k < l.place → (begins (form_at l.rows k) l.words && has_room (form_at l.rows k) l.words) ≡ false
