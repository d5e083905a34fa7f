use Rattle.std.proofs.Common.{◌≡◌, ◌<◌, ◌≤◌, ℕ, Any}
use Rattle.office.specs.Desks.{DeskState}
use Rattle.office.proofs.settling.missing.Given as goal

-- each desk of a lower number is there
abbrev pub invariant-loop-number : goal.invariant-loop-number
invariant-loop-number g l = (1 ≤ l.number) × ((n : ℕ) → 0 < n → n < l.number → Any (λ (d : DeskState). d.number ≡ n) l.desks)
