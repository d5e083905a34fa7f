use Rattle.std.proofs.Common.{◌≡◌, ◌||◌, ℕ, List, drop}
use Rattle.areas.specs.Holders.{has_name}
use Rattle.areas.proofs.holders.add_all.Given as goal

-- those found and those to come are all, and those that were found before
abbrev pub invariant-loop-name : goal.invariant-loop-name
invariant-loop-name l = (b : List ℕ) → (has_name b (drop l.name-index l.names) || has_name b l.found) ≡ (has_name b l.names || has_name b l.initial.found)
