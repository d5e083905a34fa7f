use Rattle.std.proofs.Common.{◌≡◌, ℕ, ◌≤◌, ◌++◌, length, take, replicate}
use Rattle.journal_file.proofs.first_line.without_zeros.Given as goal

-- what was cut off are octets 00
abbrev pub invariant-loop-count : goal.invariant-loop-count
invariant-loop-count l = record { fits : l.count ≤ length l.octets; zeros : (zeros : ℕ) × (l.octets ≡ take l.count l.octets ++ replicate zeros 0) }

abbrev pub decreases-loop-count : goal.decreases-loop-count
decreases-loop-count l = l.count
