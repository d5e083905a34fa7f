use Rattle.std.proofs.Common.{◌≡◌, ◌*◌, ◌≤◌, length, take}
use Rattle.cbsp_ie.specs.Written.{failures_octets}
use Rattle.cbsp_ie.proofs.failures.Failures.octets_len.Given as goal

-- the octets of the entries that the walk has passed
abbrev pub invariant-loop-entry : goal.invariant-loop-entry
invariant-loop-entry l = (l.octets ≡ length (failures_octets (take l.entry-index l.entries))) × (l.octets ≤ 9 * l.entry-index)
