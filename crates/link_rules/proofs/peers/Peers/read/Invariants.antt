use Rattle.std.proofs.Common.{◌≤◌, ◌+◌, length}
use Rattle.link_rules.proofs.LineLemmas.{AreLinesGoing}
use Rattle.link_rules.specs.Words.{lines_of}
use Rattle.link_rules.proofs.peers.Peers.read.Given as goal

-- the lines so far are read, and each of them was an octet at least
abbrev pub invariant-loop-line : goal.invariant-loop-line
invariant-loop-line l = record { going : AreLinesGoing l.all.items (lines_of l.rest) (lines_of l.text) l.passed; few : l.passed + length l.rest ≤ length l.text }

abbrev pub decreases-loop-line : goal.decreases-loop-line
decreases-loop-line l = length l.rest
