use Rattle.std.proofs.Common.{length}
use Rattle.link_rules.proofs.PeerLemmas.{AreGoing}
use Rattle.link_rules.specs.Words.{words_of}
use Rattle.link_rules.proofs.reading.read_addresses.Given as goal

-- the words so far are read
abbrev pub invariant-loop-word : goal.invariant-loop-word
invariant-loop-word l = AreGoing l.bsc l.all.items l.initial.all.items (words_of l.rest) (words_of l.text) l.is_named

abbrev pub decreases-loop-word : goal.decreases-loop-word
decreases-loop-word l = length l.rest
