use Rattle.journal_keeper.specs.Following.{PutsNext}
use Rattle.tests_journal.proofs.GivenLemmas.{Any}
use Rattle.tests_journal.proofs.given_journal.put.Given as goal

-- the lines that were passed are put, where they are next
abbrev pub invariant-loop-index : goal.invariant-loop-index
invariant-loop-index l = PutsNext Any l.initial.writing l.writing
