use Rattle.tests_journal.proofs.peer_tests.written_of_its_own.Given as goal

abbrev pub ghosts-written : goal.ghosts-written
ghosts-written g a = record { name = a.blank.name; parts = a.blank.parts }
