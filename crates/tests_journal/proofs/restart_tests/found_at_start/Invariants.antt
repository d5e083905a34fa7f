use Rattle.tests_journal.proofs.restart_tests.found_at_start.Given as goal

abbrev pub ghosts-starts : goal.ghosts-starts
ghosts-starts g a = record { name = a.blank.name; parts = a.blank.parts }
