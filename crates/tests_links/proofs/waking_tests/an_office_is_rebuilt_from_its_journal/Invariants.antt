use Rattle.tests_links.proofs.waking_tests.an_office_is_rebuilt_from_its_journal.Given as goal

abbrev pub ghosts-reads : goal.ghosts-reads
ghosts-reads g a = record { name = a.blank.name; parts = a.blank.parts }
