use Rattle.tests_links.proofs.read_side_tests.read_until.Given as goal

abbrev pub ghosts-reads : goal.ghosts-reads
ghosts-reads g a = record { name = a.blank.name; parts = a.blank.parts }
