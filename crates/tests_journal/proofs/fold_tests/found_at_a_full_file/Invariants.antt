use Rattle.tests_journal.proofs.fold_tests.found_at_a_full_file.Given as goal

abbrev pub ghosts-ends_by_the_file : goal.ghosts-ends_by_the_file
ghosts-ends_by_the_file g a = record { name = a.blank.name; parts = a.blank.parts }
