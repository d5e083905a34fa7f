use Rattle.tests_journal.proofs.fold_tests.found_with_one_more.Given as goal

abbrev pub ghosts-enters_one_more : goal.ghosts-enters_one_more
ghosts-enters_one_more g a = record { name = a.blank.name; parts = a.blank.parts }
