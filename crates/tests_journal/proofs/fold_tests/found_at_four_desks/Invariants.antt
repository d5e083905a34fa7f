use Rattle.tests_journal.proofs.fold_tests.found_at_four_desks.Given as goal

abbrev pub ghosts-enters_at_four_desks : goal.ghosts-enters_at_four_desks
ghosts-enters_at_four_desks g a = record { name = a.blank.name; parts = a.blank.parts }
