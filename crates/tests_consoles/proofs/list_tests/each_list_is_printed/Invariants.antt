use Rattle.tests_consoles.proofs.list_tests.each_list_is_printed.Given as goal

abbrev pub ghosts-lists : goal.ghosts-lists
ghosts-lists g a = record { name = a.blank.name; parts = a.blank.parts }
