use Rattle.tests_links.proofs.read_side_tests.a_refusal_ends_the_side.Given as goal

abbrev pub ghosts-refused : goal.ghosts-refused
ghosts-refused g a = record { name = a.blank.name; parts = a.blank.parts }
