use Rattle.tests_consoles.proofs.saying_tests.texts_are_said.Given as goal

abbrev pub ghosts-says : goal.ghosts-says
ghosts-says g a = record { name = a.blank.name; parts = a.blank.parts }
