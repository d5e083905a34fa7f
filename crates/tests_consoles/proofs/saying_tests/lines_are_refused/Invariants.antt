use Rattle.tests_consoles.proofs.saying_tests.lines_are_refused.Given as goal

abbrev pub ghosts-refuses : goal.ghosts-refuses
ghosts-refuses g a = record { name = a.blank.name; parts = a.blank.parts }
