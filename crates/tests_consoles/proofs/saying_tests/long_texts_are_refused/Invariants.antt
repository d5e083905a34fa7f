use Rattle.tests_consoles.proofs.saying_tests.long_texts_are_refused.Given as goal

abbrev pub ghosts-counts : goal.ghosts-counts
ghosts-counts g a = record { name = a.blank.name; parts = a.blank.parts }
