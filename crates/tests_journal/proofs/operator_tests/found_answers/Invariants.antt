use Rattle.tests_journal.proofs.operator_tests.found_answers.Given as goal

abbrev pub ghosts-answers : goal.ghosts-answers
ghosts-answers g a = record { name = a.blank.name; parts = a.blank.parts }
