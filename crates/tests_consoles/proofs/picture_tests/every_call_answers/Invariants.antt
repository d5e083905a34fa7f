use Rattle.tests_consoles.proofs.picture_tests.every_call_answers.Given as goal

abbrev pub ghosts-calls : goal.ghosts-calls
ghosts-calls g a = record { name = a.blank.name; parts = a.blank.parts }
