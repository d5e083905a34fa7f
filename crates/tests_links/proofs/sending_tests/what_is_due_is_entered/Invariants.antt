use Rattle.tests_links.proofs.sending_tests.what_is_due_is_entered.Given as goal

abbrev pub ghosts-turns : goal.ghosts-turns
ghosts-turns g a = record { name = a.blank.name; parts = a.blank.parts }
