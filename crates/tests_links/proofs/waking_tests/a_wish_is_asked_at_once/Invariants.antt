use Rattle.tests_links.proofs.waking_tests.a_wish_is_asked_at_once.Given as goal

abbrev pub ghosts-woken_by : goal.ghosts-woken_by
ghosts-woken_by g a = record { name = a.blank.name; parts = a.blank.parts }
