use Rattle.tests_links.proofs.waking_tests.a_side_that_waits_is_woken.Given as goal

abbrev pub ghosts-woken_by : goal.ghosts-woken_by
ghosts-woken_by g a = record { name = a.blank.name; parts = a.blank.parts }
