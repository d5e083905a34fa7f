use Rattle.tests_links.proofs.following_tests.who_waits_for_an_entry_is_woken.Given as goal

abbrev pub ghosts-woken_by : goal.ghosts-woken_by
ghosts-woken_by g a = record { name = a.blank.name; parts = a.blank.parts }
