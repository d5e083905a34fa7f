use Rattle.tests_links.proofs.sending_tests.a_stale_centre_is_told.Given as goal

abbrev pub ghosts-sends_after_issue : goal.ghosts-sends_after_issue
ghosts-sends_after_issue g a = record { name = a.blank.name; parts = a.blank.parts }
