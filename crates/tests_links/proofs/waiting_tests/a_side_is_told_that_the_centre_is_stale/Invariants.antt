use Rattle.tests_links.proofs.waiting_tests.a_side_is_told_that_the_centre_is_stale.Given as goal

abbrev pub ghosts-wakes_after_issue : goal.ghosts-wakes_after_issue
ghosts-wakes_after_issue g a = record { name = a.blank.name; parts = a.blank.parts }
