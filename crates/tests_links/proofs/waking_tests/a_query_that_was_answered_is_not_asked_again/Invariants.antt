use Rattle.tests_links.proofs.waking_tests.a_query_that_was_answered_is_not_asked_again.Given as goal

abbrev pub ghosts-woken_after_query : goal.ghosts-woken_after_query
ghosts-woken_after_query g a = record { name = a.blank.name; parts = a.blank.parts }
