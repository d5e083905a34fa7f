use Rattle.tests_links.proofs.waking_tests.a_full_journal_does_not_hide_that_a_link_is_lost.Given as goal

abbrev pub ghosts-ends_full : goal.ghosts-ends_full
ghosts-ends_full g a = record { name = a.blank.name; parts = a.blank.parts }
