use Rattle.tests_links.proofs.two_links_tests.one_link_does_not_wait_for_another.Given as goal

abbrev pub ghosts-overlaps : goal.ghosts-overlaps
ghosts-overlaps g a = record { name = a.blank.name; parts = a.blank.parts }
