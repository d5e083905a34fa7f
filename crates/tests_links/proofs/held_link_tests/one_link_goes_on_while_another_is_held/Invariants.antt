use Rattle.tests_links.proofs.held_link_tests.one_link_goes_on_while_another_is_held.Given as goal

abbrev pub ghosts-overlaps : goal.ghosts-overlaps
ghosts-overlaps g a = record { name = a.blank.name; parts = a.blank.parts }
