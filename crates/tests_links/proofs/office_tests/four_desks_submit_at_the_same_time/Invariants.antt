use Rattle.tests_links.proofs.office_tests.four_desks_submit_at_the_same_time.Given as goal

abbrev pub ghosts-four_desks : goal.ghosts-four_desks
ghosts-four_desks g a = record { name = a.blank.name; parts = a.blank.parts }
