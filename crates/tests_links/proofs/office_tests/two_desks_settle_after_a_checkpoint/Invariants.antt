use Rattle.tests_links.proofs.office_tests.two_desks_settle_after_a_checkpoint.Given as goal

abbrev pub ghosts-two_desks : goal.ghosts-two_desks
ghosts-two_desks g a = record { name = a.blank.name; parts = a.blank.parts }
