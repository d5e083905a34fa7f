use Rattle.tests_links.proofs.write_side_tests.breaks_after.Given as goal

abbrev pub ghosts-breaks : goal.ghosts-breaks
ghosts-breaks g a = record { name = a.blank.name; parts = a.blank.parts }
