use Rattle.tests_links.proofs.waiting_tests.a_side_goes_on_for_what_is_to_be_done.Given as goal

abbrev pub ghosts-wakes : goal.ghosts-wakes
ghosts-wakes g a = record { name = a.blank.name; parts = a.blank.parts }
