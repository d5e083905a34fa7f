use Rattle.tests_links.proofs.write_side_tests.a_gate_may_cut_the_link_before_a_write.Given as goal

abbrev pub ghosts-breaks : goal.ghosts-breaks
ghosts-breaks g a = record { name = a.blank.name; parts = a.blank.parts }
