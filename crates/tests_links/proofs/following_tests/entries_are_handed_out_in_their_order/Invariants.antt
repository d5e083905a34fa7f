use Rattle.tests_links.proofs.following_tests.entries_are_handed_out_in_their_order.Given as goal

abbrev pub ghosts-follows : goal.ghosts-follows
ghosts-follows g a = record { name = a.blank.name; parts = a.blank.parts }
