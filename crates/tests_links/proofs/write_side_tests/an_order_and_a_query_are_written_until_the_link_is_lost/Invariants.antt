use Rattle.tests_links.proofs.write_side_tests.an_order_and_a_query_are_written_until_the_link_is_lost.Given as goal

abbrev pub ghosts-at_once : goal.ghosts-at_once
ghosts-at_once g a = record { name = a.blank.name; parts = a.blank.parts }
