use Rattle.tests_links.proofs.waking_tests.an_office_has_the_network_and_the_limit_that_it_is_given.Given as goal

abbrev pub ghosts-is_of_its_network : goal.ghosts-is_of_its_network
ghosts-is_of_its_network g a = record { name = a.blank.name; parts = a.blank.parts }
