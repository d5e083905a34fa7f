use Rattle.tests_links.proofs.own_wish_tests.an_own_wish_takes_no_others_place.Given as goal

abbrev pub ghosts-wishes : goal.ghosts-wishes
ghosts-wishes g a = record { name = a.blank.name; parts = a.blank.parts }
