use Rattle.tests_links.proofs.sending_tests.a_wish_in_vain_is_refused.Given as goal

abbrev pub ghosts-asks_in_vain : goal.ghosts-asks_in_vain
ghosts-asks_in_vain g a = record { name = a.blank.name; parts = a.blank.parts }
