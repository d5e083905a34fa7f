use Rattle.tests_links.proofs.sending_tests.an_order_that_fills_the_journal_is_told_to_all.Given as goal

abbrev pub ghosts-filled_by_order : goal.ghosts-filled_by_order
ghosts-filled_by_order g a = record { name = a.blank.name; parts = a.blank.parts }
