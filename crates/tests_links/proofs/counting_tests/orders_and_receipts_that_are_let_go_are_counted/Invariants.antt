use Rattle.tests_links.proofs.counting_tests.orders_and_receipts_that_are_let_go_are_counted.Given as goal

abbrev pub ghosts-sends : goal.ghosts-sends
ghosts-sends g a = record { name = a.blank.name; parts = a.blank.parts }
