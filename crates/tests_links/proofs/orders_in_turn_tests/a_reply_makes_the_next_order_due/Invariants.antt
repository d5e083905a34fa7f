use Rattle.tests_links.proofs.orders_in_turn_tests.a_reply_makes_the_next_order_due.Given as goal

abbrev pub ghosts-at_once : goal.ghosts-at_once
ghosts-at_once g a = record { name = a.blank.name; parts = a.blank.parts }
