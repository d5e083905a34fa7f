use Rattle.tests_links.proofs.sending_tests.a_side_that_waits_to_send_lets_go_of_folded_receipts.Given as goal

abbrev pub ghosts-held_after_wait : goal.ghosts-held_after_wait
ghosts-held_after_wait g a = record { name = a.blank.name; parts = a.blank.parts }
