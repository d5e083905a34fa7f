use Rattle.tests_links.proofs.folding_tests.a_side_that_reads_lets_go_of_folded_receipts.Given as goal

abbrev pub ghosts-held_after_reading : goal.ghosts-held_after_reading
ghosts-held_after_reading g a = record { name = a.blank.name; parts = a.blank.parts }
