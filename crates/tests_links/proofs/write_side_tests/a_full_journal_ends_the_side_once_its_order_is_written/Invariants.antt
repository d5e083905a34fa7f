use Rattle.tests_links.proofs.write_side_tests.a_full_journal_ends_the_side_once_its_order_is_written.Given as goal

abbrev pub ghosts-at_the_last_entry : goal.ghosts-at_the_last_entry
ghosts-at_the_last_entry g a = record { name = a.blank.name; parts = a.blank.parts }
