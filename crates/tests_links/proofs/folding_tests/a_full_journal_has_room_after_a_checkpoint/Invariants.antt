use Rattle.tests_links.proofs.folding_tests.a_full_journal_has_room_after_a_checkpoint.Given as goal

abbrev pub ghosts-goes_on : goal.ghosts-goes_on
ghosts-goes_on g a = record { name = a.blank.name; parts = a.blank.parts }
