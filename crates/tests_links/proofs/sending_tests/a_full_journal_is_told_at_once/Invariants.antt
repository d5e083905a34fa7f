use Rattle.tests_links.proofs.sending_tests.a_full_journal_is_told_at_once.Given as goal

abbrev pub ghosts-fills : goal.ghosts-fills
ghosts-fills g a = record { name = a.blank.name; parts = a.blank.parts }
