use Rattle.tests_consoles.proofs.list_tests.a_reset_of_the_last_bsc_is_shown.Given as goal

abbrev pub ghosts-lists_resets : goal.ghosts-lists_resets
ghosts-lists_resets g a = record { name = a.blank.name; parts = a.blank.parts }
