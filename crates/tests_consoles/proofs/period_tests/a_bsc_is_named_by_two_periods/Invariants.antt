use Rattle.tests_consoles.proofs.period_tests.a_bsc_is_named_by_two_periods.Given as goal

abbrev pub ghosts-names_bscs : goal.ghosts-names_bscs
ghosts-names_bscs g a = record { name = a.blank.name; parts = a.blank.parts }
