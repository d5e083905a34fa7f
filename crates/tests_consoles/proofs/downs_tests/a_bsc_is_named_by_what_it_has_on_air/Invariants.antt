use Rattle.tests_consoles.proofs.downs_tests.a_bsc_is_named_by_what_it_has_on_air.Given as goal

abbrev pub ghosts-names_bscs : goal.ghosts-names_bscs
ghosts-names_bscs g a = record { name = a.blank.name; parts = a.blank.parts }
