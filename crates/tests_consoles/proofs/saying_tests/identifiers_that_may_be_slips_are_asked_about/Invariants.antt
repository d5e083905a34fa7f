use Rattle.tests_consoles.proofs.saying_tests.identifiers_that_may_be_slips_are_asked_about.Given as goal

abbrev pub ghosts-asks_about_slips : goal.ghosts-asks_about_slips
ghosts-asks_about_slips g a = record { name = a.blank.name; parts = a.blank.parts }
