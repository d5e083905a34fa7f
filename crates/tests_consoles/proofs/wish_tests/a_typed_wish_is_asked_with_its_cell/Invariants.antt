use Rattle.tests_consoles.proofs.wish_tests.a_typed_wish_is_asked_with_its_cell.Given as goal

abbrev pub ghosts-typed : goal.ghosts-typed
ghosts-typed g a = record { name = a.blank.name; parts = a.blank.parts }
