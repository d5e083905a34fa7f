use Rattle.tests_consoles.proofs.releasing_tests.the_desk_of_an_operator_lets_go_of_folded_receipts.Given as goal

abbrev pub ghosts-answers : goal.ghosts-answers
ghosts-answers g a = record { name = a.blank.name; parts = a.blank.parts }
