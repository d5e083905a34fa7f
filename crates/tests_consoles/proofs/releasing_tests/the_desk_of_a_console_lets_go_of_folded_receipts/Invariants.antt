use Rattle.tests_consoles.proofs.releasing_tests.the_desk_of_a_console_lets_go_of_folded_receipts.Given as goal

abbrev pub ghosts-rests : goal.ghosts-rests
ghosts-rests g a = record { name = a.blank.name; parts = a.blank.parts }
