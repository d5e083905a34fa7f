use Rattle.tests_sockets.proofs.settle_tests.a_desk_that_is_missing_is_a_settle_fault.Given as goal

abbrev pub ghosts-settles : goal.ghosts-settles
ghosts-settles g a = record { name = a.blank.name; parts = a.blank.parts }
