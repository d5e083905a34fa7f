use Rattle.tests_sockets.proofs.port_tests.nothing_is_out_once_the_link_has_ended.Given as goal

abbrev pub ghosts-found : goal.ghosts-found
ghosts-found g a = record { name = a.blank.name; parts = a.blank.parts }
