use Rattle.tests_consoles.proofs.following_tests.a_console_that_follows_ends_with_the_program.Given as goal

abbrev pub ghosts-follows : goal.ghosts-follows
ghosts-follows g a = record { name = a.blank.name; parts = a.blank.parts }
