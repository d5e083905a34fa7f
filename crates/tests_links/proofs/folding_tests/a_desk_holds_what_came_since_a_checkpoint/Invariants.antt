use Rattle.tests_links.proofs.folding_tests.a_desk_holds_what_came_since_a_checkpoint.Given as goal

abbrev pub ghosts-lets_go : goal.ghosts-lets_go
ghosts-lets_go g a = record { name = a.blank.name; parts = a.blank.parts }
