use Rattle.tests_links.proofs.passage_tests.a_gate_is_told_what_passes.Given as goal

abbrev pub ghosts-passes : goal.ghosts-passes
ghosts-passes g a = record { name = a.blank.name; parts = a.blank.parts }
