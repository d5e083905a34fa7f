use Rattle.tests_links.proofs.waking_tests.a_wish_with_a_cell_asks_for_later_cells.Given as goal

abbrev pub ghosts-asks_after : goal.ghosts-asks_after
ghosts-asks_after g a = record { name = a.blank.name; parts = a.blank.parts }
