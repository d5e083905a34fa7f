use Rattle.tests_links.proofs.two_waits_tests.both_sides_of_a_bsc_are_woken.Given as goal

abbrev pub ghosts-both_woken : goal.ghosts-both_woken
ghosts-both_woken g a = record { name = a.blank.name; parts = a.blank.parts }
