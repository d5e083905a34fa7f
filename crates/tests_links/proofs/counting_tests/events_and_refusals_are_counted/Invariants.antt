use Rattle.tests_links.proofs.counting_tests.events_and_refusals_are_counted.Given as goal

abbrev pub ghosts-counts : goal.ghosts-counts
ghosts-counts g a = record { name = a.blank.name; parts = a.blank.parts }
