use Rattle.tests_links.proofs.office_tests.a_missing_desk_is_named.Given as goal

abbrev pub ghosts-without_a_desk : goal.ghosts-without_a_desk
ghosts-without_a_desk g a = record { name = a.blank.name; parts = a.blank.parts }
