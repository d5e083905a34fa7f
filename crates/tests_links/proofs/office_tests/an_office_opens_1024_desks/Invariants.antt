use Rattle.tests_links.proofs.office_tests.an_office_opens_1024_desks.Given as goal

abbrev pub ghosts-every_desk : goal.ghosts-every_desk
ghosts-every_desk g a = record { name = a.blank.name; parts = a.blank.parts }
