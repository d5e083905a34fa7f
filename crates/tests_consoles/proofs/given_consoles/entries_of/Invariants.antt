use Rattle.tests_consoles.proofs.given_consoles.entries_of.Given as goal

abbrev pub ghosts-served : goal.ghosts-served
ghosts-served g a = record { name = a.blank.name; parts = a.blank.parts }
