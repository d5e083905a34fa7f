use Rattle.office_round.proofs.both.Given as goal

abbrev pub ghosts-round : goal.ghosts-round
ghosts-round g a = record { name = a.blank.name; parts = a.blank.parts }

abbrev pub ghosts-miss_a_desk : goal.ghosts-miss_a_desk
ghosts-miss_a_desk g a = record { name = a.blank.name; parts = a.blank.parts }
